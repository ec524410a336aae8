use Rattle.std.proofs.Common.{rules, ◌∙◌, ap}
use Rattle.std.specs.Prelude.{filter}
use Rattle.std.proofs.lemmas.Fn.{filter_same}
use Rattle.zb_pass.specs.Sweeping.{is_stray}
use Rattle.zb_pass.proofs.sweeping.strays.Goals as goal

pub returns : goal.returns
returns c = c.of.ensures ∙ (filter_same _ (is_stray c.args.status.now) _ (λ x b f' k. search rules) _ _ c.retain.ensures.filtered ∙ ap (filter (is_stray c.args.status.now)) c.into_items-ids.ensures)
