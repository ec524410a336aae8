use Rattle.std.proofs.Common.{not, ap, ◌∙◌}
use Rattle.std.specs.List.{filter}
use Rattle.zb_types.specs.Names.{is_below}
use Rattle.zb_names.proofs.Together.{others-below}
use Rattle.zb_names.proofs.entries.EntryList.remove_within.Goals as goal

pub returns-clause-entries : goal.returns-clause-entries
returns-clause-entries c =
    c.remove_below.ensures.entries ∙ ap (filter (λ e. not (is_below c.args.path.now e.0))) c.remove.ensures.entries ∙ others-below c.args.path.now c.args.self.now.entries
