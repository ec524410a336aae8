use Rattle.std.proofs.Common.{ap, ◌∙◌, refl}
use Rattle.zb_fragstore.specs.Seen.{SeenStore}
use Rattle.zb_fragstore.proofs.Taken.{if_ok, changes_length}
use Rattle.zb_fragstore.proofs.Appended.{grown}
use Rattle.zb_fragstore.proofs.store.FragStore.put_behind.Goals as goal

pub returns-clause-grown : goal.returns-clause-grown
returns-clause-grown g c = if_ok c.or_stopped.result (changes_length c.args.id _ _ _ _ c.lengthen.ensures.rest refl c.lengthen.ensures.longer.put)

pub returns-clause-told : goal.returns-clause-told
returns-clause-told g c tells is_open =
    grown _ _ _ _ _ _ _ _ _ c.args.spot _ c.or_stopped.ensures c.lengthen.ensures.rest is_open
    (ap (λ (s : SeenStore). s.geo) (c.self.view_is ∙ c.lengthen.ensures.rest)) (c.platter.ensures ∙ ap (λ (s : SeenStore). s.server.0) c.lengthen.ensures.rest)
    c.requires.there c.requires.share c.lengthen.ensures.longer (c.append_at.ensures.told tells)
