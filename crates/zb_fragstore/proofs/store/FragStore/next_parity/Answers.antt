use Rattle.std.proofs.Common.{ap, ◌∙◌}
use Rattle.zb_fragstore.specs.Seen.{SeenStore}
use Rattle.zb_fragstore.proofs.Told.{moved}
use Rattle.std.proofs.lemmas.List.{length-drop}
use Rattle.zb_fragstore.proofs.Found.{last_is_parity}
use Rattle.zb_fragstore.proofs.store.FragStore.next_parity.Goals as goal

pub returns-clause-told : goal.returns-clause-told
returns-clause-told g c tells is_open class =
    moved _ _ _ _ _ _ _ _ c.or_stopped.ensures c.move_slot-moved.ensures.rest is_open
    (ap (λ (s : SeenStore). s.geo) (c.self.view_is ∙ c.move_slot-moved.ensures.rest)) (c.platter.ensures ∙ ap (λ (s : SeenStore). s.server.0) c.move_slot-moved.ensures.rest)
    _ _ _ _ _ class (last_is_parity c.args.self.now c.args.id c.requires.parity) (length-drop 64 c.args.area.now) c.move_slot-moved.ensures.moved (c.replace_parity_at.ensures.told tells)
