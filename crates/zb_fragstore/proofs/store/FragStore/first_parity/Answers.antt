use Rattle.std.proofs.Common.{ap, ◌∙◌, refl}
use Rattle.zb_fragstore.specs.Seen.{SeenStore}
use Rattle.zb_fragstore.proofs.Refused.{refused_by}
use Rattle.zb_fragstore.proofs.Taken.{if_ok, changes_length, takes_least}
use Rattle.zb_fragstore.proofs.Told.{stored_parity}
use Rattle.std.proofs.lemmas.List.{length-drop}
use Rattle.zb_fragstore.proofs.store.FragStore.first_parity.Goals as goal

pub returns-in_err-slot-clause-told : goal.returns-in_err-slot-clause-told
returns-in_err-slot-clause-told g c tells is_open class = rw c.in_err-slot.ensures.same (refused_by _ _ _ _ c.from_residual.ensures.0 is_open)

pub returns-clause-stored : goal.returns-clause-stored
returns-clause-stored g c = if_ok c.or_stopped.result (changes_length c.args.id _ _ _ _ c.take_slot.ensures.rest refl c.in_ok-slot.ensures.taken.put)

pub returns-clause-least : goal.returns-clause-least
returns-clause-least g c = if_ok c.or_stopped.result (takes_least c.args.id c.in_ok-slot.slot _ c.args.self.now c.take_slot.new.self c.in_ok-slot.ensures.taken.least c.in_ok-slot.ensures.taken.put refl)

pub returns-clause-told : goal.returns-clause-told
returns-clause-told g c tells is_open class =
    stored_parity _ _ _ _ _ _ _ _ c.or_stopped.ensures c.take_slot.ensures.rest is_open
    (ap (λ (s : SeenStore). s.geo) (c.self.view_is ∙ c.take_slot.ensures.rest)) (c.platter.ensures ∙ ap (λ (s : SeenStore). s.server.0) c.take_slot.ensures.rest)
    _ _ _ _ class c.requires.absent (length-drop 64 c.args.area.now) c.in_ok-slot.ensures.taken (c.store_parity_at.ensures.told tells)
