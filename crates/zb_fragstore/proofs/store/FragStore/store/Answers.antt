use Rattle.std.proofs.Common.{ap, sym, ◌∙◌, refl, is_some}
use Rattle.zb_fragstore.specs.Seen.{SeenStore}
use Rattle.zb_fragstore.proofs.Refused.{refused, refused_by}
use Rattle.zb_fragstore.proofs.Taken.{if_ok, changes_length, takes_least}
use Rattle.zb_fragstore.proofs.Told.{stored}
use Rattle.zb_fragstore.proofs.store.FragStore.store.Goals as goal

pub returns-in_err-check_generation-clause-told : goal.returns-in_err-check_generation-clause-told
returns-in_err-check_generation-clause-told g c tells is_open = refused_by _ _ _ _ c.from_residual.ensures.0 is_open

pub returns-then-is_some-clause-told : goal.returns-then-is_some-clause-told
returns-then-is_some-clause-told g c tells is_open = refused _ _ _ _ is_open

pub returns-in_err-check_room-clause-told : goal.returns-in_err-check_room-clause-told
returns-in_err-check_room-clause-told g c tells is_open = refused_by _ _ _ _ c.from_residual-in_err-check_room.ensures.0 is_open

pub returns-in_err-slot-clause-told : goal.returns-in_err-slot-clause-told
returns-in_err-slot-clause-told g c tells is_open = rw c.in_err-slot.ensures.same (refused_by _ _ _ _ c.from_residual-in_err-slot.ensures.0 is_open)

pub returns-clause-stored : goal.returns-clause-stored
returns-clause-stored g c = if_ok c.or_stopped.result (changes_length c.args.id _ _ _ _ c.take_slot.ensures.rest refl c.in_ok-slot.ensures.taken.put)

pub returns-clause-least : goal.returns-clause-least
returns-clause-least g c = if_ok c.or_stopped.result (takes_least c.args.id c.in_ok-slot.slot _ c.args.self.now c.take_slot.new.self c.in_ok-slot.ensures.taken.least c.in_ok-slot.ensures.taken.put refl)

pub returns-clause-told : goal.returns-clause-told
returns-clause-told g c tells is_open =
    stored _ _ _ _ _ _ _ _ c.or_stopped.ensures c.take_slot.ensures.rest is_open
    (ap (λ (s : SeenStore). s.geo) (c.self.view_is ∙ c.take_slot.ensures.rest)) (c.platter.ensures ∙ ap (λ (s : SeenStore). s.server.0) c.take_slot.ensures.rest)
    _ _ _ _ (ap is_some (sym c.find.ensures.spot) ∙ sym c.is_some.ensures ∙ c.if-is_some.false) c.in_ok-slot.ensures.taken (c.store_at.ensures.told tells)
