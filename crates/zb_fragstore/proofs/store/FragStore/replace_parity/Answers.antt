use Rattle.std.proofs.Common.{sym}
use Rattle.zb_fragstore.proofs.Refused.{refused_by}
use Rattle.std.proofs.Common.{subst}
use Rattle.zb_slots.specs.Area.{IsArea}
use Rattle.zb_fragstore.proofs.Told.{parity_given}
use Rattle.zb_fragstore.proofs.store.FragStore.replace_parity.Goals as goal

pub returns-in_err-check_generation-clause-told : goal.returns-in_err-check_generation-clause-told
returns-in_err-check_generation-clause-told g c tells is_open = refused_by _ _ _ _ c.from_residual.ensures.0 is_open

pub returns-in_err-check_room-clause-told : goal.returns-in_err-check_room-clause-told
returns-in_err-check_room-clause-told g c tells is_open = refused_by _ _ _ _ c.from_residual-in_err-check_room.ensures.0 is_open

pub returns-in_err-area-clause-told : goal.returns-in_err-area-clause-told
returns-in_err-area-clause-told g c tells is_open = refused_by _ _ _ _ c.from_residual-in_err-area.ensures.0 is_open

pub returns-then-is_there-2-clause-told : goal.returns-then-is_there-2-clause-told
returns-then-is_there-2-clause-told g c tells is_open = parity_given _ _ _ _ _ _ _ _ _ _ _ (subst (IsArea c.args.lengths.now c.args.bytes.now) (sym c.deref.ensures.value) c.in_ok-area.ensures.area) c.requires.lengths (c.next_parity.ensures.told tells is_open c.args.class)

pub returns-clause-told : goal.returns-clause-told
returns-clause-told g c tells is_open = parity_given _ _ _ _ _ _ _ _ _ _ _ (subst (IsArea c.args.lengths.now c.args.bytes.now) (sym c.deref-else-is_there-2.ensures.value) c.in_ok-area.ensures.area) c.requires.lengths (c.first_parity.ensures.told tells is_open c.args.class)
