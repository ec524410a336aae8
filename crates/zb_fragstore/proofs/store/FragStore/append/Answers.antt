use Rattle.zb_fragstore.proofs.Refused.{refused, refused_by}
use Rattle.zb_fragstore.proofs.store.FragStore.append.Goals as goal

pub returns-in_err-check_generation-clause-told : goal.returns-in_err-check_generation-clause-told
returns-in_err-check_generation-clause-told g c tells is_open = refused_by _ _ _ _ c.from_residual.ensures.0 is_open

pub returns-in_default-clause-told : goal.returns-in_default-clause-told
returns-in_default-clause-told g c tells is_open = refused _ _ _ _ is_open

pub returns-clause-looked : goal.returns-clause-looked
returns-clause-looked g c tells is_open none fragment holds fault some = c.append_at_spot.ensures.looked tells is_open fragment holds fault some
