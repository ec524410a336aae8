use Rattle.zb_slot_map.proofs.Fencing.{set_as}
use Rattle.zb_slot_map.proofs.super_cell.set_super.Goals as goal

pub returns-in-Ok-clause-told : goal.returns-in-Ok-clause-told
returns-in-Ok-clause-told g c tells settled large = set_as c.in-Ok.field-0 tt c.spell_super-payload.ensures (c.in-Ok.ensures.told tells settled large)
