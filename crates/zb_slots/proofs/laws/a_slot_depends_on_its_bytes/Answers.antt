use Rattle.zb_slots.proofs.Placed.{depends}
use Rattle.zb_slots.proofs.laws.a_slot_depends_on_its_bytes.Goals as goal

pub returns : goal.returns
returns c = depends
