use Rattle.zb_slots.proofs.Held.{one_holds}
use Rattle.zb_slots.proofs.laws.one_slot_holds_a_name.Goals as goal

pub returns : goal.returns
returns c = one_holds
