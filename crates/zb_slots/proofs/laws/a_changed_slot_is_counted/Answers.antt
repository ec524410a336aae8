use Rattle.zb_slots.proofs.Held.{counts_one}
use Rattle.zb_slots.proofs.laws.a_changed_slot_is_counted.Goals as goal

pub returns : goal.returns
returns c = counts_one
