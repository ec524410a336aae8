use Rattle.zb_slots.proofs.Placed.{others_left}
use Rattle.zb_slots.proofs.laws.other_slots_stay.Goals as goal

pub returns : goal.returns
returns c = others_left
