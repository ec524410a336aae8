use Rattle.zb_slots.proofs.Held.{others_stay}
use Rattle.zb_slots.proofs.laws.other_names_stay.Goals as goal

pub returns : goal.returns
returns c = others_stay
