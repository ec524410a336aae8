use Rattle.zb_slots.proofs.Held.{none_holds}
use Rattle.zb_slots.proofs.laws.unheld_names_stand_nowhere.Goals as goal

pub returns : goal.returns
returns c = none_holds
