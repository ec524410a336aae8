use Rattle.zb_fragstore.proofs.Beside.{free_known}
use Rattle.zb_fragstore.proofs.laws.free_slots_are_known.Goals as goal

pub returns : goal.returns
returns c = free_known
