use Rattle.zb_index.proofs.Held.{free_counted}
use Rattle.zb_index.proofs.laws.free_slots_are_counted.Goals as goal

pub returns : goal.returns
returns c = free_counted
