use Rattle.zb_index.proofs.Held.{held_once}
use Rattle.zb_index.proofs.laws.names_are_held_once.Goals as goal

pub returns : goal.returns
returns c = held_once
