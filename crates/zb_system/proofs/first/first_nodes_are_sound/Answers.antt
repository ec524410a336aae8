use Rattle.zb_system.proofs.Starting.{first_are_sound}
use Rattle.zb_system.proofs.first.first_nodes_are_sound.Goals as goal

pub returns : goal.returns
returns c n a = first_are_sound n a
