use Rattle.zb_cleaner.proofs.Lawful.{moves_one}
use Rattle.zb_cleaner.proofs.laws.deltas_move_from_old_pointers.Goals as goal

pub returns : goal.returns
returns c = moves_one
