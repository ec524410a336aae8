use Rattle.std.proofs.Common.{length}
use Rattle.zb_manager.proofs.Carrying.{Cleans}
use Rattle.zb_manager.proofs.cleaning.movable.Given as goal

abbrev pub invariant-loop-delta : goal.invariant-loop-delta
invariant-loop-delta l = Cleans l.pointers.files l.rest l.fn.deltas l.cleaning

abbrev pub decreases-loop-delta : goal.decreases-loop-delta
decreases-loop-delta l = length l.rest
