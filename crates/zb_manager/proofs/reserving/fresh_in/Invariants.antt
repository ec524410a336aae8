use Rattle.std.proofs.Common.{◌≡◌, ◌+◌, length}
use Rattle.zb_manager.specs.Works.{fresh_in}
use Rattle.zb_manager.proofs.reserving.fresh_in.Given as goal

abbrev pub invariant-loop-delta : goal.invariant-loop-delta
invariant-loop-delta l = l.count + fresh_in l.rest ≡ fresh_in l.fn.deltas

abbrev pub decreases-loop-delta : goal.decreases-loop-delta
decreases-loop-delta l = length l.rest
