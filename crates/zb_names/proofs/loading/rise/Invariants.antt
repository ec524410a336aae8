use Rattle.std.proofs.Common.{◌≡◌, length}
use Rattle.zb_names.specs.Loading.{rise, paths_of}
use Rattle.zb_names.proofs.loading.rise.Given as goal

abbrev pub invariant-loop-rest : goal.invariant-loop-rest
invariant-loop-rest l = rise (paths_of l.rest) ≡ rise (paths_of l.list)

abbrev pub decreases-loop-rest : goal.decreases-loop-rest
decreases-loop-rest l = length l.rest
