use Rattle.std.proofs.Common.{◌≡◌, length}
use Rattle.std.specs.Prelude.{slice_get}
use Rattle.std.specs.Map.{keys_of}
use Rattle.zb_pointers.proofs.pointers.Pointers.at.Given as goal

abbrev pub invariant-loop-fid : goal.invariant-loop-fid
invariant-loop-fid l = slice_get (keys_of l.files) l.left ≡ slice_get (keys_of l.self.files) l.i

abbrev pub decreases-loop-fid : goal.decreases-loop-fid
decreases-loop-fid l = length l.files
