use Rattle.std.proofs.Common.{◌≡◌, ◌+◌, ◌<◌, ◌^◌, length}
use Rattle.zb_pointers.proofs.pointers.Pointers.count.Given as goal

abbrev pub invariant-loop-files : goal.invariant-loop-files
invariant-loop-files l = (l.count + length l.files ≡ length l.self.files) × (length l.self.files < 2 ^ 63)

abbrev pub decreases-loop-files : goal.decreases-loop-files
decreases-loop-files l = length l.files
