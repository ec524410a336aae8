use Rattle.std.proofs.Common.{◌≡◌, length}
use Rattle.zb_pointers.specs.Seen.{files_in}
use Rattle.zb_pointers.proofs.in_order.Files.next.Given as goal

abbrev pub invariant-loop-number : goal.invariant-loop-number
invariant-loop-number l = files_in l.self-inside.rest ≡ l.fn.self

abbrev pub decreases-loop-number : goal.decreases-loop-number
decreases-loop-number l = length l.self-inside.rest
