use Rattle.std.proofs.Common.{◌≡◌, ◌+◌, length}
use Rattle.zb_platter.specs.Naming.{first_naming as first_of}
use Rattle.zb_platter.proofs.naming.first_naming.Given as goal

abbrev pub invariant-loop-entry : goal.invariant-loop-entry
invariant-loop-entry l = record {
  count : l.number + length l.rest ≡ l.fn.first + length l.fn.entries;
  same : first_of l.number l.fn.log l.fn.stripe l.rest ≡ first_of l.fn.first l.fn.log l.fn.stripe l.fn.entries;
}

abbrev pub decreases-loop-entry : goal.decreases-loop-entry
decreases-loop-entry l = length l.rest
