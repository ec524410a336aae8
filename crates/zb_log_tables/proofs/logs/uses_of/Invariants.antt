use Rattle.std.proofs.Common.{◌≡◌, ◌++◌, length, map}
use Rattle.zb_tables.specs.Finding.{use_of}
use Rattle.zb_log_tables.specs.Logs.{states_of}
use Rattle.zb_log_tables.proofs.logs.uses_of.Given as goal

abbrev pub invariant-loop-log : goal.invariant-loop-log
invariant-loop-log l = l.uses ++ map use_of (states_of l.rest) ≡ map use_of (states_of l.fn.logs)

abbrev pub decreases-loop-log : goal.decreases-loop-log
decreases-loop-log l = length l.rest
