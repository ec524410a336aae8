use Rattle.std.proofs.Common.{◌≡◌, false, length}
use Rattle.zb_log_tables.specs.Logs.{states_of}
use Rattle.zb_spelling.specs.Limits.{lives_again}
use Rattle.zb_spelling.proofs.limits.lives_again.Given as goal

abbrev pub invariant-loop-log : goal.invariant-loop-log
invariant-loop-log l = lives_again l.owner l.found (states_of l.rest) ≡ lives_again l.owner false (states_of l.fn.logs)

abbrev pub decreases-loop-log : goal.decreases-loop-log
decreases-loop-log l = length l.rest
