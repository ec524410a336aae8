use Rattle.std.proofs.Common.{◌≡◌, ◌<◌, ℕ, false}
use Rattle.zb_log_tables.specs.Logs.{states_of}
use Rattle.zb_spelling.specs.Limits.{lives_again}
use Rattle.zb_spelling.proofs.limits.each_lives_once.Given as goal

abbrev pub invariant-loop-owner : goal.invariant-loop-owner
invariant-loop-owner l = (owner : ℕ) → owner < l.owner → lives_again owner false (states_of l.logs) ≡ false
