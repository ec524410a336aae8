use Rattle.std.proofs.Common.{◌≡◌, ◌<◌, ◌^◌, ◌++◌, length}
use Rattle.std.specs.List.{flat_map, AllByRecursion}
use Rattle.zb_log_tables.specs.Logs.{IsLast, states_of}
use Rattle.zb_spelling.specs.Spelling.{log_text}
use Rattle.zb_spelling.proofs.logs.push_all.Given as goal

abbrev pub invariant-loop-log : goal.invariant-loop-log
invariant-loop-log l = record {
  text : l.to ++ flat_map log_text (states_of l.rest) ≡ l.fn.to ++ flat_map log_text (states_of l.fn.logs);
  last : AllByRecursion (λ log. IsLast log.last) l.rest;
  counts : AllByRecursion (λ e. length (e.1).replies < 2 ^ 32) (states_of l.rest) → AllByRecursion (λ e. length (e.1).replies < 2 ^ 32) (states_of l.fn.logs);
}

abbrev pub decreases-loop-log : goal.decreases-loop-log
decreases-loop-log l = length l.rest
