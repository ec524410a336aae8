use Rattle.std.proofs.Common.{◌≡◌}
use Rattle.zb_log_tables.specs.Logs.{ended_log}
use Rattle.zb_log_tables.proofs.Mapping.{first_mapped}
use Rattle.zb_log_tables.proofs.logs.end_all.Given as goal

abbrev pub invariant-loop-log : goal.invariant-loop-log
invariant-loop-log l = l.logs ≡ first_mapped (ended_log l.owner) l.log-index l.initial.logs
