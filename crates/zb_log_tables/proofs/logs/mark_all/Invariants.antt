use Rattle.std.proofs.Common.{◌≡◌}
use Rattle.zb_log_tables.specs.Logs.{marked_log}
use Rattle.zb_log_tables.proofs.Mapping.{first_mapped}
use Rattle.zb_log_tables.proofs.logs.mark_all.Given as goal

abbrev pub invariant-loop-log : goal.invariant-loop-log
invariant-loop-log l = l.logs ≡ first_mapped marked_log l.log-index l.initial.logs
