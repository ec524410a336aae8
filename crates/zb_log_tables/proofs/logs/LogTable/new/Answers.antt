use Rattle.std.proofs.Common.{sym, subst}
use Rattle.zb_log_tables.specs.Logs.{AreLogs}
use Rattle.zb_log_tables.proofs.LogPlaces.{no_logs}
use Rattle.zb_log_tables.proofs.logs.LogTable.new.Goals as goal

pub invariant_of-result : goal.invariant_of-result
invariant_of-result c = subst AreLogs (sym c.new.ensures.items) no_logs
