use Rattle.zb_types.proofs.KeyedLists.{IsRising-from_ordered}
use Rattle.zb_tables.specs.Fold.{retired}
use Rattle.zb_tables.proofs.Logs.{live_kept, kept_from}
use Rattle.zb_tables.proofs.log_laws.retire_leaves_logs.Goals as goal

pub returns-clause-live : goal.returns-clause-live
returns-clause-live c t log stripe k l at live = live_kept (retired log stripe t.held) k l t.logs at live

pub returns-clause-before : goal.returns-clause-before
returns-clause-before c t log stripe k l rising at = kept_from (retired log stripe t.held) k l t.logs (IsRising-from_ordered t.logs rising) at
