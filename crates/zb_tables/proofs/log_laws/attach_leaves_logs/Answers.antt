use Rattle.std.proofs.Common.{sym, ◌∙◌}
use Rattle.zb_types.specs.Keyed.{changed}
use Rattle.zb_types.proofs.KeyedLists.{look-put_same, look-put_other, IsRising-from_ordered}
use Rattle.zb_tables.specs.Fold.{kept_logs, ended, new_log}
use Rattle.zb_tables.proofs.Logs.{attach_other, attach_ends, attach_before}
use Rattle.zb_tables.proofs.log_laws.attach_leaves_logs.Goals as goal

pub returns-clause-new : goal.returns-clause-new
returns-clause-new c t owner log = look-put_same log.0 (new_log owner) (kept_logs t.held (changed (ended owner) t.logs))

pub returns-clause-others : goal.returns-clause-others
returns-clause-others c t owner log k l other at live of_other =
    look-put_other k log.0 (new_log owner) (kept_logs t.held (changed (ended owner) t.logs)) (λ e. other (sym e)) ∙ attach_other t.held owner k l t.logs at live of_other

pub returns-clause-ended : goal.returns-clause-ended
returns-clause-ended c t owner log k l other at live =
    attach_ends t.held owner k l t.logs (sym (look-put_other k log.0 (new_log owner) (kept_logs t.held (changed (ended owner) t.logs)) (λ e. other (sym e))) ∙ at) live

pub returns-clause-before : goal.returns-clause-before
returns-clause-before c t owner log k l rising other at live =
    attach_before t.held owner k l t.logs (IsRising-from_ordered t.logs rising) (sym (look-put_other k log.0 (new_log owner) (kept_logs t.held (changed (ended owner) t.logs)) (λ e. other (sym e))) ∙ at) live
