use Rattle.std.proofs.Common.{sym}
use Rattle.zb_types.specs.Keyed.{look}
use Rattle.zb_tables.proofs.Logs.{commit_log, commit_other}
use Rattle.zb_tables.proofs.log_laws.commit_leaves_logs.Goals as goal

pub returns-clause-log : goal.returns-clause-log
returns-clause-log c t log number pieces s l at = commit_log log number pieces s.replies t.logs l at

pub returns-clause-others : goal.returns-clause-others
returns-clause-others c t log number pieces s k other = commit_other log number pieces s.replies t.logs (look log.0 t.logs) k (λ e. other (sym e))
