use Rattle.std.proofs.Common.{refl}
use Rattle.zb_tables.proofs.Logs.{mark_live, mark_dead, mark_none}
use Rattle.zb_tables.proofs.log_laws.mark_leaves_logs.Goals as goal

pub returns-clause-live : goal.returns-clause-live
returns-clause-live c state logs k l some at live = mark_live state logs k l some at live

pub returns-clause-ended : goal.returns-clause-ended
returns-clause-ended c state logs k l at dead = mark_dead state logs k l at dead

pub returns-clause-none : goal.returns-clause-none
returns-clause-none c state logs k at = mark_none state logs k at

pub returns-clause-whole : goal.returns-clause-whole
returns-clause-whole c logs = refl
