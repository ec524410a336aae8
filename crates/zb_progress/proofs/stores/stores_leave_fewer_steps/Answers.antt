use Rattle.std.proofs.Common.{subst, sym}
use Rattle.zb_progress.proofs.Stepping.{Fewer, done-falls, full-falls}
use Rattle.zb_progress.proofs.stores.stores_leave_fewer_steps.Goals as goal

pub returns-clause-done : goal.returns-clause-done
returns-clause-done c z t client basis formed asked heard e is heard_is = subst (Fewer z t client) (sym heard_is) (done-falls z t client basis formed e asked is)

pub returns-clause-full : goal.returns-clause-full
returns-clause-full c z t client basis formed free heard known e heard_is = subst (Fewer z t client) (sym heard_is) (full-falls z t client basis formed e free known.aim)
