use Rattle.zb_progress.proofs.LookingUp.{found-falls, named-falls}
use Rattle.zb_progress.proofs.lookups.lookups_leave_fewer_steps.Goals as goal

pub returns-clause-found : goal.returns-clause-found
returns-clause-found c slots w seen client task hold asks heard a known s is_task at_lookup is on = found-falls slots w a seen client known s task is_task at_lookup hold asks is heard on

pub returns-clause-named : goal.returns-clause-named
returns-clause-named c z t client task call reply is_task at_lookup is = named-falls z t client task is_task reply call is
