use Rattle.std.proofs.Common.{◌<◌, arith}
use Rattle.zb_types.specs.declared.ids.FragId.{FragId}
use Rattle.zb_sound.proofs.Fronts.{new_still, plan_of, new_server_still}
use Rattle.zb_sound.proofs.last_flushes.nothing_is_of_new_logs.Goals as goal

pub returns-clause-request : goal.returns-clause-request
returns-clause-request c maps asked next_log before nothing = new_still maps asked next_log before nothing

pub returns-clause-plan : goal.returns-clause-plan
returns-clause-plan c n f out class flush i asked next_log is lt = plan_of (λ (id : FragId). id.log.0 < next_log) n f out class flush (λ q a k. lt) i asked is

pub returns-clause-attach : goal.returns-clause-attach
returns-clause-attach c maps next_log more nothing le server id above = nothing server id (omega arith)

pub returns-clause-server : goal.returns-clause-server
returns-clause-server c st new a next_log same none nothing = new_server_still st new a next_log same none nothing
