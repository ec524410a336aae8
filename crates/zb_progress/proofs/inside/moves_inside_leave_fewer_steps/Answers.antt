use Rattle.std.proofs.Common.{refl}
use Rattle.zb_progress.proofs.Stepping.{call-falls}
use Rattle.zb_progress.proofs.inside.moves_inside_leave_fewer_steps.Goals as goal

pub returns-clause-call : goal.returns-clause-call
returns-clause-call c z t client none some = call-falls z t client none some

pub returns-clause-ready : goal.returns-clause-ready
returns-clause-ready c z t client is = refl
