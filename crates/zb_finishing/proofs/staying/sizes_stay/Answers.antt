use Rattle.std.proofs.Common.{refl}
use Rattle.zb_system.specs.Nodes.{with_client as changed}
use Rattle.zb_finishing.proofs.Sized.{ready_sized, set_sized, step_sized}
use Rattle.zb_finishing.proofs.staying.sizes_stay.Goals as goal

pub returns-clause-step : goal.returns-clause-step
returns-clause-step c old new i told h = step_sized old new i told h

pub returns-clause-ready : goal.returns-clause-ready
returns-clause-ready c old new i r = ready_sized old new i r

pub returns-clause-with_client : goal.returns-clause-with_client
returns-clause-with_client c n i client = set_sized n (changed n i client) i client refl refl refl
