use Rattle.zb_system.proofs.Inside.{ready_stays}
use Rattle.zb_system.proofs.EachStep.{has_stepped}
use Rattle.zb_system.proofs.stepping.steps_leave_nodes_sound.Goals as goal

pub returns-clause-step : goal.returns-clause-step
returns-clause-step c given lines old new i told s h = has_stepped s new i told h

pub returns-clause-ready : goal.returns-clause-ready
returns-clause-ready c given lines old new i s h = ready_stays s new i h
