use Rattle.zb_manager.proofs.Roomy.{StepsRoom}
use Rattle.zb_manager.proofs.reserving.room_for_steps.Given as goal

abbrev pub invariant-loop-step : goal.invariant-loop-step
invariant-loop-step l = StepsRoom l.initial.pointers l.pointers l.steps l.step-index
