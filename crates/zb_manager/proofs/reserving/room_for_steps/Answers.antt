use Rattle.zb_manager.proofs.Roomy.{steps_room}
use Rattle.zb_manager.proofs.reserving.room_for_steps.Goals as goal

pub returns-clause-ok : goal.returns-clause-ok
returns-clause-ok c = steps_room c.args.pointers.now c.loop-step.pointers c.args.steps.now c.loop-step.step-index c.loop-step.invariant c.loop-step-test.false
