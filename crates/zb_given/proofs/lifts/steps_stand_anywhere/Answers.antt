use Rattle.zb_given.proofs.lifts.steps_stand_anywhere.Goals as goal
use Rattle.zb_given.proofs.StepLifting.{steps_anywhere}

pub returns : goal.returns
returns c = steps_anywhere
