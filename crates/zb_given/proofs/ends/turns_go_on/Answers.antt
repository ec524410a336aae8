use Rattle.zb_given.proofs.ends.turns_go_on.Goals as goal
use Rattle.zb_given.proofs.Ending.{turns_on, turns_stay}

pub returns : goal.returns
returns c = record { next = turns_on; lines = turns_stay }
