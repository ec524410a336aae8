use Rattle.zb_given.proofs.lifts.ends_are_those_of_the_script.Goals as goal
use Rattle.zb_given.proofs.Ending.{lifts_ended, lifts_last}

pub returns : goal.returns
returns c = record { same = lifts_ended; last = lifts_last }
