use Rattle.zb_given.proofs.lifts.ahead_is_ahead_of_the_script.Goals as goal
use Rattle.zb_given.proofs.AheadLifting.{lifts_ahead, lifts_ahead_threads}

pub returns : goal.returns
returns c = record { run = lifts_ahead; threads = lifts_ahead_threads }
