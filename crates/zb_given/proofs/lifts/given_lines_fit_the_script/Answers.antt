use Rattle.zb_given.proofs.lifts.given_lines_fit_the_script.Goals as goal
use Rattle.zb_given.proofs.RunLifting.{lifts_run, lifts_threads, by_subject}

pub returns : goal.returns
returns c = record { run = lifts_run; threads = lifts_threads; by_subject = by_subject }
