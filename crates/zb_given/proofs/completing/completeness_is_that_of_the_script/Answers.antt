use Rattle.zb_given.proofs.completing.completeness_is_that_of_the_script.Goals as goal
use Rattle.zb_given.proofs.Ending.{gives_in_turn, lifts_complete}

pub returns : goal.returns
returns c = record { in_turn = gives_in_turn; complete = lifts_complete }
