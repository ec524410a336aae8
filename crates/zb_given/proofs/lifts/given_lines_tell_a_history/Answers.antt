use Rattle.zb_given.proofs.lifts.given_lines_tell_a_history.Goals as goal
use Rattle.zb_given.proofs.RunLifting.{tells_legal_given}

pub returns : goal.returns
returns c = tells_legal_given
