use Rattle.zb_given.proofs.worked.wrong_rows_are_not.Goals as goal
use Rattle.zb_given.proofs.Rows.{wrong_given}

pub returns : goal.returns
returns c = wrong_given
