use Rattle.zb_laws.proofs.laws.rows_agree.Goals as goal
use Rattle.zb_laws.proofs.Splits.{rows_agree as law}

pub returns : goal.returns
returns c = law
