use Rattle.zb_headline.proofs.laws.rows_reasoned.Goals as goal
use Rattle.zb_headline.proofs.Reasoned.{rows_reasoned as law}

pub returns : goal.returns
returns c = law
