use Rattle.zb_headline.proofs.laws.wrong_claims_fail.Goals as goal
use Rattle.zb_headline.proofs.Wrong.{wrong_claims as law}

pub returns : goal.returns
returns c = law
