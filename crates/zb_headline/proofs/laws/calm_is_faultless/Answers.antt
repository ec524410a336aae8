use Rattle.zb_headline.proofs.laws.calm_is_faultless.Goals as goal
use Rattle.zb_headline.proofs.Faultless.{calm_is_faultless as law}

pub returns : goal.returns
returns c = law
