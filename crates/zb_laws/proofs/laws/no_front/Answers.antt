use Rattle.zb_laws.proofs.laws.no_front.Goals as goal
use Rattle.zb_laws.proofs.Fronts.{no_front as law}

pub returns : goal.returns
returns c = law
