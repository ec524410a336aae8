use Rattle.zb_laws.proofs.laws.tells_legal.Goals as goal
use Rattle.zb_laws.proofs.ReadPoints.{tells_legal as law}

pub returns : goal.returns
returns c = law
