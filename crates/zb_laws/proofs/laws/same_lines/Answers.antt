use Rattle.zb_laws.proofs.laws.same_lines.Goals as goal
use Rattle.zb_laws.proofs.Fronts.{same_lines as law}

pub returns : goal.returns
returns c = law
