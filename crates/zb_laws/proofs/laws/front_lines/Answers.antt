use Rattle.zb_laws.proofs.laws.front_lines.Goals as goal
use Rattle.zb_laws.proofs.Fronts.{front_lines as law}

pub returns : goal.returns
returns c = law
