use Rattle.zb_laws.proofs.laws.one_spelling.Goals as goal
use Rattle.zb_laws.proofs.Script.{one_spelling as law}

pub returns : goal.returns
returns c = law
