use Rattle.zb_outside.proofs.Keeping.{beside as law}
use Rattle.zb_outside.proofs.laws.beside_a_torn_range.Goals as goal

pub returns : goal.returns
returns c = law
