use Rattle.zb_fragstore.proofs.Named.{names_known as law}
use Rattle.zb_fragstore.proofs.laws.names_are_known.Goals as goal

pub returns : goal.returns
returns c = law
