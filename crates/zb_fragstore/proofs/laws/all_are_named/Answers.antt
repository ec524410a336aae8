use Rattle.zb_fragstore.proofs.Named.{all_named as law}
use Rattle.zb_fragstore.proofs.laws.all_are_named.Goals as goal

pub returns : goal.returns
returns c = law
