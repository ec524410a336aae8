use Rattle.zb_index.proofs.Held.{depends}
use Rattle.zb_index.proofs.laws.an_index_depends_on_its_slots.Goals as goal

pub returns : goal.returns
returns c = depends
