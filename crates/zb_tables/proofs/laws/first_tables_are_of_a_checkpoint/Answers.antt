use Rattle.zb_tables.proofs.First.{first_are}
use Rattle.zb_tables.proofs.laws.first_tables_are_of_a_checkpoint.Goals as goal

pub returns : goal.returns
returns c z = first_are z
