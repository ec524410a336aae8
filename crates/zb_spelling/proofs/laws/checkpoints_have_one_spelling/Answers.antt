use Rattle.zb_spelling.proofs.Once.{tables_once}
use Rattle.zb_spelling.proofs.Room.{checkpoint_room}
use Rattle.zb_spelling.proofs.Whole.{few_bytes, one_spelling}
use Rattle.zb_spelling.proofs.laws.checkpoints_have_one_spelling.Goals as goal

pub returns-clause-one : goal.returns-clause-one
returns-clause-one c = one_spelling

pub returns-clause-fronts : goal.returns-clause-fronts
returns-clause-fronts c z few t u r s h g e = tables_once t u r s (checkpoint_room z t few h) (checkpoint_room z u few g) e

pub returns-clause-few : goal.returns-clause-few
returns-clause-few c = few_bytes
