use Rattle.zb_tables.proofs.Pointers.{ops_points}
use Rattle.zb_tables.proofs.Retiring.{both_points}
use Rattle.zb_tables.proofs.laws.pointers_stay_in_what_is_held.Goals as goal

pub returns-clause-batch : goal.returns-clause-batch
returns-clause-batch c b held ops s after points lie e = ops_points held b ops s after points lie e

pub returns-clause-retire : goal.returns-clause-retire
returns-clause-retire c held log stripe files other points = both_points held log stripe files other points
