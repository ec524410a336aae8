use Rattle.zb_recovery.proofs.Once.{recovers_once}
use Rattle.zb_recovery.proofs.laws.recovered_is_one_tree.Goals as goal

pub returns : goal.returns
returns c b platter v one other two pos r s = recovers_once b platter v one other two pos r s
