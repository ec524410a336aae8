use Rattle.zb_manager.proofs.Folding.{is_folded, last_replies}
use Rattle.zb_manager.proofs.laws.a_prepared_batch_is_folded.Goals as goal

pub returns-clause-folded : goal.returns-clause-folded
returns-clause-folded c b generation t batch pieces p is = is_folded b t batch pieces p is generation

pub returns-clause-replies : goal.returns-clause-replies
returns-clause-replies c b t batch pieces p l is at = last_replies b t batch pieces p is l at
