use Rattle.zb_turns.proofs.Replies.{all_replied}
use Rattle.zb_turns.proofs.laws.each_operation_is_replied.Goals as goal

pub returns : goal.returns
returns c b ops s after all done = all_replied b ops s after all done
