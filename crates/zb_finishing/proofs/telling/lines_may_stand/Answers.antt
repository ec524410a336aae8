use Rattle.zb_finishing.proofs.Reported.{all_stand}
use Rattle.zb_finishing.proofs.telling.lines_may_stand.Goals as goal

pub returns : goal.returns
returns c geo given client lines own few may names replies = all_stand geo given client own few lines may names replies
