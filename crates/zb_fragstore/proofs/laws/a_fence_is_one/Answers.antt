use Rattle.zb_fragstore.proofs.Beside.{one_fence}
use Rattle.zb_fragstore.proofs.laws.a_fence_is_one.Goals as goal

pub returns : goal.returns
returns c = one_fence
