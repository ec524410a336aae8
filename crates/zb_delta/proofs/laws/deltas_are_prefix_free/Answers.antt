use Rattle.zb_delta.proofs.laws.deltas_are_prefix_free.Goals as goal
use Rattle.zb_delta.proofs.Once.{delta_once}

pub returns : goal.returns
returns c = delta_once
