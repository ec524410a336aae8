use Rattle.zb_delta.proofs.laws.deltas_have_one_length.Goals as goal
use Rattle.zb_delta.proofs.Lengths.{length-spelling_of_delta}

pub returns : goal.returns
returns c = length-spelling_of_delta
