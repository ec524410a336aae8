use Rattle.zb_given.proofs.loops.loop_begins.Goals as goal
use Rattle.zb_given.proofs.Looping.{is_first}

pub returns : goal.returns
returns c = is_first
