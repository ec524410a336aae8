use Rattle.zb_given.proofs.loops.steps_keep_the_loop.Goals as goal
use Rattle.zb_given.proofs.Looping.{steps_own, steps_other, other_clients, steps_past}

pub returns : goal.returns
returns c = record { own = steps_own; other = steps_other; other_clients = other_clients; between = steps_past }
