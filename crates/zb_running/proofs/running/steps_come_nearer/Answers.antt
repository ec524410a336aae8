use Rattle.zb_running.proofs.Steps.{nearer}
use Rattle.zb_running.proofs.running.steps_come_nearer.Goals as goal

pub returns : goal.returns
returns c geo given lines old new client did r h made free = nearer r new client did h made free
