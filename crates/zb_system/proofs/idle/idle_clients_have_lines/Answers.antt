use Rattle.zb_system.proofs.Resting.{has_last, has_lines}
use Rattle.zb_system.proofs.idle.idle_clients_have_lines.Goals as goal

pub returns-clause-lines : goal.returns-clause-lines
returns-clause-lines c given lines n i client s is idle = has_lines given lines n i client s is idle

pub returns-clause-last : goal.returns-clause-last
returns-clause-last c given lines n i client s is idle kept = has_last given lines n i client s is idle kept
