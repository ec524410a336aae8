use Rattle.zb_line_laws.proofs.Taking.{taken_fits}
use Rattle.zb_line_laws.proofs.taken.taken_calls_fit.Goals as goal

pub returns : goal.returns
returns c given lines client fit h none = taken_fits given lines client fit h none
