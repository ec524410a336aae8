use Rattle.zb_finishing.proofs.Reported.{more_name}
use Rattle.zb_finishing.proofs.telling.lines_name_calls.Goals as goal

pub returns : goal.returns
returns c given lines more fit = more_name given lines more fit
