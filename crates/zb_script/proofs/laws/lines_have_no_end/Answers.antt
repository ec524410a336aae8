use Rattle.zb_script.proofs.Ends.{line}
use Rattle.zb_script.proofs.laws.lines_have_no_end.Goals as goal

pub returns : goal.returns
returns c = line
