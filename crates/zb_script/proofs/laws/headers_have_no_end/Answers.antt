use Rattle.zb_script.proofs.Ends.{header}
use Rattle.zb_script.proofs.laws.headers_have_no_end.Goals as goal

pub returns : goal.returns
returns c = header
