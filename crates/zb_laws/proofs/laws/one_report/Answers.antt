use Rattle.zb_laws.proofs.laws.one_report.Goals as goal
use Rattle.zb_laws.proofs.RunOnce.{one_report as law}

pub returns : goal.returns
returns c = law
