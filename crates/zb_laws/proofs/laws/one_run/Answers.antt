use Rattle.zb_laws.proofs.laws.one_run.Goals as goal
use Rattle.zb_laws.proofs.RunOnce.{whole_run}

pub returns : goal.returns
returns c = whole_run
