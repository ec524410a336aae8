use Rattle.zb_laws.proofs.laws.one_stop.Goals as goal
use Rattle.zb_laws.proofs.ReadOnce.{whole_stop}

pub returns : goal.returns
returns c = whole_stop
