use Rattle.zb_laws.proofs.laws.one_reading.Goals as goal
use Rattle.zb_laws.proofs.ReadOnce.{whole_once}

pub returns : goal.returns
returns c = whole_once
