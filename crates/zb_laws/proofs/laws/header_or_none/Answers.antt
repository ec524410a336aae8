use Rattle.zb_laws.proofs.laws.header_or_none.Goals as goal
use Rattle.zb_laws.proofs.ReadOnce.{whole_header}

pub returns : goal.returns
returns c = whole_header
