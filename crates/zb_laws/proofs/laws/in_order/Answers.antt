use Rattle.zb_laws.proofs.laws.in_order.Goals as goal
use Rattle.zb_laws.proofs.Order.{in_order as law}

pub returns : goal.returns
returns c = law
