use Rattle.zb_stripe_laws.proofs.Standings.{stands_whole}
use Rattle.zb_stripe_laws.proofs.holding.whole_stripe_stands.Goals as goal

pub returns : goal.returns
returns c v log stripe bytes held = stands_whole v log stripe bytes held
