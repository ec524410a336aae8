use Rattle.zb_stripe_laws.proofs.Rebuilt.{parity_rebuilt}
use Rattle.zb_stripe_laws.proofs.holding.rebuilt_is_the_parity.Goals as goal

pub returns : goal.returns
returns c m f stands away end bytes rebuilt shares held others are long is = parity_rebuilt m f stands away end bytes held others rebuilt shares are long is
