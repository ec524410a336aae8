use Rattle.zb_stripe_laws.proofs.Rebuilt.{rebuilt_same}
use Rattle.zb_stripe_laws.proofs.holding.rebuilt_is_the_share.Goals as goal

pub returns : goal.returns
returns c m f stands away end bytes j lengths parity rebuilt h only low there long is = rebuilt_same m f stands away end bytes j lengths parity rebuilt h only low there long is
