use Rattle.zb_stripe_laws.proofs.Mended.{holds_away}
use Rattle.zb_stripe_laws.proofs.holding.more_may_be_away.Goals as goal

pub returns : goal.returns
returns c m f stands away more end bytes weaker h = holds_away m f stands away end bytes more weaker h
