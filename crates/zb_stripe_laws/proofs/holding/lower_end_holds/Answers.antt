use Rattle.zb_stripe_laws.proofs.Keeping.{holds_less}
use Rattle.zb_stripe_laws.proofs.holding.lower_end_holds.Goals as goal

pub returns : goal.returns
returns c m f stands away low high bytes le h = holds_less m f stands away low high bytes le h
