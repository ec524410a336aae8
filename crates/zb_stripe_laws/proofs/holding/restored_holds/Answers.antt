use Rattle.std.proofs.Common.{refl}
use Rattle.zb_stripe_laws.proofs.Mended.{share_restored, parity_restored}
use Rattle.zb_stripe_laws.proofs.holding.restored_holds.Goals as goal

pub returns-clause-share : goal.returns-clause-share
returns-clause-share c m f stands away end bytes j h only low = share_restored m f stands away end bytes h j only low

pub returns-clause-parity : goal.returns-clause-parity
returns-clause-parity c m f stands away end bytes h only = parity_restored m f stands away end bytes h m only refl
