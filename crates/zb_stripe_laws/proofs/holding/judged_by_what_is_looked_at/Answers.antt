use Rattle.zb_stripe_laws.proofs.Seeing.{holds_seen}
use Rattle.zb_stripe_laws.proofs.holding.judged_by_what_is_looked_at.Goals as goal

pub returns : goal.returns
returns c m f before now away end bytes same h = holds_seen m f before now away end bytes same h
