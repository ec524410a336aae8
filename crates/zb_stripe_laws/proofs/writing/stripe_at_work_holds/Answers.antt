use Rattle.zb_stripe_laws.proofs.Keeping.{holds_grown}
use Rattle.zb_stripe_laws.proofs.writing.stripe_at_work_holds.Goals as goal

pub returns : goal.returns
returns c m f bytes begin end j away old new room before le low g h = holds_grown m f bytes begin end away old new j room before low g h le
