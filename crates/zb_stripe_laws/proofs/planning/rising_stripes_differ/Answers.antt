use Rattle.zb_stripe_laws.proofs.Plans.{rise_differ}
use Rattle.zb_stripe_laws.proofs.planning.rising_stripes_differ.Goals as goal

pub returns : goal.returns
returns c parts rise = rise_differ parts rise
