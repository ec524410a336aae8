use Rattle.zb_platter.proofs.Elsewhere.{none_names}
use Rattle.zb_platter.proofs.laws.no_entry_names_a_stripe.Goals as goal

pub returns : goal.returns
returns c = none_names
