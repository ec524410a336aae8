use Rattle.zb_given.proofs.stays.calls_stay.Goals as goal
use Rattle.zb_given.proofs.Staying.{names_own, counts_own, next_is_fresh, none_is_ahead, call_stays}

pub returns : goal.returns
returns c = record { own = names_own; count = counts_own; fresh = next_is_fresh; none_ahead = none_is_ahead; later = call_stays }
