use Rattle.zb_system.proofs.Giving.{call_stays_sound, finish_stays_sound, finishes_stay_sound}
use Rattle.zb_system.proofs.given.nodes_stay_sound_where_more_is_given.Goals as goal

pub returns-clause-call : goal.returns-clause-call
returns-clause-call c given lines n i client call s is short = call_stays_sound given lines n i client call s is short

pub returns-clause-finish : goal.returns-clause-finish
returns-clause-finish c given lines n s = finish_stays_sound given lines n s

pub returns-clause-finishes : goal.returns-clause-finishes
returns-clause-finishes c given lines n i client s is none over = finishes_stay_sound given lines n i client s is none over
