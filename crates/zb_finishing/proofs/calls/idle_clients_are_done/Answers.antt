use Rattle.zb_given.proofs.Ending.{all_ended_law, all_told_law}
use Rattle.zb_finishing.proofs.Asked.{all_have, all_have_last}
use Rattle.zb_finishing.proofs.calls.idle_clients_are_done.Goals as goal

pub returns-clause-lines : goal.returns-clause-lines
returns-clause-lines c given lines n s all idle = all_have given lines n s all idle

pub returns-clause-last : goal.returns-clause-last
returns-clause-last c given lines n s all idle none = all_have_last given lines n s all idle none

pub returns-clause-told : goal.returns-clause-told
returns-clause-told c given lines n s all idle = (all_told_law given lines).1 (all_have given lines n s all idle)

pub returns-clause-ended : goal.returns-clause-ended
returns-clause-ended c given lines n s all idle none = (all_ended_law given lines).1 (all_have_last given lines n s all idle none)
