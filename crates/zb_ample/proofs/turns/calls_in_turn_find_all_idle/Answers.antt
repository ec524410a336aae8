use Rattle.std.proofs.Common.{refl}
use Rattle.zb_ample.proofs.Told.{call_in_turn, finish_in_turn, lines_in_turn, told_idle}
use Rattle.zb_ample.proofs.turns.calls_in_turn_find_all_idle.Goals as goal

pub returns-clause-idle : goal.returns-clause-idle
returns-clause-idle c geo given lines n s t told unfinished = told_idle s t told unfinished

pub returns-clause-call : goal.returns-clause-call
returns-clause-call c given lines n i client call s is turn = call_in_turn s i client is call _ refl turn

pub returns-clause-finish : goal.returns-clause-finish
returns-clause-finish c given lines place turn = finish_in_turn given lines place turn

pub returns-clause-lines : goal.returns-clause-lines
returns-clause-lines c given lines more fit stood turn = lines_in_turn given lines more fit stood turn
