use Rattle.zb_ample.proofs.Giving.{call_turns, finish_turns, first_turns, flush_turns, ready_turns}
use Rattle.zb_ample.proofs.turns.clients_come_in_turn.Goals as goal

pub returns-clause-first : goal.returns-clause-first
returns-clause-first c geo n first sizes slots = first_turns geo n first sizes slots

pub returns-clause-call : goal.returns-clause-call
returns-clause-call c geo given lines n i client call place s t is idle = call_turns s t i client call place is idle

pub returns-clause-finish : goal.returns-clause-finish
returns-clause-finish c geo given n place t = finish_turns t place

pub returns-clause-finishes : goal.returns-clause-finishes
returns-clause-finishes c geo given n i client t is idle = flush_turns t i client is idle

pub returns-clause-ready : goal.returns-clause-ready
returns-clause-ready c geo given old new i t r = ready_turns t new i r
