use Rattle.zb_ample.proofs.Steps.{stepped_turns}
use Rattle.zb_ample.proofs.turns.clients_in_turn_have_space.Goals as goal

pub returns : goal.returns
returns c geo given lines old new i told s may enough t h = stepped_turns s geo t may enough new i told h
