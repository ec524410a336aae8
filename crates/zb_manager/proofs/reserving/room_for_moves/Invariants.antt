use Rattle.zb_manager.proofs.Roomy.{MovesRoom}
use Rattle.zb_manager.proofs.reserving.room_for_moves.Given as goal

abbrev pub invariant-loop-delta : goal.invariant-loop-delta
invariant-loop-delta l = MovesRoom l.initial.pointers l.pointers l.fresh l.deltas l.delta-index
