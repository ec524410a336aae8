use Rattle.zb_manager.proofs.Roomy.{move_next, moves_room}
use Rattle.zb_manager.proofs.reserving.room_for_moves.Goals as goal

pub returns-clause-ok : goal.returns-clause-ok
returns-clause-ok c = moves_room c.args.pointers.now c.loop-delta.pointers c.in_ok-fresh.fresh c.args.deltas.now c.loop-delta.delta-index c.loop-delta.invariant c.in_ok-fresh.ensures c.loop-delta-test.false

pub loop-delta-preserved : goal.loop-delta-preserved
loop-delta-preserved c =
    let r = c.in_ok-room_for_move.ensures in
    move_next c.args.pointers.now c.loop-delta.pointers c.room_for_move.new.pointers c.in_ok-fresh.fresh c.args.deltas.now c.loop-delta.delta-index _
    c.loop-delta.invariant c.loop-delta-test.true r.files r.block r.kept r.ok
