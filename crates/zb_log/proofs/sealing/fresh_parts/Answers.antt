use Rattle.std.proofs.Common.{◌+◌, length, drop, get_or, sym, ap, subst, ◌∙◌, arith}
use Rattle.zb_types.specs.declared.ids.Piece.{Piece}
use Rattle.zb_log.proofs.Parting.{Growing, behind_first, none_grown, one_grown, all_grown, drop_head, drop_none}
use Rattle.zb_log.proofs.sealing.fresh_parts.Goals as goal

abbrev nothing : Piece
nothing = record { stripe = 0; offset = 0; len = 0 }

pub loop-piece-init : goal.loop-piece-init
loop-piece-init c = subst (Growing c.args.geo.now.servers c.args.geo.now.fragment c.args.at_work c.args.parity.now c.args.pieces.now c.args.new.now c.args.pieces.now c.args.new.now) (sym c.new-parts.ensures.items)
    (none_grown c.args.geo.now.servers c.args.geo.now.fragment c.args.at_work c.args.parity.now c.args.pieces.now c.args.new.now c.requires)

pub split_at-requires : goal.split_at-requires
split_at-requires c =
    (behind_first c.args.geo.now.servers c.args.geo.now.fragment c.args.at_work c.args.parity.now _ (get_or c.args.pieces.now c.loop-piece.piece-index nothing) _ c.loop-piece.rest.now
    (omega (arith, c.args.geo.now.limits.servers_low)) (drop_head c.args.pieces.now c.loop-piece.piece-index nothing c.loop-piece-test.true) c.loop-piece.invariant.behind).has

pub fresh_part-requires-clause-room : goal.fresh_part-requires-clause-room
fresh_part-requires-clause-room c =
    let first = behind_first c.args.geo.now.servers c.args.geo.now.fragment c.args.at_work c.args.parity.now _ (get_or c.args.pieces.now c.loop-piece.piece-index nothing) _ c.loop-piece.rest.now
    (omega (arith, c.args.geo.now.limits.servers_low)) (drop_head c.args.pieces.now c.loop-piece.piece-index nothing c.loop-piece-test.true) c.loop-piece.invariant.behind in
    rw c.split_at.ensures.front_len first.room

pub fresh_part-requires-clause-long : goal.fresh_part-requires-clause-long
fresh_part-requires-clause-long c =
    let first = behind_first c.args.geo.now.servers c.args.geo.now.fragment c.args.at_work c.args.parity.now _ (get_or c.args.pieces.now c.loop-piece.piece-index nothing) _ c.loop-piece.rest.now
    (omega (arith, c.args.geo.now.limits.servers_low)) (drop_head c.args.pieces.now c.loop-piece.piece-index nothing c.loop-piece-test.true) c.loop-piece.invariant.behind in
    ap length c.parity_before-before.ensures ∙ first.long

pub loop-piece-preserved : goal.loop-piece-preserved
loop-piece-preserved c =
    let n = c.args.geo.now.servers in
    let f = c.args.geo.now.fragment in
    let done = c.loop-piece.parts.items in
    subst (Growing n f c.args.at_work c.args.parity.now c.args.pieces.now c.args.new.now (drop (c.loop-piece.piece-index + 1) c.args.pieces.now) c.split_at.result.1.now) (sym c.in_ok-push.ensures.items)
    (one_grown n f c.args.at_work (omega (arith, c.args.geo.now.limits.servers_low)) c.args.parity.now c.args.pieces.now c.args.new.now done (drop c.loop-piece.piece-index c.args.pieces.now)
    (get_or c.args.pieces.now c.loop-piece.piece-index nothing) (drop (c.loop-piece.piece-index + 1) c.args.pieces.now) c.loop-piece.rest.now c.parity_before-before.result.now c.split_at.result.0.now c.split_at.result.1.now _
    (drop_head c.args.pieces.now c.loop-piece.piece-index nothing c.loop-piece-test.true) c.parity_before-before.ensures c.split_at.ensures.front c.split_at.ensures.back
    c.in_ok-fresh_part.ensures c.loop-piece.invariant)

pub returns : goal.returns
returns c given sums have =
    all_grown c.args.geo.now.servers c.args.geo.now.fragment c.args.at_work (omega (arith, c.args.geo.now.limits.servers_low)) c.args.parity.now c.args.pieces.now c.args.new.now c.loop-piece.parts.items
    (drop c.loop-piece.piece-index c.args.pieces.now) c.loop-piece.rest.now given (drop_none c.args.pieces.now c.loop-piece.piece-index c.loop-piece-test.false) c.loop-piece.invariant sums have
