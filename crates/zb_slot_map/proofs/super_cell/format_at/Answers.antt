use Rattle.std.proofs.Common.{arith}
use Rattle.zb_slot_map.proofs.Fencing.{format_failed, formatted}
use Rattle.zb_slot_map.proofs.super_cell.format_at.Goals as goal

pub returns-in_err-wipe-clause-told : goal.returns-in_err-wipe-clause-told
returns-in_err-wipe-clause-told g c told = format_failed _ c.from_residual.ensures.0 (c.wipe.ensures.told told).run

pub returns-clause-told : goal.returns-clause-told
returns-clause-told g c told =
    let wiped = c.in_ok-wipe.ensures.told told in
    let at = c.place_of.ensures.place in
    formatted c.args.geo.now at wiped (c.set_super.ensures.told told wiped.settled (omega (arith, at, wiped.zeros.size)))
