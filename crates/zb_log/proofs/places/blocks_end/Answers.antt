use Rattle.std.proofs.Common.{◌<◌, ap, arith}
use Rattle.zb_log.specs.declared.places.Place.{Place}
use Rattle.zb_log.specs.Placing.{blocks_end, last_stripe}
use Rattle.zb_log.proofs.Ends.{blocks_first}
use Rattle.zb_log.proofs.places.blocks_end.Goals as goal

pub returns-in_err-there-clause-none : goal.returns-in_err-there-clause-none
returns-in_err-there-clause-none c =
    let none = c.in_err-there.ensures.none in
    let rises = blocks_first c.args.room c.loop-len.at c.args.blocks.now c.loop-len.len-index 0 (c.loop-len-test.true) in
    let end = ap (λ (z : Place). z.stripe) c.loop-len.invariant.end in
    let above : last_stripe < (blocks_end c.args.room c.args.from c.args.blocks.now).stripe = omega arith in
    rw c.from_residual.ensures above
