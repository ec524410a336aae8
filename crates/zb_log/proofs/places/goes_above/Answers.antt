use Rattle.std.proofs.Common.{arith}
use Rattle.zb_log.specs.Placing.{meta_end}
use Rattle.zb_log.proofs.Ends.{meta_above, blocks_above}
use Rattle.zb_log.proofs.places.goes_above.Goals as goal

pub returns-then-from-gt-LAST_STRIPE : goal.returns-then-from-gt-LAST_STRIPE
returns-then-from-gt-LAST_STRIPE c =
    let m = meta_above c.args.room c.args.from c.args.meta in
    let b = blocks_above c.args.room (meta_end c.args.room c.args.from c.args.meta) c.args.blocks.now in
    omega arith

pub returns-in_default : goal.returns-in_default
returns-in_default c =
    let none = c.in_default.ensures.none in
    let b = blocks_above c.args.room (meta_end c.args.room c.args.from c.args.meta) c.args.blocks.now in
    omega arith
