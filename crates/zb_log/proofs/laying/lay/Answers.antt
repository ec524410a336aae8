use Rattle.std.proofs.Common.{arith}
use Rattle.zb_log.specs.Placing.{begun, with_meta}
use Rattle.zb_log.proofs.Steps.{blocks_rise, meta_rises, meta_room}
use Rattle.zb_log.proofs.laying.lay.Goals as goal

pub new-requires-clause-lasting : goal.new-requires-clause-lasting
new-requires-clause-lasting c =
    let first = meta_rises (begun c.args.log c.args.room c.args.from) c.args.meta in
    let rises = blocks_rise (with_meta (begun c.args.log c.args.room c.args.from) c.args.meta) c.args.blocks.now in
    let low = c.requires.lasting in
    omega arith

pub add_meta-requires : goal.add_meta-requires
add_meta-requires c =
    let rises = blocks_rise (with_meta (begun c.args.log c.args.room c.args.from) c.args.meta) c.args.blocks.now in
    let low = c.requires.lasting in
    rw (c.in_ok-laying.ensures) (omega arith)

pub add_blocks-requires-clause-fit : goal.add_blocks-requires-clause-fit
add_blocks-requires-clause-fit c =
    rw (c.in_ok-add_meta.ensures, c.in_ok-laying.ensures, meta_room) c.requires.fit
