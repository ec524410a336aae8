use Rattle.std.proofs.Common.{arith}
use Rattle.std.proofs.lemmas.Grind.{common_steps}
use Rattle.zb_log.proofs.Steps.{blocks_first}
use Rattle.zb_log.proofs.laying.Laying.add_blocks.Goals as goal

pub add_block-requires-clause-lasting : goal.add_block-requires-clause-lasting
add_block-requires-clause-lasting c =
    let rises = blocks_first c.loop-len.self c.args.blocks.now c.loop-len.len-index 0 (c.loop-len-test.true) in
    grind (arith, common_steps)
