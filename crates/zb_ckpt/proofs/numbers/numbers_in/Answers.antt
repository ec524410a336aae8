use Rattle.std.proofs.Common.{arith}
use Rattle.zb_ckpt.proofs.Roots.{text_of}
use Rattle.zb_ckpt.proofs.numbers.numbers_in.Goals as goal

pub returns-clause-text : goal.returns-clause-text
returns-clause-text c =
    text_of c.split_u32-head.result.0 c.split_u32-format.result.0 c.split_u32-fragment.result.0 c.split_u32-block.result.0 c.split_u32-slots.result.0 c.split_u64-length.result.0 c.split_u64-first.result.0
    c.args.payload.now c.split_u32-head.result.1.now c.split_u32-format.result.1.now c.split_at.result.0.now c.split_at.result.1.now c.split_u32-fragment.result.1.now c.split_u32-block.result.1.now c.split_u32-slots.result.1.now c.split_u64-length.result.1.now c.split_u64-first.result.1.now
    c.split_u32-head.ensures.whole c.split_u32-format.ensures.whole (omega arith) c.split_at.ensures.front c.split_at.ensures.back
    c.split_u32-fragment.ensures.whole c.split_u32-block.ensures.whole c.split_u32-slots.ensures.whole c.split_u64-length.ensures.whole c.split_u64-first.ensures.whole (omega arith)
