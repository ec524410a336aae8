use Rattle.zb_batch.proofs.Missing.{no_first_zeros, no_last_zeros}
use Rattle.zb_batch.proofs.header.read_numbers.Goals as goal

pub returns-then-not-are_zeros : goal.returns-then-not-are_zeros
returns-then-not-are_zeros c =
    no_first_zeros _ _ _ _ _ _ _ _ _ _ _ c.split_u32-log.ensures.whole c.split_u64-number.ensures.whole c.split_u32-size.ensures.whole c.split_u16-ops.ensures.whole
    c.split_at.ensures.front c.are_zeros.ensures.1 c.if-not-are_zeros.true

pub returns-then-not-are_zeros-2 : goal.returns-then-not-are_zeros-2
returns-then-not-are_zeros-2 c =
    no_last_zeros _ _ _ _ _ _ _ _ _ _ _ _ _ _ c.split_u32-log.ensures.whole c.split_u64-number.ensures.whole c.split_u32-size.ensures.whole c.split_u16-ops.ensures.whole
    c.split_at.ensures.back c.split_u32-deltas.ensures.whole c.split_at-2.ensures.front c.are_zeros-2.ensures.1 c.if-not-are_zeros-2.true
