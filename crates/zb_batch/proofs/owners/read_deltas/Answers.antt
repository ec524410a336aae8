use Rattle.std.proofs.Common.{arith}
use Rattle.zb_batch.proofs.Missing.{deltas_too_short, counted_found}
use Rattle.zb_batch.proofs.owners.read_deltas.Goals as goal

pub returns-then-bytes-lt4 : goal.returns-then-bytes-lt4
returns-then-bytes-lt4 c = deltas_too_short c.args.owner c.args.bytes.now c.if-bytes-lt4.true

pub returns : goal.returns
returns c = counted_found c.args.owner c.split_u32-count.result.0 c.args.bytes.now c.split_u32-count.result.1.now (omega arith) c.split_u32-count.ensures.whole _ c.in_ok-found.ensures
