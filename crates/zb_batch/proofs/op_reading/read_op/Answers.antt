use Rattle.std.proofs.Common.{arith}
use Rattle.zb_batch.proofs.Ops.{op_too_short, op_found, first_and_rest}
use Rattle.zb_batch.proofs.op_reading.read_op.Goals as goal

pub returns-then-bytes-lt9 : goal.returns-then-bytes-lt9
returns-then-bytes-lt9 c = op_too_short c.args.bytes.now c.if-bytes-lt9.true

pub returns : goal.returns
returns c = op_found _ c.split_u64-call.result.0 c.args.bytes.now _ c.split_u64-call.result.1.now (omega arith) (first_and_rest c.args.bytes.now c.in-len1-up.len_at_least) c.split_u64-call.ensures.whole _ c.in_ok-found.ensures
