use Rattle.std.proofs.Common.{arith}
use Rattle.zb_batch.proofs.Ops.{cut_too_short, no_cut, cut_with_many, cut_found}
use Rattle.zb_batch.proofs.op_reading.cut_op.Goals as goal

pub returns-then-bytes-lt16 : goal.returns-then-bytes-lt16
returns-then-bytes-lt16 c = cut_too_short c.args.call c.args.bytes.now c.if-bytes-lt16.true

pub returns-in_default : goal.returns-in_default
returns-in_default c =
    no_cut c.args.call c.split_u64-version.result.0 c.split_u32-length.result.0 (record { 0 = c.split_u32-fid.result.0 }) _ _ _ _ (omega arith) (omega arith)
    c.split_u32-fid.ensures.whole c.split_u64-version.ensures.whole c.split_u32-length.ensures.whole (rw c.in_default.is at c.in_ok-deltas.ensures)

pub returns-then-len-gt1 : goal.returns-then-len-gt1
returns-then-len-gt1 c =
    cut_with_many c.args.call c.split_u64-version.result.0 c.split_u32-length.result.0 (record { 0 = c.split_u32-fid.result.0 }) c.in-Some.deltas _ _ _ _ c.in-Some.rest.now (omega arith) (omega arith)
    c.split_u32-fid.ensures.whole c.split_u64-version.ensures.whole c.split_u32-length.ensures.whole (rw c.in-Some.is at c.in_ok-deltas.ensures) (omega arith)

pub returns : goal.returns
returns c =
    cut_found c.args.call c.split_u64-version.result.0 c.split_u32-length.result.0 (record { 0 = c.split_u32-fid.result.0 }) c.in-Some.deltas _ _ _ _ c.in-Some.rest.now
    (omega arith) (omega arith) (omega arith) (omega arith)
    c.split_u32-fid.ensures.whole c.split_u64-version.ensures.whole c.split_u32-length.ensures.whole (rw c.in-Some.is at c.in_ok-deltas.ensures) (omega arith)
