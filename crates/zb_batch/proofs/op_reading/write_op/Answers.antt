use Rattle.std.proofs.Common.{arith}
use Rattle.zb_batch.proofs.Ops.{write_too_short, no_write, write_found}
use Rattle.zb_batch.proofs.op_reading.write_op.Goals as goal

pub returns-then-bytes-lt20 : goal.returns-then-bytes-lt20
returns-then-bytes-lt20 c = write_too_short c.args.call c.args.bytes.now c.if-bytes-lt20.true

pub returns-in_default : goal.returns-in_default
returns-in_default c =
    no_write c.args.call c.split_u64-version.result.0 c.split_u32-offset.result.0 c.split_u32-len.result.0 (record { 0 = c.split_u32-fid.result.0 }) _ _ _ _ _ (omega arith) (omega arith)
    c.split_u32-fid.ensures.whole c.split_u64-version.ensures.whole c.split_u32-offset.ensures.whole c.split_u32-len.ensures.whole (rw c.in_default.is at c.in_ok-deltas.ensures)

pub returns : goal.returns
returns c =
    write_found c.args.call c.split_u64-version.result.0 c.split_u32-offset.result.0 c.split_u32-len.result.0 (record { 0 = c.split_u32-fid.result.0 }) c.in-Some.deltas _ _ _ _ _ c.in-Some.rest.now
    (omega arith) (omega arith) (omega arith) (omega arith) (omega arith)
    c.split_u32-fid.ensures.whole c.split_u64-version.ensures.whole c.split_u32-offset.ensures.whole c.split_u32-len.ensures.whole (rw c.in-Some.is at c.in_ok-deltas.ensures)
