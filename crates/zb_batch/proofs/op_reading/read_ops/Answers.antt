use Rattle.std.proofs.Common.{arith}
use Rattle.zb_batch.proofs.Missing.{no_more_ops}
use Rattle.zb_batch.proofs.op_reading.read_ops.Goals as goal

pub returns-in_default : goal.returns-in_default
returns-in_default c =
    no_more_ops c.args.count c.loop.ops.items c.loop.rest.now c.args.bytes.now c.loop.invariant.each (omega arith) c.loop.invariant.whole (rw c.in_default.is at c.in_ok-op.ensures)
