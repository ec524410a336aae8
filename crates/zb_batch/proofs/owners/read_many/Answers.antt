use Rattle.std.proofs.Common.{arith}
use Rattle.zb_batch.proofs.Missing.{no_more_deltas}
use Rattle.zb_batch.proofs.owners.read_many.Goals as goal

pub returns-in_default : goal.returns-in_default
returns-in_default c =
    no_more_deltas c.args.owner c.args.count c.loop.deltas.items c.loop.rest.now c.args.bytes.now c.loop.invariant.each (omega arith) c.loop.invariant.whole c.in_default.ensures
