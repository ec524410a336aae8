use Rattle.std.proofs.Common.{arith}
use Rattle.zb_batch.proofs.Sizes.{length-ops_text, count_of_ops}
use Rattle.zb_batch.proofs.batch.agrees.Goals as goal

pub count_deltas-requires : goal.count_deltas-requires
count_deltas-requires c = omega (arith, count_of_ops c.args.ops.now, length-ops_text c.args.ops.now, c.requires)
