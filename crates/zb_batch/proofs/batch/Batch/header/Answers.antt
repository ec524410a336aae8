use Rattle.std.proofs.Common.{arith, ap}
use Rattle.zb_batch.specs.Spelling.{delta_count}
use Rattle.zb_batch.proofs.Sizes.{length-ops_text, count_of_ops}
use Rattle.zb_batch.proofs.batch.Batch.header.Goals as goal

pub count_deltas-requires : goal.count_deltas-requires
count_deltas-requires c = omega (arith, count_of_ops c.args.self.now.ops, length-ops_text c.args.self.now.ops, c.requires.short, ap delta_count c.slice.ensures)

pub overflow_cast-result-2 : goal.overflow_cast-result-2
overflow_cast-result-2 c = omega (arith, count_of_ops c.args.self.now.ops, length-ops_text c.args.self.now.ops, c.requires.short, ap delta_count c.slice.ensures)
