use Rattle.std.proofs.Common.{arith, ap}
use Rattle.std.specs.Prelude.{sum_by}
use Rattle.zb_batch.specs.Reading.{op_length}
use Rattle.zb_batch.proofs.Sizes.{length-ops_text}
use Rattle.zb_batch.proofs.batch.Batch.meta_len.Goals as goal

pub ops_len-requires : goal.ops_len-requires
ops_len-requires c = omega (arith, length-ops_text c.args.self.now.ops, c.requires.short, ap (sum_by op_length) c.slice.ensures)

pub overflow_add-result : goal.overflow_add-result
overflow_add-result c = omega (arith, length-ops_text c.args.self.now.ops, c.requires.short, ap (sum_by op_length) c.slice.ensures)

pub overflow_cast-result : goal.overflow_cast-result
overflow_cast-result c = omega (arith, length-ops_text c.args.self.now.ops, c.requires.short, ap (sum_by op_length) c.slice.ensures)

pub returns : goal.returns
returns c = omega (arith, length-ops_text c.args.self.now.ops, c.requires.short, ap (sum_by op_length) c.slice.ensures)
