use Rattle.std.proofs.Common.{arith, ap, subst}
use Rattle.std.specs.Prelude.{sum_by}
use Rattle.zb_batch.specs.Reading.{op_length}
use Rattle.std.specs.List.{AllByRecursion}
use Rattle.zb_batch.specs.Batches.{HasAllRoom}
use Rattle.zb_batch.specs.Reading.{IsHeader}
use Rattle.zb_batch.proofs.Whole.{is_batch}
use Rattle.zb_batch.proofs.Sizes.{length-ops_text}
use Rattle.zb_batch.proofs.batch.Batch.write.Goals as goal

pub push_ops-requires : goal.push_ops-requires
push_ops-requires c = omega (arith, length-ops_text c.args.self.now.ops, c.requires.short, ap (sum_by op_length) c.slice.ensures)

pub returns-clause-again : goal.returns-clause-again
returns-clause-again c numbered =
    is_batch c.args.self.now c.requires (subst IsHeader c.header.ensures c.in_ok-push_header.ensures.room) (subst (AllByRecursion HasAllRoom) c.slice.ensures c.in_ok-push_ops.ensures.room) numbered
