use Rattle.std.proofs.Common.{◌≡◌, ◌++◌, take}
use Rattle.std.specs.List.{AllByRecursion}
use Rattle.zb_batch.specs.Spelling.{ops_text}
use Rattle.zb_batch.specs.Batches.{HasAllRoom}
use Rattle.zb_batch.proofs.op_writing.push_ops.Given as goal

abbrev pub invariant-loop-op : goal.invariant-loop-op
invariant-loop-op l = record {
  text : l.to ≡ l.fn.to ++ ops_text (take l.op-index l.ops);
  room : AllByRecursion HasAllRoom (take l.op-index l.ops);
}
