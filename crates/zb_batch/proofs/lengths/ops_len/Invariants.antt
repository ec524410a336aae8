use Rattle.std.proofs.Common.{◌≡◌, take}
use Rattle.std.specs.Prelude.{sum_by}
use Rattle.zb_batch.specs.Reading.{op_length}
use Rattle.zb_batch.proofs.lengths.ops_len.Given as goal

abbrev pub invariant-loop-op : goal.invariant-loop-op
invariant-loop-op l = l.len ≡ sum_by op_length (take l.op-index l.ops)
