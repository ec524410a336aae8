use Rattle.std.proofs.Common.{◌≡◌, ◌+◌, take}
use Rattle.std.specs.Prelude.{sum_by}
use Rattle.zb_batch.specs.Reading.{op_length}
use Rattle.zb_batch.proofs.checking.fit_in.Given as goal

abbrev pub invariant-loop-op : goal.invariant-loop-op
invariant-loop-op l = l.left + sum_by op_length (take l.op-index l.ops) ≡ l.room
