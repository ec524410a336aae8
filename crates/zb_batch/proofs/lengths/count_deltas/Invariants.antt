use Rattle.std.proofs.Common.{◌≡◌, take}
use Rattle.zb_batch.specs.Spelling.{delta_count}
use Rattle.zb_batch.proofs.lengths.count_deltas.Given as goal

abbrev pub invariant-loop-op : goal.invariant-loop-op
invariant-loop-op l = l.count ≡ delta_count (take l.op-index l.ops)
