use Rattle.std.proofs.Common.{◌≡◌, ◌++◌, take}
use Rattle.std.specs.List.{flat_map, AllByRecursion}
use Rattle.zb_delta.specs.Spelling.{spelling_of_delta, IsDelta}
use Rattle.zb_batch.proofs.op_writing.push_all.Given as goal

abbrev pub invariant-loop-delta : goal.invariant-loop-delta
invariant-loop-delta l = record {
  text : l.to ≡ l.fn.to ++ flat_map spelling_of_delta (take l.delta-index l.deltas);
  room : AllByRecursion IsDelta (take l.delta-index l.deltas);
}
