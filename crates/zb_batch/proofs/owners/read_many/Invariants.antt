use Rattle.std.proofs.Common.{◌≡◌, ◌++◌, length}
use Rattle.std.specs.List.{flat_map, AllByRecursion}
use Rattle.zb_delta.specs.Spelling.{spelling_of_delta}
use Rattle.zb_batch.specs.Reading.{IsDeltaOf}
use Rattle.zb_batch.proofs.owners.read_many.Given as goal

abbrev pub invariant-loop : goal.invariant-loop
invariant-loop l = record {
  each : AllByRecursion (IsDeltaOf l.owner) l.deltas.items;
  counted : length l.deltas.items ≡ l.counter;
  whole : flat_map spelling_of_delta l.deltas.items ++ l.rest ≡ l.bytes;
}
