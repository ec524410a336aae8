use Rattle.std.proofs.Common.{◌≡◌, ◌++◌, length}
use Rattle.std.specs.List.{AllByRecursion}
use Rattle.zb_batch.specs.Spelling.{ops_text}
use Rattle.zb_batch.specs.Batches.{IsOp}
use Rattle.zb_batch.proofs.op_reading.read_ops.Given as goal

abbrev pub invariant-loop : goal.invariant-loop
invariant-loop l = record {
  each : AllByRecursion IsOp l.ops.items;
  counted : length l.ops.items ≡ l.counter;
  whole : ops_text l.ops.items ++ l.rest ≡ l.bytes;
}
