use Rattle.std.proofs.Common.{◌≡◌, ◌++◌, length, map}
use Rattle.std.specs.List.{flat_map, AllByRecursion}
use Rattle.zb_spelling.proofs.listed.read_some.Given as goal

abbrev pub invariant-loop : goal.invariant-loop
invariant-loop g l = record {
  each : AllByRecursion g.T.Readable.Is (map g.T.Readable.plain l.items.items);
  counted : length l.items.items ≡ l.counter;
  whole : flat_map g.T.Readable.text (map g.T.Readable.plain l.items.items) ++ l.rest ≡ l.bytes;
}
