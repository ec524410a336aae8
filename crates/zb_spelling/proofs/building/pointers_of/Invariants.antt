use Rattle.std.proofs.Common.{◌≡◌, ◌++◌, length, map}
use Rattle.std.specs.List.{AllByRecursion}
use Rattle.std.specs.List.Sorted.{IsStrictlySortedBy}
use Rattle.std.specs.Map.{keys_of}
use Rattle.std.specs.Ordering.{nat_cmp}
use Rattle.zb_spelling.specs.Reading.{shown_file}
use Rattle.zb_spelling.proofs.building.pointers_of.Given as goal

abbrev pub invariant-loop-row : goal.invariant-loop-row
invariant-loop-row l = record {
  files : l.pointers.files ++ map shown_file l.rest ≡ map shown_file l.fn.files;
  blocks : AllByRecursion (λ row. IsStrictlySortedBy nat_cmp (keys_of row.blocks.items)) l.rest;
  block : l.pointers.block ≡ l.geo.block;
}

abbrev pub decreases-loop-row : goal.decreases-loop-row
decreases-loop-row l = length l.rest
