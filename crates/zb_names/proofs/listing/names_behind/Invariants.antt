use Rattle.std.proofs.Common.{◌≡◌, true, ◌++◌, length}
use Rattle.zb_names.specs.Shown.{begins_with}
use Rattle.zb_names.specs.Listing.{names_behind}
use Rattle.zb_names.specs.Placing.{from_start}
use Rattle.zb_names.proofs.listing.names_behind.Given as goal

abbrev pub invariant-loop-path : goal.invariant-loop-path
invariant-loop-path l = record {
  so_far : l.names ++ names_behind l.front (from_start l.start.items l.kept.entries) ≡ names_behind l.front l.kept.entries;
  begins : begins_with l.front l.start.items ≡ true;
}

abbrev pub decreases-loop-path : goal.decreases-loop-path
decreases-loop-path l = length (from_start l.start.items l.kept.entries)
