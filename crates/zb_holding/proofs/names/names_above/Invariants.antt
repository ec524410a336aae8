use Rattle.std.proofs.Common.{◌≡◌, ◌≤◌, ◌++◌, length}
use Rattle.std.specs.Map.{keys_of}
use Rattle.zb_holding.specs.Listing.{names_above, most_names}
use Rattle.zb_holding.proofs.names.names_above.Given as goal

abbrev pub invariant-loop-id : goal.invariant-loop-id
invariant-loop-id g l = record {
  so_far : l.names.items ++ keys_of l.id-iterator ≡ names_above l.fn.after l.held.entries;
  bounded : length l.names.items ≤ most_names;
}
