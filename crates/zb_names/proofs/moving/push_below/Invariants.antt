use Rattle.std.proofs.Common.{◌≡◌, ◌++◌, ◌∷◌, [], true, length, drop}
use Rattle.std.specs.List.{AllByRecursion}
use Rattle.std.specs.List.Sorted.{IsStrictlySortedBy}
use Rattle.std.specs.Map.{keys_of}
use Rattle.std.specs.Ordering.{nat_cmp, is_le}
use Rattle.std.specs.Cmp.Lexicographic.{slice_cmp}
use Rattle.zb_types.specs.Paths.{is_path}
use Rattle.zb_names.specs.Shown.{listed}
use Rattle.zb_names.specs.Changing.{relocated, below}
use Rattle.zb_names.proofs.moving.push_below.Given as goal

abbrev pub invariant-loop-path : goal.invariant-loop-path
invariant-loop-path l = record {
  so_far : listed l.fresh.items ++ relocated (length l.from) l.to (below l.from (listed (drop l.path-index l.path-items))) ≡ listed l.fn.fresh.items ++ relocated (length l.from) l.to (below l.from l.kept.entries);
  paths : AllByRecursion (λ e. is_path e.0 ≡ true) (relocated (length l.from) l.to (below l.from (listed (drop l.path-index l.path-items))));
  rising : IsStrictlySortedBy (slice_cmp nat_cmp) (keys_of (listed (drop l.path-index l.path-items)));
  from : AllByRecursion (λ e. is_le (slice_cmp nat_cmp (l.from ++ 47 ∷ []) e.0) ≡ true) (listed (drop l.path-index l.path-items));
}
