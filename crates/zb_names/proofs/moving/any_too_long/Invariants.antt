use Rattle.std.proofs.Common.{◌≡◌, ◌++◌, ◌∷◌, [], true, length, drop}
use Rattle.std.specs.List.{AllByRecursion}
use Rattle.std.specs.List.Sorted.{IsStrictlySortedBy}
use Rattle.std.specs.Map.{keys_of}
use Rattle.std.specs.Ordering.{nat_cmp, is_le}
use Rattle.std.specs.Cmp.Lexicographic.{slice_cmp}
use Rattle.zb_names.specs.Shown.{listed}
use Rattle.zb_names.specs.Changing.{any_too_long, below}
use Rattle.zb_names.proofs.moving.any_too_long.Given as goal

abbrev pub invariant-loop-other : goal.invariant-loop-other
invariant-loop-other l = record {
  later : any_too_long (length l.path) l.added (below l.path (listed (drop l.other-index l.other-items))) ≡ any_too_long (length l.path) l.added (below l.path l.kept.entries);
  rising : IsStrictlySortedBy (slice_cmp nat_cmp) (keys_of (listed (drop l.other-index l.other-items)));
  from : AllByRecursion (λ e. is_le (slice_cmp nat_cmp (l.path ++ 47 ∷ []) e.0) ≡ true) (listed (drop l.other-index l.other-items));
}
