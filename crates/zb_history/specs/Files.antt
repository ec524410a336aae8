-- The files that are kept.
use Rattle.std.specs.Prelude.{ℕ, ◌≤◌, List, length}
use Rattle.std.specs.List.{AllByRecursion}
use Rattle.std.specs.List.Sorted.{IsStrictlySortedBy}
use Rattle.std.specs.Map.{keys_of}
use Rattle.std.specs.Ordering.{nat_cmp}
use Rattle.zb_types.specs.Apply.{max_file}

-- each number once, in order, with no more bytes than a file may have
pub record AreFiles (files : List (ℕ × List ℕ)) : Type 0 where
  pub rising : IsStrictlySortedBy nat_cmp (keys_of files)
  pub short : AllByRecursion (λ e. length e.1 ≤ max_file) files
