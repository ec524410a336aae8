-- What holds of names at every time.
use Rattle.std.specs.Prelude.{◌≡◌, ℕ, ◌≤◌, Bool, ◌&&◌, nat_le, nat_lt, true, List, None, length}
use Rattle.std.specs.List.{AllByRecursion}
use Rattle.std.specs.List.Sorted.{IsStrictlySortedBy}
use Rattle.std.specs.Map.{keys_of}
use Rattle.std.specs.Ordering.{nat_cmp}
use Rattle.std.specs.Cmp.Lexicographic.{slice_cmp}
use Rattle.zb_types.specs.Paths.{is_path}
use Rattle.zb_types.specs.Names.{Entry, directory, numbered, walk, max_names}
use Rattle.zb_names.specs.Placing.{SeenEntries}

-- whether a file has a number from 1 that is below the next file's
abbrev pub has_number : ℕ → Entry → Bool
has_number next directory = true
has_number next (numbered n) = nat_le 1 n && nat_lt n next

-- paths rise by their bytes, each proper front of a path is that of a directory, and each file has a number
pub record IsTree (next : ℕ) (entries : List (List ℕ × Entry)) : Type 0 where
  pub numbered : 1 ≤ next
  pub rising : IsStrictlySortedBy (slice_cmp nat_cmp) (keys_of entries)
  pub paths : AllByRecursion (λ e. is_path e.0 ≡ true) entries
  pub hanging : AllByRecursion (λ e. walk entries e.0 ≡ None) entries
  pub files : AllByRecursion (λ e. has_number next e.1 ≡ true) entries

-- the entries are a tree, and there is room for them and for the most names
pub record IsSound (next : ℕ) (kept : SeenEntries) : Type 0 where
  pub tree : IsTree next kept.entries
  pub most : max_names ≤ kept.room
  pub fits : length kept.entries ≤ kept.room
