-- Where paths stand in the order of their bytes.
use Rattle.std.specs.Prelude.{◌≡◌, ℕ, ◌≤◌, Bool, true, false, List, length, take, drop, filter}
use Rattle.std.specs.List.{AllByRecursion}
use Rattle.std.specs.Ordering.{nat_cmp, is_lt, is_le}
use Rattle.std.specs.Cmp.Lexicographic.{slice_cmp}
use Rattle.zb_types.specs.Names.{Entry}

-- entries, and for how many there is room
pub record SeenEntries : Type 0 where
  pub entries : List (List ℕ × Entry)
  pub room : ℕ

-- whether a path is less than another by its bytes
abbrev pub is_less : List ℕ → List ℕ → Bool
is_less path other = is_lt (slice_cmp nat_cmp path other)

-- just the first i of these paths are less than this one
pub record IsPlace (path : List ℕ) (paths : List (List ℕ)) (i : ℕ) : Type 0 where
  pub within : i ≤ length paths
  pub before : AllByRecursion (λ p. is_less p path ≡ true) (take i paths)
  pub behind : AllByRecursion (λ p. is_less p path ≡ false) (drop i paths)

-- the entries whose paths aren't less than a start
abbrev pub from_start : List ℕ → List (List ℕ × Entry) → List (List ℕ × Entry)
from_start start es = filter (λ e. is_le (slice_cmp nat_cmp start e.0)) es
