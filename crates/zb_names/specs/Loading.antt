-- What is tested of entries that are given.
use Rattle.std.specs.Prelude.{ℕ, Bool, true, ◌&&◌, List, [], ◌∷◌, map}
use Rattle.std.specs.Ordering.{nat_cmp, is_lt}
use Rattle.std.specs.Cmp.Lexicographic.{slice_cmp}
use Rattle.zb_names.specs.declared.entries.Entry.{Entry as Given}

-- the paths of given entries
abbrev pub paths_of : List (List ℕ × Given) → List (List ℕ)
paths_of list = map (λ e. e.0) list

-- each path is less than the next by its bytes
abbrev pub rise : List (List ℕ) → Bool
rise [] = true
rise (path ∷ []) = true
rise (path ∷ (next ∷ more)) = is_lt (slice_cmp nat_cmp path next) && rise (next ∷ more)
