-- What an operation on names answers.
use Rattle.std.specs.Prelude.{◌≡◌, Bool, not, ◌&&◌, nat_le, nat_lt, length, List, [], ◌∷◌, Option, Some, None, Result, Ok, Err, ℕ}
use Rattle.std.specs.List.{list_any}
use Rattle.zb_types.specs.declared.calls.Refusal.{Refusal}
use Rattle.zb_types.specs.declared.calls.Refusal.TheVariants.{NoEntry, Exists, Inside, TooBig, Full}
use Rattle.zb_types.specs.Names.{Entry, first, when, walk, has, is_below, is_within, moved, max_names, max_path}
use Rattle.zb_names.specs.declared.faults.NameFault.{NameFault}
use Rattle.zb_names.specs.declared.faults.NameFault.TheVariants.{Refused, NoMemory}

-- what refuses is answered, before any memory is taken
abbrev pub IsAnswer : {A : Type 0} → Option Refusal → Result A NameFault → Type 0
IsAnswer refusal (Ok answer) = refusal ≡ None
IsAnswer refusal (Err (Refused why)) = refusal ≡ Some why
IsAnswer refusal (Err NoMemory) = refusal ≡ None

-- why nothing is found at a path
abbrev pub refusal_at : List (List ℕ × Entry) → List ℕ → Option Refusal
refusal_at entries path = first (walk entries path ∷ when (not (has path entries)) NoEntry ∷ [])

-- why nothing can be made at a path
abbrev pub refusal_of_new : List (List ℕ × Entry) → List ℕ → Option Refusal
refusal_of_new entries path = first (walk entries path ∷ when (has path entries) Exists ∷ when (nat_le max_names (length entries)) Full ∷ [])

-- whether what is moved from one path to another gets too long a path
abbrev pub gets_too_long : List (List ℕ × Entry) → List ℕ → List ℕ → Bool
gets_too_long entries from to = list_any (λ e. is_within from e.0 && nat_lt max_path (length (moved from to e.0))) entries

-- why what stands at a path isn't renamed to another
abbrev pub refusal_of_move : List (List ℕ × Entry) → List ℕ → List ℕ → Option Refusal
refusal_of_move entries from to =
    first (walk entries from ∷ when (not (has from entries)) NoEntry ∷ walk entries to ∷ when (has to entries) Exists ∷ when (is_below from to) Inside ∷ when (gets_too_long entries from to) TooBig ∷ [])
