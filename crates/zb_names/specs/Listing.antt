-- Names that stand right behind a front.
use Rattle.std.specs.Prelude.{◌≡◌, ◌⊎◌, ℕ, ◌≤◌, Bool, false, not, ◌&&◌, ◌==◌, if◌then◌else◌, List, [], ◌∷◌, ◌++◌, length, drop, map, filter}
use Rattle.std.specs.List.{list_any}
use Rattle.zb_types.specs.Paths.{is_name}
use Rattle.zb_types.specs.Names.{Entry}
use Rattle.zb_names.specs.Placing.{from_start}
use Rattle.zb_names.specs.Shown.{begins_with}

-- a path or nothing, and then a slash
abbrev pub IsFront : List ℕ → Type 0
IsFront front = (path : List ℕ) × (front ≡ path ++ 47 ∷ [])

-- the text, where it is a name
abbrev pub name_of : List ℕ → List (List ℕ)
name_of text = if is_name text then text ∷ [] else []

-- the names that stand right behind a front
abbrev pub names_behind : List ℕ → List (List ℕ × Entry) → List (List ℕ)
names_behind front entries =
    map (λ e. drop (length front) e.0) (filter (λ e. begins_with front e.0 && not (list_any (λ b. b == 47) (drop (length front) e.0))) entries)

-- whether a slash stands in a text
abbrev pub has_slash : List ℕ → Bool
has_slash text = list_any (λ b. b == 47) text

-- Where paths go on behind a path that begins with a front of n bytes: a child is left behind, and so is all that is
-- below the child that a longer path begins with.
abbrev pub IsStartBehind : ℕ → List ℕ → List ℕ → Type 0
IsStartBehind n path start =
    ((has_slash (drop n path) ≡ false) × (start ≡ path ++ 0 ∷ []))
    ⊎ ((child : List ℕ) × (more : List ℕ) × (n ≤ length child) × (path ≡ child ++ 47 ∷ more) × (start ≡ child ++ 48 ∷ []))

-- an entry with this path comes first from a start on
pub record IsFirstFrom (start : List ℕ) (entries : List (List ℕ × Entry)) (path : List ℕ) : Type 0 where
  pub entry : Entry
  pub more : List (List ℕ × Entry)
  pub split : from_start start entries ≡ (path, entry) ∷ more

-- no entry comes from a start on
abbrev pub HasNoneFrom : List ℕ → List (List ℕ × Entry) → Type 0
HasNoneFrom start entries = from_start start entries ≡ []
