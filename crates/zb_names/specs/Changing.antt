-- Changes of names that are prepared, and then carried out without memory.
use Rattle.std.specs.Prelude.{◌≡◌, ℕ, ◌+◌, ◌-◌, ◌≤◌, nat_lt, max, Bool, not, true, false, List, [], ◌∷◌, ◌++◌, length, drop, map, filter, Option, Some, None}
use Rattle.std.specs.List.{AllByRecursion, list_any}
use Rattle.std.specs.List.Sorted.{IsStrictlySortedBy}
use Rattle.std.specs.Ordering.{nat_cmp}
use Rattle.std.specs.Cmp.Lexicographic.{slice_cmp}
use Rattle.std.specs.Map.{keys_of}
use Rattle.zb_types.specs.Names.{Entry, Names, has, is_within, is_below, max_names, max_path, with_entries}
use Rattle.zb_names.specs.declared.entries.Entry.{Entry as Given}
use Rattle.zb_names.specs.Shown.{listed, seen}
use Rattle.zb_names.specs.Sound.{IsTree}

-- what is taken out with all that is below it, what is put in, and the number that the next file gets
pub record Changed : Type 0 where
  pub gone : Option (List ℕ)
  pub fresh : List (List ℕ × Entry)
  pub next : ℕ

-- an entry, if there is one, and more that go with it
abbrev pub fresh_of : Option (List ℕ × Given) → List (List ℕ × Given) → List (List ℕ × Entry)
fresh_of None more = []
fresh_of (Some first) more = (first.0, seen first.1) ∷ listed more

-- the entries behind the first rise, and are below its path
abbrev pub LieBelow : List (List ℕ × Entry) → Type 0
LieBelow [] = Unit {0}
LieBelow (first ∷ more) = IsStrictlySortedBy (slice_cmp nat_cmp) (keys_of more) × AllByRecursion (λ e. is_below first.0 e.0 ≡ true) more

-- no entry is below the path of the first that is put in
abbrev pub HasNoneBelow : List (List ℕ × Entry) → List (List ℕ × Entry) → Type 0
HasNoneBelow [] entries = Unit {0}
HasNoneBelow (first ∷ more) entries = list_any (λ e. is_below first.0 e.0) entries ≡ false

-- the entries that aren't taken out
abbrev pub staying : Option (List ℕ) → List (List ℕ × Entry) → List (List ℕ × Entry)
staying None entries = entries
staying (Some path) entries = filter (λ e. not (is_within path e.0)) entries

-- what a prepared change makes of names
abbrev pub carried : Changed → Names → Names
carried change names = record { next = change.next; entries = with_entries change.fresh (staying change.gone names.entries) }

-- each of the fresh entries has a path that no entry has, nor a later one of them
abbrev pub AreNew : List (List ℕ × Entry) → List (List ℕ × Entry) → Type 0
AreNew [] entries = Unit {0}
AreNew (new ∷ more) entries = (has new.0 (with_entries more entries) ≡ false) × AreNew more entries

-- A prepared change may be carried out on these names: what is put in is new there, what comes of it is a tree, and
-- there is room for it.
pub record MayCarry (change : Changed) (names : Names) : Type 0 where
  pub new : AreNew change.fresh (staying change.gone names.entries)
  pub tree : IsTree change.next (carried change names).entries
  pub room : length change.fresh + length (staying change.gone names.entries) ≤ max max_names (length names.entries)

-- the entries at a path and below it
abbrev pub within : List ℕ → List (List ℕ × Entry) → List (List ℕ × Entry)
within path entries = filter (λ e. is_within path e.0) entries

-- the entries below a path
abbrev pub below : List ℕ → List (List ℕ × Entry) → List (List ℕ × Entry)
below path entries = filter (λ e. is_below path e.0) entries

-- the entries with the first bytes of their paths replaced
abbrev pub relocated : ℕ → List ℕ → List (List ℕ × Entry) → List (List ℕ × Entry)
relocated cut to entries = map (λ e. (to ++ drop cut e.0, e.1)) entries

-- whether a path gets too long where so many of its first bytes are replaced by others
abbrev pub any_too_long : ℕ → ℕ → List (List ℕ × Entry) → Bool
any_too_long cut added entries = list_any (λ e. nat_lt max_path (added + (length e.0 - cut))) entries
