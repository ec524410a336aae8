-- The names right behind a front, gathered from the map.
use Rattle.std.proofs.Common.{◌≡◌, ℕ, true, false, not, ◌&&◌, List, [], ◌∷◌, ◌++◌, length, drop, refl, sym, ap, ◌∙◌, inl, inr}
use Rattle.std.specs.List.{AllByRecursion}
use Rattle.std.specs.List.Sorted.{IsStrictlySortedBy}
use Rattle.std.specs.declared.cmp.Ordering.TheVariants.{Less}
use Rattle.std.specs.Ordering.{nat_cmp, is_le}
use Rattle.std.specs.Cmp.Lexicographic.{slice_cmp}
use Rattle.std.specs.Map.{keys_of}
use Rattle.std.proofs.lemmas.Bool.{cases_Bool}
use Rattle.zb_types.specs.Paths.{is_path}
use Rattle.zb_types.specs.Names.{Entry}
use Rattle.zb_names.specs.Shown.{begins_with}
use Rattle.zb_names.specs.Listing.{IsFront, has_slash, name_of, names_behind}
use Rattle.zb_names.specs.Placing.{from_start}
use Rattle.zb_names.proofs.Behind.{from_start-kept, from_start-left, before_front}
use Rattle.zb_names.proofs.NameParts.{name_behind}

-- one path more
pub names_behind-cons : (front path : List ℕ) (entry : Entry) (es : List (List ℕ × Entry)) → IsFront front → is_path path ≡ true → begins_with front path ≡ true
    → names_behind front ((path, entry) ∷ es) ≡ name_of (drop (length front) path) ++ names_behind front es
names_behind-cons front path entry es is_front is begins =
    let name = name_behind front path is_front begins is in
    elim (cases_Bool (has_slash (drop (length front) path))) [
      | inl some ↦ rw (begins, name, some) refl
      | inr none ↦ rw (begins, name, none) refl
    ]

-- a path that doesn't begin with the front has no such name
names_behind-other : (front path : List ℕ) (entry : Entry) (es : List (List ℕ × Entry)) → begins_with front path ≡ false → names_behind front ((path, entry) ∷ es) ≡ names_behind front es
names_behind-other front path entry es other = rw other refl

module _ (front : List ℕ) where
  pub names_behind-none : (es : List (List ℕ × Entry)) → AllByRecursion (λ e. begins_with front e.0 ≡ false) es → names_behind front es ≡ []
  names_behind-none [] none = refl
  names_behind-none (e ∷ es) none = names_behind-other front e.0 e.1 es none.0 ∙ names_behind-none es none.1

  -- what stands before the front has no such name
  pub names_behind-from : (es : List (List ℕ × Entry)) → names_behind front ((from_start front es)) ≡ names_behind front es
  names_behind-from [] = refl
  names_behind-from (e ∷ es) = elim (cases_Bool (is_le (slice_cmp nat_cmp front e.0))) [
    | inl le ↦ ap (λ s. names_behind front s) (from_start-kept front e es le) ∙ same_first (e.0, e.1) ((from_start front es)) es (names_behind-from es)
    | inr before ↦ ap (λ s. names_behind front s) (from_start-left front e es before) ∙ names_behind-from es
        ∙ sym (names_behind-other front e.0 e.1 es (before_front front e.0 before))
  ]
    where
      same_first : (d : List ℕ × Entry) (ds es : List (List ℕ × Entry)) → names_behind front ds ≡ names_behind front es → names_behind front (d ∷ ds) ≡ names_behind front (d ∷ es)
      same_first d ds es same = elim (cases_Bool (begins_with front d.0 && not (has_slash (drop (length front) d.0)))) [
        | inl child ↦ rw child (ap (λ rest. drop (length front) d.0 ∷ rest) same)
        | inr other ↦ rw other same
      ]

  pub le-from : (es : List (List ℕ × Entry)) → AllByRecursion (λ e. is_le (slice_cmp nat_cmp front e.0) ≡ true) (from_start front es)
  le-from [] = tt
  le-from (e ∷ es) = elim (cases_Bool (is_le (slice_cmp nat_cmp front e.0))) [
    | inl le ↦ rw (from_start-kept front e es le) (le, le-from es)
    | inr before ↦ rw (from_start-left front e es before) (le-from es)
  ]

  behind-from : (key : List ℕ) (es : List (List ℕ × Entry)) → AllByRecursion (λ k. slice_cmp nat_cmp key k ≡ Less) (keys_of es) → AllByRecursion (λ k. slice_cmp nat_cmp key k ≡ Less) (keys_of (from_start front es))
  behind-from key [] behind = tt
  behind-from key (e ∷ es) behind = elim (cases_Bool (is_le (slice_cmp nat_cmp front e.0))) [
    | inl le ↦ rw (from_start-kept front e es le) (behind.0, behind-from key es behind.1)
    | inr before ↦ rw (from_start-left front e es before) (behind-from key es behind.1)
  ]

  pub rising-from : (es : List (List ℕ × Entry)) → IsStrictlySortedBy (slice_cmp nat_cmp) (keys_of es) → IsStrictlySortedBy (slice_cmp nat_cmp) (keys_of (from_start front es))
  unfolding IsStrictlySortedBy
  rising-from [] rising = tt
  rising-from (e ∷ es) rising = elim (cases_Bool (is_le (slice_cmp nat_cmp front e.0))) [
    | inl le ↦ rw (from_start-kept front e es le) (behind-from e.0 es rising.0, rising-from es rising.1)
    | inr before ↦ rw (from_start-left front e es before) (rising-from es rising.1)
  ]
