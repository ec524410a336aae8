-- The part of the map that begins at a front: the paths that begin with the front come first in it.
use Rattle.std.proofs.Common.{◌≡◌, ℕ, Bool, true, false, List, [], ◌∷◌, length, take, nat_eq, refl, sym, ap, ◌∙◌, inl, inr}
use Rattle.std.specs.List.{AllByRecursion, list_any, starts_with}
use Rattle.std.proofs.lemmas.Cmp.{nat_list_eq_equiv}
use Rattle.std.specs.List.Sorted.{IsStrictlySortedBy}
use Rattle.std.specs.declared.cmp.Ordering.TheVariants.{Less}
use Rattle.std.specs.Ordering.{nat_cmp, is_le}
use Rattle.std.specs.Cmp.Lexicographic.{slice_cmp}
use Rattle.std.specs.Map.{keys_of}
use Rattle.std.proofs.lemmas.Bool.{cases_Bool, false≢true}
use Rattle.std.proofs.lemmas.Map.Keys.{sorted_head, sorted_tail}
use Rattle.zb_types.specs.Names.{Entry}
use Rattle.zb_names.specs.Shown.{begins_with}
use Rattle.zb_names.specs.Placing.{from_start}
use Rattle.zb_names.proofs.Below.{front_le, past_front}

pub from_start-kept : (front : List ℕ) (e : List ℕ × Entry) (es : List (List ℕ × Entry)) → is_le (slice_cmp nat_cmp front e.0) ≡ true → from_start front (e ∷ es) ≡ e ∷ from_start front es
from_start-kept front e es le = rw le refl

pub from_start-left : (front : List ℕ) (e : List ℕ × Entry) (es : List (List ℕ × Entry)) → is_le (slice_cmp nat_cmp front e.0) ≡ false → from_start front (e ∷ es) ≡ from_start front es
from_start-left front e es le = rw le refl

-- what stands before the front doesn't begin with it
pub before_front : (front path : List ℕ) → is_le (slice_cmp nat_cmp front path) ≡ false → begins_with front path ≡ false
before_front front path before = elim (cases_Bool (begins_with front path)) [
  | inl begins ↦ absurd (false≢true (sym before ∙ front_le front path begins))
  | inr other ↦ other
]

module _ (front : List ℕ) where
  -- whether a path begins with the front
  abbrev pub begins : List ℕ × Entry → Bool
  begins e = begins_with front e.0

  -- behind a path from the front on that doesn't begin with the front, none does
  pub none_behind : (key : List ℕ) (es : List (List ℕ × Entry)) → is_le (slice_cmp nat_cmp front key) ≡ true → begins_with front key ≡ false → AllByRecursion (λ k. slice_cmp nat_cmp key k ≡ Less) (keys_of es)
      → AllByRecursion (λ e. begins_with front e.0 ≡ false) es
  none_behind key [] le other behind = tt
  none_behind key (e ∷ es) le other behind = (past_front front key e.0 le other behind.0, none_behind key es le other behind.1)

  pub list_any-none : (es : List (List ℕ × Entry)) → AllByRecursion (λ e. begins_with front e.0 ≡ false) es → list_any begins es ≡ false
  list_any-none [] none = refl
  list_any-none (e ∷ es) none = rw none.0 (list_any-none es none.1)

  pub any_from_none : (es : List (List ℕ × Entry)) → from_start front es ≡ [] → list_any begins es ≡ false
  any_from_none [] empty = refl
  any_from_none (e ∷ es) empty = elim (cases_Bool (is_le (slice_cmp nat_cmp front e.0))) [
    | inl le ↦ let some : e ∷ from_start front es ≡ [] = sym (from_start-kept front e es le) ∙ empty in absurd cc
    | inr before ↦ rw (before_front front e.0 before) (any_from_none es (sym (from_start-left front e es before) ∙ empty))
  ]

  -- the first from the front on tells whether any path begins with the front
  pub any_from_first : (es : List (List ℕ × Entry)) (first : List ℕ × Entry) (more : List (List ℕ × Entry)) → IsStrictlySortedBy (slice_cmp nat_cmp) (keys_of es) → from_start front es ≡ first ∷ more
      → list_any begins es ≡ begins_with front first.0
  any_from_first [] first more rising split = absurd cc
  any_from_first (e ∷ es) first more rising split = elim (cases_Bool (is_le (slice_cmp nat_cmp front e.0))) [
    | inl le ↦
        let both : e ∷ from_start front es ≡ first ∷ more = sym (from_start-kept front e es le) ∙ split in
        let same : e ≡ first = cc in
        let here : list_any begins ((e ∷ es)) ≡ begins_with front e.0 = elim (cases_Bool (begins_with front e.0)) [
          | inl begun ↦ rw begun refl
          | inr other ↦ rw other (list_any-none es (none_behind e.0 es le other (sorted_head (slice_cmp nat_cmp) e.0 (keys_of es) rising)))
        ] in
        here ∙ ap (λ (f : List ℕ × Entry). begins_with front f.0) same
    | inr before ↦ rw (before_front front e.0 before) (any_from_first es first more (sorted_tail (slice_cmp nat_cmp) e.0 (keys_of es) rising) (sym (from_start-left front e es before) ∙ split))
  ]

-- the test by `starts_with` is that of the definition
pub starts-begins : (path front : List ℕ) → starts_with nat_eq path front ≡ begins_with front path
starts-begins path front = nat_list_eq_equiv.symm front (take (length front) path)
