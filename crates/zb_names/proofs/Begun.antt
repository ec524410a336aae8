-- The entries below a path, found from its front on.
use Rattle.std.proofs.Common.{◌≡◌, ℕ, true, false, cond, List, [], ◌∷◌, ◌++◌, refl, sym, ap, ◌∙◌, inl, inr}
use Rattle.std.specs.List.{AllByRecursion, list_any}
use Rattle.std.specs.List.Sorted.{IsStrictlySortedBy}
use Rattle.std.specs.Ordering.{nat_cmp, is_le}
use Rattle.std.specs.Cmp.Lexicographic.{slice_cmp}
use Rattle.std.specs.Map.{keys_of}
use Rattle.std.proofs.lemmas.Bool.{cases_Bool}
use Rattle.std.proofs.lemmas.Map.Keys.{sorted_head}
use Rattle.zb_types.specs.Names.{Entry, is_below}
use Rattle.zb_names.specs.Changing.{below}
use Rattle.zb_names.specs.Placing.{from_start}
use Rattle.zb_names.specs.Shown.{begins_with}
use Rattle.zb_names.proofs.Below.{begins-below, any_begins-below}
use Rattle.zb_names.proofs.Behind.{from_start-kept, from_start-left, before_front, none_behind, any_from_none, any_from_first}

module _ (path : List ℕ) where
  -- where the paths below it begin
  abbrev front : List ℕ
  front = path ++ 47 ∷ []

  below-same : (d : List ℕ × Entry) (ds es : List (List ℕ × Entry)) → below path ds ≡ below path es → below path (d ∷ ds) ≡ below path (d ∷ es)
  below-same d ds es same = elim (is_below path d.0) as (λ b. cond b (d ∷ below path ds) (below path ds) ≡ cond b (d ∷ below path es) (below path es)) [
    | true ↦ ap (λ more. d ∷ more) same
    | false ↦ same
  ]

  pub below-from : (es : List (List ℕ × Entry)) → below path (from_start front es) ≡ below path es
  below-from [] = refl
  below-from (e ∷ es) = elim (cases_Bool (is_le (slice_cmp nat_cmp front e.0))) [
    | inl le ↦ ap (below path) (from_start-kept front e es le) ∙ below-same e (from_start front es) es (below-from es)
    | inr before ↦ let outside : is_below path e.0 ≡ false = sym (begins-below path e.0) ∙ before_front front e.0 before in
        ap (below path) (from_start-left front e es before) ∙ rw outside (below-from es)
  ]

  below-nothing : (es : List (List ℕ × Entry)) → AllByRecursion (λ e. begins_with front e.0 ≡ false) es → below path es ≡ []
  below-nothing [] none = refl
  below-nothing (e ∷ es) none = let outside : is_below path e.0 ≡ false = sym (begins-below path e.0) ∙ none.0 in rw outside (below-nothing es none.1)

  -- from the front on, where the first isn't below the path none is
  pub below-past : (e : List ℕ × Entry) (es : List (List ℕ × Entry)) → IsStrictlySortedBy (slice_cmp nat_cmp) (keys_of (e ∷ es)) → AllByRecursion (λ d. is_le (slice_cmp nat_cmp front d.0) ≡ true) (e ∷ es) → is_below path e.0 ≡ false
      → below path (e ∷ es) ≡ []
  below-past e es rising from other =
      let not_begun : begins_with front e.0 ≡ false = begins-below path e.0 ∙ other in
      below-nothing (e ∷ es) (not_begun, none_behind front e.0 es from.0 not_begun (sorted_head (slice_cmp nat_cmp) e.0 (keys_of es) rising))

  pub below-first : (e : List ℕ × Entry) (es : List (List ℕ × Entry)) → is_below path e.0 ≡ true → below path (e ∷ es) ≡ e ∷ below path es
  below-first e es inside = rw inside refl

  -- whether anything is below the path, by the first from its front on
  pub any_below-none : (es : List (List ℕ × Entry)) → from_start front es ≡ [] → list_any (λ e. is_below path e.0) es ≡ false
  any_below-none es none = sym (any_begins-below front path es refl) ∙ any_from_none front es none

  pub any_below-first : (es : List (List ℕ × Entry)) (first : List ℕ × Entry) (more : List (List ℕ × Entry)) → IsStrictlySortedBy (slice_cmp nat_cmp) (keys_of es) → from_start front es ≡ first ∷ more
      → list_any (λ e. is_below path e.0) es ≡ is_below path first.0
  any_below-first es first more rising split = sym (any_begins-below front path es refl) ∙ any_from_first front es first more rising split ∙ begins-below path first.0
