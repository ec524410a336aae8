-- The entries at a path and below it.
use Rattle.std.proofs.Common.{◌≡◌, ℕ, true, false, cond, List, [], ◌∷◌, ◌++◌, Some, refl, sym, ap, subst, ◌∙◌, inl, inr}
use Rattle.std.specs.List.{AllByRecursion}
use Rattle.std.specs.List.Sorted.{IsStrictlySortedBy}
use Rattle.std.specs.declared.cmp.Ordering.TheVariants.{Less, Equal, Greater}
use Rattle.std.specs.Ordering.{nat_cmp}
use Rattle.std.specs.Cmp.Lexicographic.{slice_cmp}
use Rattle.std.specs.Str.{bytes_eq}
use Rattle.std.specs.Map.{keys_of}
use Rattle.std.proofs.lemmas.Option.{same_Some}
use Rattle.std.proofs.lemmas.Cmp.{tied_itself, nat_cmp_total, nat_list_cmp_total}
use Rattle.std.proofs.lemmas.Bool.{cases_Bool}
use Rattle.std.proofs.lemmas.Slice.Eq.{bytes_eq-Decides}
use Rattle.zb_types.specs.Names.{Entry, find, is_below}
use Rattle.zb_names.specs.Changing.{within, below}
use Rattle.zb_names.proofs.Below.{bytes_eq-cmp}
use Rattle.zb_names.proofs.Fronts.{split_below}
use Rattle.zb_names.proofs.Finding.{less_back}

longer_behind : (path : List ℕ) (b : ℕ) (rest : List ℕ) → slice_cmp nat_cmp path (path ++ b ∷ rest) ≡ Less
longer_behind [] b rest = refl
longer_behind (a ∷ path) b rest = rw (tied_itself nat_cmp_total a) (longer_behind path b rest)

-- what is below a path stands behind it
pub below_behind : (path other : List ℕ) → is_below path other ≡ true → slice_cmp nat_cmp path other ≡ Less
below_behind path other is = ap (slice_cmp nat_cmp path) (split_below path other is) ∙ longer_behind path 47 _

pub not_below_itself : (path : List ℕ) → is_below path path ≡ false
not_below_itself path = elim (cases_Bool (is_below path path)) [
  | inl is ↦ let both : Less ≡ Equal = sym (below_behind path path is) ∙ tied_itself nat_list_cmp_total path in absurd cc
  | inr other ↦ other
]

-- behind a path no entry is at it
within_behind : (path : List ℕ) (es : List (List ℕ × Entry)) → AllByRecursion (λ k. slice_cmp nat_cmp path k ≡ Less) (keys_of es) → within path es ≡ below path es
within_behind path [] all = refl
within_behind path (e ∷ es) all = rw (bytes_eq-cmp path e.0, all.0) (same_first (within_behind path es all.1))
  where
    same_first : within path es ≡ below path es → cond (is_below path e.0) (e ∷ within path es) (within path es) ≡ cond (is_below path e.0) (e ∷ below path es) (below path es)
    same_first same = elim (is_below path e.0) as (λ b. cond b (e ∷ within path es) (within path es) ≡ cond b (e ∷ below path es) (below path es)) [
      | true ↦ ap (λ more. e ∷ more) same
      | false ↦ same
    ]

found_behind : (path first : List ℕ) (entry : Entry) (es : List (List ℕ × Entry)) → find path es ≡ Some entry → AllByRecursion (λ k. slice_cmp nat_cmp first k ≡ Less) (keys_of es) → slice_cmp nat_cmp first path ≡ Less
found_behind path first entry [] found all = absurd cc
found_behind path first entry (e ∷ es) found all = elim (cases_Bool (bytes_eq path e.0)) [
  | inl same ↦ ap (slice_cmp nat_cmp first) ((bytes_eq-Decides path e.0).0 same) ∙ all.0
  | inr apart ↦ found_behind path first entry es (rw apart at found) all.1
]

-- at a path is one entry, and the others stand below it
pub within-found : (path : List ℕ) (entry : Entry) (es : List (List ℕ × Entry)) → IsStrictlySortedBy (slice_cmp nat_cmp) (keys_of es) → find path es ≡ Some entry → within path es ≡ (path, entry) ∷ below path es
unfolding IsStrictlySortedBy
within-found path entry [] sorted found = absurd cc
within-found path entry (e ∷ es) sorted found = elim (cases_Bool (bytes_eq path e.0)) [
  | inl same ↦
      let key : path ≡ e.0 = (bytes_eq-Decides path e.0).0 same in
      let value : e.1 ≡ entry = same_Some e.1 entry (rw same at found) in
      let outside : is_below path e.0 ≡ false = subst (λ p. is_below path p ≡ false) key (not_below_itself path) in
      let rest : within path es ≡ below path es = within_behind path es (subst (λ p. AllByRecursion (λ k. slice_cmp nat_cmp p k ≡ Less) (keys_of es)) (sym key) sorted.0) in
      rw (same, outside) (λ i. (sym key i, value i) ∷ rest i)
  | inr apart ↦
      let later : find path es ≡ Some entry = rw apart at found in
      let before : slice_cmp nat_cmp path e.0 ≡ Greater = less_back e.0 path Less (found_behind path e.0 entry es later sorted.0) in
      let outside : is_below path e.0 ≡ false = elim (cases_Bool (is_below path e.0)) [
        | inl is ↦ let both : Less ≡ Greater = sym (below_behind path e.0 is) ∙ before in absurd cc
        | inr other ↦ other
      ] in
      rw (apart, outside) (within-found path entry es sorted.1 later)
]
