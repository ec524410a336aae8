-- Entries in the order of their keys: equal look-ups give equal entries.
use Rattle.std.proofs.Common.{◌≡◌, Bool, true, false, List, [], ◌∷◌, Option, Some, None, refl, sym, ap, ◌∙◌, inl, inr}
use Rattle.std.specs.Prelude.{◌⊎◌}
use Rattle.std.specs.BTreeMap.{is_at}
use Rattle.std.specs.Cmp.{IsTotalOrder, eq_by_cmp_equiv, tied_itself}
use Rattle.std.specs.List.Sorted.{IsStrictlySortedBy}
use Rattle.std.specs.Map.{keys_of, lookup}
use Rattle.std.specs.Ordering.{eq_by_cmp, is_eq, ordering_reverse}
use Rattle.std.specs.declared.cmp.Ordering.{Ordering}
use Rattle.std.specs.declared.cmp.Ordering.TheVariants.{Equal, Greater, Less}
use Rattle.std.proofs.lemmas.Bool.{cases_Bool}
use Rattle.std.proofs.lemmas.Map.{lookup-none}
use Rattle.std.proofs.lemmas.Map.Entries.{lookup_head, lookup_tail, none_below_head, none_past_head}
use Rattle.std.proofs.lemmas.Map.Keys.{IsDistinct-from_sorted, sorted_tail}
use Rattle.std.proofs.lemmas.Option.{none-some, same_Some}

-- what stands under a key
abbrev find : {K X : Type 0} → (K → K → Ordering) → List (K × X) → K → Option X
find R es q = lookup (is_at (R q)) es

-- each key is below the next
abbrev AreInOrder : {K X : Type 0} → (K → K → Ordering) → List (K × X) → Type 0
AreInOrder R es = IsStrictlySortedBy R (keys_of es)

module _ {K X : Type 0} {R : K → K → Ordering} (o : IsTotalOrder R) where
  at_head : (x : K × X) (xs : List (K × X)) → find R (x ∷ xs) x.0 ≡ Some x.1
  at_head x xs = lookup_head (is_at (R x.0)) x xs (ap is_eq (tied_itself o x.0))

  past_head : (q : K) (x : K × X) (xs : List (K × X)) → AreInOrder R (x ∷ xs) → eq_by_cmp R q x.0 ≡ true → find R xs q ≡ None
  past_head q x xs s t = lookup-none (is_at (R q)) xs (none_past_head (eq_by_cmp_equiv o) q x xs (IsDistinct-from_sorted R (keys_of (x ∷ xs)) s) t)

  module _ (x y : K × X) (xs ys : List (K × X)) (s : AreInOrder R (x ∷ xs)) (t : AreInOrder R (y ∷ ys)) (h : (q : K) → find R (x ∷ xs) q ≡ find R (y ∷ ys) q) where
    by_heads : (r : Ordering) → R x.0 y.0 ≡ r → R x.0 y.0 ≡ Equal
    by_heads Less p = absurd (none-some x.1 (sym (lookup-none (is_at (R x.0)) (y ∷ ys) (none_below_head o x.0 y ys t p)) ∙ sym (h x.0) ∙ at_head x xs))
    by_heads Equal p = p
    by_heads Greater p =
        absurd (none-some y.1 (sym (lookup-none (is_at (R y.0)) (x ∷ xs) (none_below_head o y.0 x xs s (o.antisymm y.0 x.0 ∙ ap ordering_reverse p))) ∙ h y.0 ∙ at_head y ys))

    heads : R x.0 y.0 ≡ Equal
    heads = by_heads (R x.0 y.0) refl

    values : x.1 ≡ y.1
    values = same_Some x.1 y.1 (sym (at_head x xs) ∙ h x.0 ∙ lookup_head (is_at (R x.0)) y ys (ap is_eq heads))

    tails : (q : K) → find R xs q ≡ find R ys q
    tails q =
        let both = eq_by_cmp_equiv o in
        let e : eq_by_cmp R q y.0 ≡ eq_by_cmp R q x.0 = both.symm q y.0 ∙ sym (both.congr x.0 y.0 q (ap is_eq heads)) ∙ both.symm x.0 q in
        by e (cases_Bool (eq_by_cmp R q x.0))
      where
        by : eq_by_cmp R q y.0 ≡ eq_by_cmp R q x.0 → (eq_by_cmp R q x.0 ≡ true) ⊎ (eq_by_cmp R q x.0 ≡ false) → find R xs q ≡ find R ys q
        by e (inl b) = past_head q x xs s b ∙ sym (past_head q y ys t (e ∙ b))
        by e (inr b) = sym (lookup_tail (is_at (R q)) x xs b) ∙ h q ∙ lookup_tail (is_at (R q)) y ys (e ∙ b)

  module _ (exact : (x y : K) → R x y ≡ Equal → x ≡ y) where
    pub same_in_order : (es fs : List (K × X)) → AreInOrder R es → AreInOrder R fs → ((q : K) → find R es q ≡ find R fs q) → es ≡ fs
    same_in_order [] [] s t h = refl
    same_in_order [] (y ∷ ys) s t h = absurd (none-some y.1 (h y.0 ∙ at_head y ys))
    same_in_order (x ∷ xs) [] s t h = absurd (none-some x.1 (sym (h x.0) ∙ at_head x xs))
    same_in_order (x ∷ xs) (y ∷ ys) s t h =
        let rest = same_in_order xs ys (sorted_tail R x.0 (keys_of xs) s) (sorted_tail R y.0 (keys_of ys) t) (tails x y xs ys s t h) in
        (λ i. (exact x.0 y.0 (heads x y xs ys s t h) i, values x y xs ys s t h i) ∷ rest i)
