-- Names of fragments as keys of an ordered map: when two of them are one, and what a change of the map leaves under each.
use Rattle.std.proofs.Common.{◌≡◌, ℕ, ◌&&◌, Bool, true, false, cond, eqb, List, ◌++◌, length, take, Option, refl, sym, ap, ◌∙◌, arith}
use Rattle.std.specs.Prelude.{if◌then◌else◌}
use Rattle.std.specs.Map.{lookup}
use Rattle.std.specs.BTreeMap.{is_at}
use Rattle.std.specs.Ordering.{nat_cmp, ordering_then, is_eq}
use Rattle.std.specs.Cmp.{tied_then}
use Rattle.std.proofs.lemmas.Bool.{eqb-true, eq-eqb, and_parts, and_from}
use Rattle.std.proofs.lemmas.Bool.Decides.{nat_tests}
use Rattle.std.proofs.lemmas.List.{take_all, take-append-le}
use Rattle.zb_types.specs.declared.ids.FragId.{FragId}
use Rattle.zb_types.specs.Order.{frag_cmp}
use Rattle.zb_holding.specs.Carrying.{same_frag}

nat_is_eq : (x y : ℕ) → eqb x y ≡ is_eq (nat_cmp x y)
nat_is_eq x y = grind (arith, nat_tests)

and_groups : (p q r : Bool) → (p && (q && r)) ≡ ((p && q) && r)
and_groups true q r = refl
and_groups false q r = refl

-- names that compare alike are one name
pub same_frag-cmp : (a b : FragId) → is_at (frag_cmp a) b ≡ same_frag a b
same_frag-cmp a b =
    sym (tied_then (nat_cmp a.log.0 b.log.0) (ordering_then (nat_cmp a.stripe b.stripe) (nat_cmp a.index b.index)))
    ∙ ap (λ t. is_eq (nat_cmp a.log.0 b.log.0) && t) (sym (tied_then (nat_cmp a.stripe b.stripe) (nat_cmp a.index b.index)))
    ∙ (λ i. sym (nat_is_eq a.log.0 b.log.0) i && (sym (nat_is_eq a.stripe b.stripe) i && sym (nat_is_eq a.index b.index) i))
    ∙ and_groups (eqb a.log.0 b.log.0) (eqb a.stripe b.stripe) (eqb a.index b.index)

pub is_at-same_frag : (a : FragId) → is_at (frag_cmp a) ≡ same_frag a
is_at-same_frag a = λ i q. same_frag-cmp a q i

-- names that are the same are equal
pub same_frag-is : (a b : FragId) → same_frag a b ≡ true → a ≡ b
same_frag-is a b same =
    let parts = and_parts (eqb a.log.0 b.log.0 && eqb a.stripe b.stripe) (eqb a.index b.index) same in
    let firsts = and_parts (eqb a.log.0 b.log.0) (eqb a.stripe b.stripe) parts.0 in
    let log = eqb-true a.log.0 b.log.0 firsts.0 in
    let stripe = eqb-true a.stripe b.stripe firsts.1 in
    let index = eqb-true a.index b.index parts.1 in
    (λ i. record { log = record { 0 = log i }; stripe = stripe i; index = index i })

-- equal names are the same
pub same_frag-of : (a b : FragId) → a ≡ b → same_frag a b ≡ true
same_frag-of a b e =
    ap (λ (c : FragId). same_frag a c) (sym e)
    ∙ and_from (eqb a.log.0 a.log.0 && eqb a.stripe a.stripe) (eqb a.index a.index)
    (and_from (eqb a.log.0 a.log.0) (eqb a.stripe a.stripe) (eq-eqb a.log.0 a.log.0 refl) (eq-eqb a.stripe a.stripe refl)) (eq-eqb a.index a.index refl)

module _ {X : Type 0} where
  -- what stands under a name is what the ordered map has there
  pub found_is : (entries : List (FragId × X)) (id : FragId) → lookup (is_at (frag_cmp id)) entries ≡ lookup (same_frag id) entries
  found_is entries id = ap (λ test. lookup test entries) (is_at-same_frag id)

  -- the ordered map has a value under a name, or has it no more
  pub put_by : (old new : List (FragId × X)) (id : FragId) (value : Option X)
      → ((q : FragId) → lookup (is_at (frag_cmp q)) new ≡ cond (is_at (frag_cmp id) q) value (lookup (is_at (frag_cmp q)) old))
      → (q : FragId) → lookup (same_frag q) new ≡ (if same_frag id q then value else lookup (same_frag q) old)
  put_by old new id value at q =
      sym (found_is new q) ∙ at q ∙ (λ i. cond (same_frag-cmp id q i) value (found_is old q i))

-- a list that has n items already begins with them
pub take-front : {A : Type 0} (n : ℕ) (front rest all : List A) → length front ≡ n → front ++ rest ≡ all → front ≡ take n all
take-front n front rest all long is =
    sym (take_all n front (omega (arith, long))) ∙ sym (take-append-le n front rest (omega (arith, long))) ∙ ap (λ s. take n s) is
