-- What holds of each block of a cache, once it is asked for blocks, and once one is put into it.
use Rattle.std.proofs.Common.{◌≡◌, ℕ, zero, suc, ◌-◌, Bool, ◌&&◌, true, false, eqb, List, [], ◌∷◌, Option, Some, None, refl, sym, subst}
use Rattle.std.specs.Prelude.{if◌then◌else◌, fold, take}
use Rattle.std.specs.Option.{option_map_or}
use Rattle.std.specs.List.{AllByRecursion}
use Rattle.std.proofs.lemmas.Bool.{and_parts, eqb-true}
use Rattle.std.proofs.lemmas.Option.{same_Some}
use Rattle.zb_types.specs.declared.ids.Ptr.{Ptr}
use Rattle.zb_cache.specs.Entries.{after_put, after_use, bytes_under, others, same_ptr}

-- pointers that are the same are equal
same_is : (p q : Ptr) → same_ptr p q ≡ true → p ≡ q
same_is p q same =
    let first = and_parts (eqb p.log.0 q.log.0) (eqb p.stripe q.stripe && (eqb p.offset q.offset && eqb p.len q.len)) same in
    let second = and_parts (eqb p.stripe q.stripe) (eqb p.offset q.offset && eqb p.len q.len) first.1 in
    let third = and_parts (eqb p.offset q.offset) (eqb p.len q.len) second.1 in
    let log = eqb-true p.log.0 q.log.0 first.0 in
    let stripe = eqb-true p.stripe q.stripe second.0 in
    let offset = eqb-true p.offset q.offset third.0 in
    let len = eqb-true p.len q.len third.1 in
    (λ i. record { log = record { 0 = log i }; stripe = stripe i; offset = offset i; len = len i })

abbrev Blocks : Type 0
Blocks = List (Ptr × List ℕ)

module _ (P : Ptr × List ℕ → Type 0) where
  -- what is found under a pointer
  under_here : (p : Ptr) (x : Ptr × List ℕ) (bytes : List ℕ) (rest : Option (List ℕ)) (here : Bool) → same_ptr p x.0 ≡ here
      → (if here then Some x.1 else rest) ≡ Some bytes → P x → (rest ≡ Some bytes → P (p, bytes)) → P (p, bytes)
  under_here p x bytes rest true same e own there = subst (λ (b : List ℕ). P (p, b)) (same_Some _ _ e) (subst (λ (q : Ptr). P (q, x.1)) (sym (same_is p x.0 same)) own)
  under_here p x bytes rest false same e own there = there e

  under_each : (p : Ptr) (bytes : List ℕ) (es : Blocks) → AllByRecursion P es → bytes_under p es ≡ Some bytes → P (p, bytes)
  under_each p bytes [] all e = absurd (nothing e) where
    nothing : None ≡ Some bytes → ⊥
    nothing c = cc
  under_each p bytes (x ∷ es) all e = under_here p x bytes (bytes_under p es) (same_ptr p x.0) refl e all.0 (λ there. under_each p bytes es all.1 there)

  without_each : (p : Ptr) (es : Blocks) → AllByRecursion P es → AllByRecursion P (others p es)
  without_each p [] all = tt
  without_each p (x ∷ es) all = by (same_ptr p x.0) (without_each p es all.1) where
    by : (here : Bool) → AllByRecursion P (others p es) → AllByRecursion P (if here then es else x ∷ others p es)
    by true rest = all.1
    by false rest = (all.0, rest)

  first_each : (n : ℕ) (es : Blocks) → AllByRecursion P es → AllByRecursion P (take n es)
  first_each zero es all = tt
  first_each (suc n) [] all = tt
  first_each (suc n) (x ∷ es) all = (all.0, first_each n es all.1)

  used_by : (p : Ptr) (es : Blocks) (under : Option (List ℕ)) → bytes_under p es ≡ under → AllByRecursion P es
      → AllByRecursion P (option_map_or (λ bytes. (p, bytes) ∷ others p es) under es)
  used_by p es None e all = all
  used_by p es (Some bytes) e all = (under_each p bytes es all e, without_each p es all)

  used_each : (p : Ptr) (es : Blocks) → AllByRecursion P es → AllByRecursion P (after_use p es)
  used_each p es all = used_by p es (bytes_under p es) refl all

  pub asked_each : (ps : List Ptr) (es : Blocks) → AllByRecursion P es → AllByRecursion P (fold (λ entries p. after_use p entries) es ps)
  asked_each [] es all = all
  asked_each (p ∷ ps) es all = asked_each ps (after_use p es) (used_each p es all)

  put_by : (n : ℕ) (p : Ptr) (es : Blocks) (under : Option (List ℕ)) → AllByRecursion P es
      → AllByRecursion P (option_map_or (λ (_ : List ℕ). others p es) under (take (n - 1) es))
  put_by n p es None all = first_each (n - 1) es all
  put_by n p es (Some bytes) all = without_each p es all

  pub put_each : (n : ℕ) (p : Ptr) (bytes : List ℕ) (es : Blocks) → P (p, bytes) → AllByRecursion P es → AllByRecursion P (after_put n p bytes es)
  put_each n p bytes es own all = (own, put_by n p es (bytes_under p es) all)

  -- what is found in it
  pub found_each : (p : Ptr) (bytes : List ℕ) (es : Blocks) → AllByRecursion P es → bytes_under p es ≡ Some bytes → P (p, bytes)
  found_each p bytes es all e = under_each p bytes es all e
