-- What holds of each element of a list, once some are kept, changed or put.
use Rattle.std.proofs.Common.{◌≡◌, ℕ, Bool, true, eqb, List, [], ◌∷◌, Option, Some, None, refl, sym, ap, ◌∙◌, subst, inl, inr}
use Rattle.std.specs.Prelude.{filter, nat_lt, if◌then◌else◌, IsSome}
use Rattle.std.specs.List.{AllByRecursion}
use Rattle.std.proofs.lemmas.Bool.{cases_Bool, cond_both, eqb-true, false≢true}
use Rattle.std.proofs.lemmas.Option.{none-some, same_Some}
use Rattle.zb_types.specs.Keyed.{look, put, replaced, without, changed}
use Rattle.zb_types.proofs.KeyedLists.{IsRising}
use Rattle.zb_tables.proofs.Logs.{above_kept}

module _ {A : Type 0} where
  pub all_map : (P Q : A → Type 0) → ((a : A) → P a → Q a) → (xs : List A) → AllByRecursion P xs → AllByRecursion Q xs
  all_map P Q f [] all = tt
  all_map P Q f (x ∷ xs) all = (f x all.0, all_map P Q f xs all.1)

  pub all_two : (P Q R : A → Type 0) → ((a : A) → P a → Q a → R a) → (xs : List A) → AllByRecursion P xs → AllByRecursion Q xs → AllByRecursion R xs
  all_two P Q R f [] one other = tt
  all_two P Q R f (x ∷ xs) one other = (f x one.0 other.0, all_two P Q R f xs one.1 other.1)

  pub all_filter : (keep : A → Bool) (P Q : A → Type 0) → ((a : A) → keep a ≡ true → P a → Q a) → (xs : List A) → AllByRecursion P xs → AllByRecursion Q (filter keep xs)
  all_filter keep P Q f [] all = tt
  all_filter keep P Q f (x ∷ xs) all =
      cond_both (keep x) (x ∷ filter keep xs) (filter keep xs) (AllByRecursion Q) (λ t. (f x t all.0, all_filter keep P Q f xs all.1)) (λ _. all_filter keep P Q f xs all.1)

  -- what an option has, where it has something
  pub some_is : (o : Option A) → IsSome o → (a : A) × (o ≡ Some a)
  some_is None some = absurd (false≢true some)
  some_is (Some a) some = (a, refl)

-- lists under numbers
module _ {A : Type 0} (P : ℕ × A → Type 0) where
  pub all_put : (k : ℕ) (a : A) → P (k, a) → (es : List (ℕ × A)) → AllByRecursion P es → AllByRecursion P (put k a es)
  all_put k a this [] all = (this, tt)
  all_put k a this (e ∷ es) all =
      cond_both (eqb e.0 k) ((k, a) ∷ es) (if nat_lt k e.0 then (k, a) ∷ e ∷ es else e ∷ put k a es) (AllByRecursion P) (λ _. (this, all.1))
      (λ _. cond_both (nat_lt k e.0) ((k, a) ∷ e ∷ es) (e ∷ put k a es) (AllByRecursion P) (λ _. (this, all)) (λ _. (all.0, all_put k a this es all.1)))

  pub all_replaced : (k : ℕ) (a : A) → P (k, a) → (es : List (ℕ × A)) → AllByRecursion P es → AllByRecursion P (replaced k a es)
  all_replaced k a this [] all = tt
  all_replaced k a this (e ∷ es) all = cond_both (eqb e.0 k) ((k, a) ∷ es) (e ∷ replaced k a es) (AllByRecursion P) (λ _. (this, all.1)) (λ _. (all.0, all_replaced k a this es all.1))

  pub all_without : (k : ℕ) (es : List (ℕ × A)) → AllByRecursion P es → AllByRecursion P (without k es)
  all_without k [] all = tt
  all_without k (e ∷ es) all = cond_both (eqb e.0 k) (without k es) (e ∷ without k es) (AllByRecursion P) (λ _. all_without k es all.1) (λ _. (all.0, all_without k es all.1))

  pub all_keyed : (k : ℕ) (a : A) (es : List (ℕ × A)) → AllByRecursion P es → look k es ≡ Some a → P (k, a)
  all_keyed k a [] all at = absurd (none-some a at)
  all_keyed k a (e ∷ es) all at = elim (cases_Bool (eqb e.0 k)) as (λ _. P (k, a)) [
    | inr f ↦ all_keyed k a es all.1 (sym (ap (λ (b : Bool). if b then Some e.1 else look k es) f) ∙ at)
    | inl t ↦
        let value : e.1 ≡ a = same_Some e.1 a (sym (ap (λ (b : Bool). if b then Some e.1 else look k es) t) ∙ at) in
        subst (λ (n : ℕ). P (n, a)) (eqb-true e.0 k t) (subst (λ (v : A). P (e.0, v)) value all.0)
  ]

pub all_changed : {A B : Type 0} (P : ℕ × A → Type 0) (Q : ℕ × B → Type 0) (f : A → B) → ((e : ℕ × A) → P e → Q (e.0, f e.1)) → (es : List (ℕ × A)) → AllByRecursion P es → AllByRecursion Q (changed f es)
all_changed P Q f each [] all = tt
all_changed P Q f each (e ∷ es) all = (each e all.0, all_changed P Q f each es all.1)

-- what is kept of a list in order is in order
pub rising_kept : {A : Type 0} (keep : ℕ × A → Bool) (es : List (ℕ × A)) → IsRising es → IsRising (filter keep es)
rising_kept keep [] rising = tt
rising_kept keep (e ∷ es) rising =
    cond_both (keep e) (e ∷ filter keep es) (filter keep es) IsRising (λ _. (above_kept keep e.0 es rising.0, rising_kept keep es rising.1)) (λ _. rising_kept keep es rising.1)
