-- Facts of each element of a list.
use Rattle.std.proofs.Common.{◌≡◌, ℕ, zero, suc, Bool, true, false, List, [], ◌∷◌, ◌++◌, Option, Some, subst, arith}
use Rattle.std.specs.Prelude.{if◌then◌else◌, ◌==◌, All}
use Rattle.std.specs.List.{AllByRecursion}
use Rattle.std.proofs.lemmas.Option.{same_Some}
use Rattle.zb_types.specs.Keyed.{look}

pub each-append : {A : Type 0} (P : A → Type 0) (xs ys : List A) → AllByRecursion P xs → AllByRecursion P ys → AllByRecursion P (xs ++ ys)
each-append P [] ys all more = more
each-append P (x ∷ xs) ys all more = (all.0, each-append P xs ys all.1 more)

pub each-weaker : {A : Type 0} (P Q : A → Type 0) (xs : List A) → ((x : A) → P x → Q x) → AllByRecursion P xs → AllByRecursion Q xs
each-weaker P Q [] f all = tt
each-weaker P Q (x ∷ xs) f all = (f x all.0, each-weaker P Q xs f all.1)

-- by place and by recursion
pub each-of : {A : Type 0} (P : A → Type 0) (xs : List A) → All P xs → AllByRecursion P xs
each-of P [] all = tt
each-of P (x ∷ xs) all = (all 0 x (omega arith), each-of P xs (λ i d l. all (suc i) d (omega arith)))

pub all-of : {A : Type 0} (P : A → Type 0) (xs : List A) → AllByRecursion P xs → All P xs
all-of P [] each i d l = absurd (omega (arith, l))
all-of P (x ∷ xs) each zero d l = each.0
all-of P (x ∷ xs) each (suc i) d l = all-of P xs each.1 i d (omega (arith, l))

-- what is found under a number
look-each_at : {A : Type 0} (Q : A → Type 0) (t : Bool) (x a : A) (o : Option A) → (if t then Some x else o) ≡ Some a → Q x → (o ≡ Some a → Q a) → Q a
look-each_at Q true x a o e here there = subst Q (same_Some _ _ e) here
look-each_at Q false x a o e here there = there e

pub look-each : {A : Type 0} (Q : A → Type 0) (k : ℕ) (a : A) (es : List (ℕ × A)) → AllByRecursion (λ e. Q e.1) es → look k es ≡ Some a → Q a
look-each Q k a [] all e = absurd cc
look-each Q k a (x ∷ es) all e = look-each_at Q (x.0 == k) x.1 a (look k es) e all.0 (look-each Q k a es all.1)
