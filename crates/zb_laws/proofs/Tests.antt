-- What tests say where they are true.
use Rattle.std.proofs.Common.{◌≡◌, ℕ, ◌≤◌, ◌<◌, Bool, true, false, ◌&&◌, ◌||◌, eqb, List, [], ◌∷◌, ◌++◌, refl, sym, ◌∙◌, arith, inl, inr}
use Rattle.std.specs.Prelude.{nat_lt, ◌⊎◌}
use Rattle.std.specs.List.{list_any}
use Rattle.std.proofs.lemmas.List.Folds.{list_any-append}
use Rattle.std.proofs.lemmas.Bool.{cases_lt}
use Rattle.std.proofs.lemmas.Bool.Decides.{nat_tests}
use Rattle.zb_types.specs.Limits.{within}

pub both : (a b : Bool) → a ≡ true → b ≡ true → (a && b) ≡ true
both a b p q = rw (p, q) refl

pub first_true : (a b : Bool) → (a && b) ≡ true → a ≡ true
first_true true b h = refl
first_true false b h = absurd cc

pub last_true : (a b : Bool) → (a && b) ≡ true → b ≡ true
last_true true b h = h
last_true false b h = absurd cc

pub two_true : (a b : Bool) → (a && b) ≡ true → (a ≡ true) × (b ≡ true)
two_true a b h = (first_true a b h, last_true a b h)

pub or_left : (a b : Bool) → a ≡ true → (a || b) ≡ true
or_left a b h = rw h refl

pub or_right : (a b : Bool) → b ≡ true → (a || b) ≡ true
or_right true b h = refl
or_right false b h = h

pub or_cases : (a b : Bool) → (a || b) ≡ true → (a ≡ true) ⊎ (b ≡ true)
or_cases true b h = inl refl
or_cases false b h = inr h

pub first_false : (a b : Bool) → (a || b) ≡ false → a ≡ false
first_false true b h = absurd cc
first_false false b h = refl

pub last_false : (a b : Bool) → (a || b) ≡ false → b ≡ false
last_false true b h = absurd cc
last_false false b h = h

pub bool_cases : (b : Bool) → (b ≡ true) ⊎ (b ≡ false)
bool_cases true = inl refl
bool_cases false = inr refl

pub equal : (a b : ℕ) → eqb a b ≡ true → a ≡ b
equal a b h = grind (arith, nat_tests)

pub equals : (a : ℕ) → eqb a a ≡ true
equals a = grind (arith, nat_tests)

pub below : (n m : ℕ) → nat_lt n m ≡ true → n < m
below n m h = grind (arith, nat_tests)

pub high : (low most n : ℕ) → within low most n ≡ true → n ≤ most
high low most n h = grind (arith, nat_tests)

pub at_or_below : (k n : ℕ) → k ≤ n → (k ≡ n) ⊎ (k < n)
at_or_below k n le = elim (cases_lt k n) as (λ _. (k ≡ n) ⊎ (k < n)) [ inl e ↦ inr e | inr e ↦ inl (omega (arith, le, e)) ]

-- Some item of a list passes.

pub any_more : {X : Type 0} (p : X → Bool) (xs ys : List X) → list_any p xs ≡ true → list_any p (xs ++ ys) ≡ true
any_more p xs ys h = list_any-append p xs ys ∙ or_left (list_any p xs) (list_any p ys) h

pub any_later : {X : Type 0} (p : X → Bool) (xs ys : List X) → list_any p ys ≡ true → list_any p (xs ++ ys) ≡ true
any_later p xs ys h = list_any-append p xs ys ∙ or_right (list_any p xs) (list_any p ys) h

pub any_middle : {X : Type 0} (p : X → Bool) (xs : List X) (y : X) (ys : List X) → p y ≡ true → list_any p (xs ++ y ∷ ys) ≡ true
any_middle p xs y ys h = any_later p xs (y ∷ ys) (or_left (p y) (list_any p ys) h)

pub any_here : {X : Type 0} (p : X → Bool) (xs : List X) (y : X) → p y ≡ true → list_any p (xs ++ y ∷ []) ≡ true
any_here p xs y h = any_middle p xs y [] h

pub any_last : {X : Type 0} (p : X → Bool) (xs : List X) (y : X) → list_any p (xs ++ y ∷ []) ≡ true → (list_any p xs ≡ true) ⊎ (p y ≡ true)
any_last p xs y h =
    elim (or_cases (list_any p xs) (p y || false) (sym (list_any-append p xs (y ∷ [])) ∙ h)) as (λ _. (list_any p xs ≡ true) ⊎ (p y ≡ true)) [
      | inl e ↦ inl e
      | inr e ↦ elim (or_cases (p y) false e) as (λ _. (list_any p xs ≡ true) ⊎ (p y ≡ true)) [ inl f ↦ inr f | inr f ↦ absurd cc ]
    ]
