-- How often a number stands in a list, and that two lists with the same numbers have the same elements.
use Rattle.std.proofs.Common.{◌≡◌, ℕ, ◌+◌, ◌<◌, Bool, eqb, List, [], ◌∷◌, ◌++◌, refl, sym, ap, ◌∙◌, subst, inl, inr, arith}
use Rattle.std.specs.Prelude.{◌==◌, if◌then◌else◌, sum_by}
use Rattle.std.specs.List.Sorted.{IsPermutation}
use Rattle.std.proofs.lemmas.Bool.{cases_Bool, eq-eqb, eqb-true}
use Rattle.std.proofs.lemmas.List.Sorted.{IsPermutation-refl, IsPermutation-sym, IsPermutation-cons, IsPermutation-trans, IsPermutation-middle, sum_by-IsPermutation}
use Rattle.std.proofs.lemmas.List.Sums.{sum_by-cons}

abbrev pub one : ℕ → ℕ → ℕ
one n x = if x == n then 1 else 0

-- how often the number stands in the list
abbrev pub times : ℕ → List ℕ → ℕ
times n [] = 0
times n (x ∷ xs) = one n x + times n xs

pub times-append : (n : ℕ) (xs ys : List ℕ) → times n (xs ++ ys) ≡ times n xs + times n ys
times-append n [] ys = omega arith
times-append n (x ∷ xs) ys = let rest = times-append n xs ys in omega arith

pub one_self : (n : ℕ) → one n n ≡ 1
one_self n = ap (λ (b : Bool). if b then 1 else 0) (eq-eqb n n refl)

times_sum : (n : ℕ) (xs : List ℕ) → times n xs ≡ sum_by (one n) xs
times_sum n [] = refl
times_sum n (x ∷ xs) = ap (λ (k : ℕ). one n x + k) (times_sum n xs) ∙ sym (sum_by-cons (one n) x xs)

-- lists with the same elements have each number as often
pub times_same : (n : ℕ) (xs ys : List ℕ) → IsPermutation xs ys → times n xs ≡ times n ys
times_same n xs ys p = times_sum n xs ∙ sym (sum_by-IsPermutation (one n) xs ys p) ∙ sym (times_sum n ys)

-- a number that stands in a list, with what stands before and behind it
record StandsIn (x : ℕ) (ys : List ℕ) : Type 0 where
  before : List ℕ
  after : List ℕ
  is : ys ≡ before ++ x ∷ after

stands : (x : ℕ) (ys : List ℕ) → 0 < times x ys → StandsIn x ys
stands x [] some = absurd (omega arith)
stands x (y ∷ ys) some = elim (cases_Bool (eqb y x)) as (λ _. StandsIn x (y ∷ ys)) [
  | inl t ↦ record { before = []; after = ys; is = ap (λ (k : ℕ). k ∷ ys) (eqb-true y x t) }
  | inr f ↦
      let not_here : one x y ≡ 0 = ap (λ (b : Bool). if b then 1 else 0) f in
      let rest = stands x ys (omega arith) in
      record { before = y ∷ rest.before; after = rest.after; is = ap (λ (ks : List ℕ). y ∷ ks) rest.is }
]

none_left : (ys : List ℕ) → ((n : ℕ) → 0 ≡ times n ys) → IsPermutation [] ys
none_left [] same = IsPermutation-refl []
none_left (y ∷ ys) same = absurd (let none = same y in let self = one_self y in omega arith)

-- lists that have each number as often have the same elements
pub same_elements : (xs ys : List ℕ) → ((n : ℕ) → times n xs ≡ times n ys) → IsPermutation xs ys
same_elements [] ys same = none_left ys same
same_elements (x ∷ xs) ys same =
    let s = stands x ys (let all = same x in let self = one_self x in omega arith) in
    let rest = same_elements xs (s.before ++ s.after) (λ n.
    let all : one n x + times n xs ≡ times n (s.before ++ x ∷ s.after) = same n ∙ ap (times n) s.is in
    let split = times-append n s.before (x ∷ s.after) in
    let both = times-append n s.before s.after in
    omega arith) in
    subst (IsPermutation (x ∷ xs)) (sym s.is)
    (IsPermutation-trans (x ∷ xs) (x ∷ (s.before ++ s.after)) (s.before ++ x ∷ s.after) (IsPermutation-cons x xs (s.before ++ s.after) rest)
    (IsPermutation-sym (s.before ++ x ∷ s.after) (x ∷ (s.before ++ s.after)) (IsPermutation-middle s.before x s.after)))
