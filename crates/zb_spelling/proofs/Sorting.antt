-- Numbers in order that are those of others in order.
use Rattle.std.proofs.Common.{◌≡◌, ℕ, suc, ◌+◌, ◌≤◌, ◌<◌, Bool, false, eqb, List, [], ◌∷◌, length, get_or, refl, sym, ap, ◌∙◌, subst, inl, inr, arith}
use Rattle.std.specs.Prelude.{◌↔◌, IsTrue, if◌then◌else◌}
use Rattle.std.specs.List.{AllByRecursion}
use Rattle.std.specs.List.Sorted.{IsPermutation, IsSorted, IsStrictlySortedBy}
use Rattle.std.specs.Ordering.{nat_cmp, is_lt}
use Rattle.std.specs.declared.cmp.Ordering.TheVariants.{Less}
use Rattle.std.proofs.lemmas.Bool.{cases_Bool, cases_order, eqb-true}
use Rattle.std.proofs.lemmas.Bool.Decides.{nat_tests}
use Rattle.zb_tables.proofs.Counted.{one, one_self, times, times_same}

-- this number is at most each of them
abbrev AllFrom : ℕ → List ℕ → Type 0
AllFrom x ys = AllByRecursion (λ y. x ≤ y) ys

-- each is at most the later ones
abbrev Falls : List ℕ → Type 0
Falls [] = Unit {0}
Falls (x ∷ xs) = AllFrom x xs × Falls xs

-- a lesser number isn't there
absent : (n x : ℕ) (xs : List ℕ) → n < x → AllFrom x xs → times n xs ≡ 0
absent n x [] lt all = refl
absent n x (y ∷ ys) lt all = elim (cases_Bool (eqb y n)) as (λ _. times n (y ∷ ys) ≡ 0) [
  | inl t ↦ absurd (let same = eqb-true y n t in let le = all.0 in omega (arith, same, le))
  | inr f ↦ let none : one n y ≡ 0 = ap (λ (b : Bool). if b then 1 else 0) f in let rest = absent n x ys lt all.1 in omega arith
]

first_least : (x y : ℕ) (xs ys : List ℕ) → AllFrom y ys → ((n : ℕ) → times n (x ∷ xs) ≡ times n (y ∷ ys)) → y ≤ x
first_least x y xs ys all same = elim (cases_order x y) as (λ _. y ≤ x) [
  | inl here ↦ omega (arith, here)
  | inr (inl low) ↦ absurd (
      let none : one x y ≡ 0 = elim (cases_Bool (eqb y x)) as (λ _. one x y ≡ 0) [
        | inl t ↦ absurd (let e = eqb-true y x t in omega (arith, e, low))
        | inr f ↦ ap (λ (b : Bool). if b then 1 else 0) f
      ] in
      let rest = absent x y ys low all in
      let there = one_self x in
      let both = same x in
      omega arith)
  | inr (inr high) ↦ omega (arith, high)
]

same_falling : (xs ys : List ℕ) → Falls xs → Falls ys → ((n : ℕ) → times n xs ≡ times n ys) → xs ≡ ys
same_falling [] [] f g same = refl
same_falling [] (y ∷ ys) f g same = absurd (let all = same y in let there = one_self y in omega arith)
same_falling (x ∷ xs) [] f g same = absurd (let all = same x in let there = one_self x in omega arith)
same_falling (x ∷ xs) (y ∷ ys) f g same =
    let low = first_least x y xs ys g.0 same in
    let high = first_least y x ys xs f.0 (λ n. sym (same n)) in
    let head : x ≡ y = omega arith in
    let rest = same_falling xs ys f.1 g.1 (λ n.
    let all = same n in
    let firsts : one n x ≡ one n y = ap (one n) head in
    omega arith) in
    λ i. head i ∷ rest i

less_from : (x : ℕ) (ys : List ℕ) → AllByRecursion (λ y. nat_cmp x y ≡ Less) ys → AllFrom x ys
less_from x [] all = tt
less_from x (y ∷ ys) all = (let less = all.0 in grind (arith, nat_tests), less_from x ys all.1)

falls_from_strict : (xs : List ℕ) → IsStrictlySortedBy nat_cmp xs → Falls xs
unfolding IsStrictlySortedBy
falls_from_strict [] sorted = tt
falls_from_strict (x ∷ xs) sorted = (less_from x xs sorted.0, falls_from_strict xs sorted.1)

-- each number is at most the next
abbrev Steps : List ℕ → Type 0
Steps xs = (k : ℕ) (d : ℕ) → 0 ≤ k → k + 1 < length xs → is_lt (nat_cmp (get_or xs (k + 1) d) (get_or xs k d)) ≡ false

steps_behind : (x : ℕ) (xs : List ℕ) → Steps (x ∷ xs) → Steps xs
steps_behind x xs steps k d from lt =
    let next : suc k + 1 ≡ suc (k + 1) = omega arith in
    subst (λ (n : ℕ). is_lt (nat_cmp (get_or (x ∷ xs) n d) (get_or xs k d)) ≡ false) next (steps (suc k) d (omega arith) (omega (arith, lt)))

all_from_step : (x y : ℕ) (ys : List ℕ) → x ≤ y → AllFrom y ys → AllFrom x ys
all_from_step x y [] le all = tt
all_from_step x y (z ∷ zs) le all = (let a = all.0 in omega (arith, a), all_from_step x y zs le all.1)

falls_from_steps : (xs : List ℕ) → Steps xs → Falls xs
falls_from_steps [] steps = tt
falls_from_steps (x ∷ []) steps = (tt, tt)
falls_from_steps (x ∷ (y ∷ ys)) steps =
    let rest = falls_from_steps (y ∷ ys) (steps_behind x (y ∷ ys) steps) in
    let first = steps 0 0 (omega arith) (omega arith) in
    let le : x ≤ y = grind (arith, nat_tests) in
    ((le, all_from_step x y ys le rest.0), rest)

-- numbers that were sorted are those that rise exactly where they have the same elements
pub sorted_are : (numbers sorted keys : List ℕ) → IsPermutation numbers sorted → IsSorted nat_cmp sorted → IsStrictlySortedBy nat_cmp keys → IsPermutation numbers keys → sorted ≡ keys
sorted_are numbers sorted keys moved order rising same =
    same_falling sorted keys (falls_from_steps sorted order) (falls_from_strict keys rising) (λ n. sym (times_same n numbers sorted moved) ∙ times_same n numbers keys same)

pub same_from_sorted : (numbers sorted keys : List ℕ) → IsPermutation numbers sorted → sorted ≡ keys → IsPermutation numbers keys
same_from_sorted numbers sorted keys moved same = subst (IsPermutation numbers) same moved

-- a test whether sorted numbers are those keys
pub named_by : (numbers named after sorted keys kept : List ℕ) → named ≡ numbers → IsPermutation named after → sorted ≡ after → IsSorted nat_cmp after → kept ≡ keys → IsStrictlySortedBy nat_cmp keys
    → (b : Bool) → (IsTrue b ↔ (sorted ≡ kept)) → (IsTrue b ↔ IsPermutation numbers keys)
named_by numbers named after sorted keys kept is moved same order are rising b test =
    let from : IsPermutation numbers after = subst (λ (ns : List ℕ). IsPermutation ns after) is moved in
    (λ told. same_from_sorted numbers after keys from (sym same ∙ test.0 told ∙ are), λ all. test.1 (same ∙ sorted_are numbers after keys from order rising all ∙ sym are))
