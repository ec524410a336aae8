-- How often a slot is free, as a heap of slots counts it.
use Rattle.std.proofs.Common.{◌≡◌, ℕ, suc, ◌+◌, ◌<◌, ◌≤◌, List, [], ◌∷◌, length, refl, sym, ap, ◌∙◌, inl, inr, arith, eq-eqb}
use Rattle.std.specs.Prelude.{slice_index_or, map, if◌then◌else◌, false}
use Rattle.std.specs.List.{sum_by}
use Rattle.std.specs.List.Sorted.{IsPermutation}
use Rattle.std.specs.BinaryHeap.{IsUpperBound}
use Rattle.std.specs.Ordering.{nat_cmp, is_lt}
use Rattle.std.specs.declared.cmp.Reverse.{Reverse}
use Rattle.std.proofs.lemmas.Bool.{cases_eq, ne_eqb}
use Rattle.std.proofs.lemmas.Bool.Decides.{nat_tests}
use Rattle.std.proofs.lemmas.List.Sums.{sum_by-cons}
use Rattle.std.proofs.lemmas.List.Sorted.{sum_by_pushed, sum_by_popped, length_permutation}
use Rattle.zb_index.specs.Free.{once, times, IsLeast, IsTaken, IsGiven}

pub once_same : (j : ℕ) → once j j ≡ 1
once_same j = ap (λ b. if b then 1 else 0) (eq-eqb j j refl)

pub once_other : (slot j : ℕ) → (slot ≡ j → ⊥) → once slot j ≡ 0
once_other slot j ne = ap (λ b. if b then 1 else 0) (ne_eqb slot j ne)

-- a slot that is counted at another slot is that slot
pub once_is : (slot j : ℕ) → 0 < once slot j → slot ≡ j
once_is slot j lt = elim (cases_eq slot j) [
  | inl same ↦ same
  | inr other ↦ absurd (omega (arith, once_other slot j other, lt))
]

abbrev Slots : Type 0
Slots = List (Reverse ℕ)

abbrev pub numbers : Slots → List ℕ
numbers items = map (λ r. r.0) items

counted : (j : ℕ) (items : Slots) → times j (numbers items) ≡ sum_by (λ r. once r.0 j) items
counted j [] = refl
counted j (x ∷ xs) = ap (λ n. once x.0 j + n) (counted j xs) ∙ sym (sum_by-cons (λ r. once r.0 j) x xs)

length_numbers : (items : Slots) → length (numbers items) ≡ length items
length_numbers [] = refl
length_numbers (x ∷ xs) = ap suc (length_numbers xs)

below_upper : (x : Reverse ℕ) (xs : Slots) → IsUpperBound (λ a b. nat_cmp b.0 a.0) x xs → (j : ℕ) → 0 < times j (numbers xs) → x.0 ≤ j
below_upper x [] upper j lt = absurd (omega (arith, lt))
below_upper x (y ∷ ys) upper j lt = elim (cases_eq y.0 j) [
  | inl same ↦ least y.0 upper.0 same
  | inr other ↦ below_upper x ys upper.1 j (omega (arith, lt, once_other y.0 j other))
]
  where
    least : (n : ℕ) → is_lt (nat_cmp n x.0) ≡ false → n ≡ j → x.0 ≤ j
    least n under same = let le : x.0 ≤ n = grind (arith, nat_tests) in omega (arith, le, same)

-- the first of a heap's slots is one of them
pub has_first : (x : Reverse ℕ) (xs : Slots) → 0 < length xs → x ≡ slice_index_or xs 0 x → 0 < times x.0 (numbers xs)
has_first x [] some is = absurd (omega (arith, some))
has_first x (y ∷ ys) some is = let here = ap (λ (r : Reverse ℕ). once r.0 x.0) is in omega (arith, here, once_same x.0)

pub is_least : (x : Reverse ℕ) (xs : Slots) → 0 < times x.0 (numbers xs) → IsUpperBound (λ a b. nat_cmp b.0 a.0) x xs → IsLeast (numbers xs) x.0
is_least x xs lt upper = record { there = lt; least = below_upper x xs upper }

pub is_taken : (x : Reverse ℕ) (xs ys : Slots) → IsPermutation xs (x ∷ ys) → IsUpperBound (λ a b. nat_cmp b.0 a.0) x xs → IsTaken (numbers xs) x.0 (numbers ys)
is_taken x xs ys moved upper =
    let left : (j : ℕ) → times j (numbers ys) + once x.0 j ≡ times j (numbers xs) = λ j.
    let popped = sum_by_popped (λ r. once r.0 j) x xs ys moved in omega (arith, counted j ys, counted j xs, popped) in
    let long = length_permutation xs (x ∷ ys) moved in
    record {
      least = is_least x xs (omega (arith, left x.0, once_same x.0)) upper;
      left = left;
      count = omega (arith, long, length_numbers xs, length_numbers ys);
    }

pub is_given : (x : Reverse ℕ) (xs ys : Slots) → IsPermutation (x ∷ xs) ys → IsGiven (numbers xs) x.0 (numbers ys)
is_given x xs ys moved = record {
  more = λ j. let pushed = sum_by_pushed (λ r. once r.0 j) x xs ys moved in omega (arith, counted j ys, counted j xs, pushed);
  count = let long = length_permutation (x ∷ xs) ys moved in omega (arith, long, length_numbers xs, length_numbers ys);
}
