-- Numbers below a bound, of which no two are one, are few.
use Rattle.std.proofs.Common.{◌≡◌, ◌≢◌, ℕ, zero, suc, ◌+◌, ◌<◌, ◌≤◌, true, false, eqb, List, [], ◌∷◌, length, refl, ap, sym, ◌∙◌, subst, arith}
use Rattle.std.specs.Prelude.{filter, not}
use Rattle.std.specs.List.{AllByRecursion}
use Rattle.std.proofs.lemmas.Bool.{cond_both, eqb-true, ne_eqb, eq-eqb, not-false, true≢false}

-- no two of them are one
abbrev pub AreDistinct : List ℕ → Type 0
AreDistinct [] = Unit {0}
AreDistinct (x ∷ xs) = AllByRecursion (λ y. x ≢ y) xs × AreDistinct xs

-- those that aren't n
abbrev without : ℕ → List ℕ → List ℕ
without n xs = filter (λ x. not (eqb x n)) xs

all_without : (P : ℕ → Type 0) (n : ℕ) (xs : List ℕ) → AllByRecursion P xs → AllByRecursion P (without n xs)
all_without P n [] all = tt
all_without P n (x ∷ xs) all =
    cond_both (not (eqb x n)) (x ∷ without n xs) (without n xs) (AllByRecursion P) (λ _. (all.0, all_without P n xs all.1)) (λ _. all_without P n xs all.1)

distinct_without : (n : ℕ) (xs : List ℕ) → AreDistinct xs → AreDistinct (without n xs)
distinct_without n [] d = tt
distinct_without n (x ∷ xs) d =
    cond_both (not (eqb x n)) (x ∷ without n xs) (without n xs) AreDistinct (λ _. (all_without (λ y. x ≢ y) n xs d.0, distinct_without n xs d.1)) (λ _. distinct_without n xs d.1)

-- none is left out where none is n
none_out : (n : ℕ) (xs : List ℕ) → AllByRecursion (λ y. n ≢ y) xs → length (without n xs) ≡ length xs
none_out n [] all = refl
none_out n (x ∷ xs) all =
    let rest = none_out n xs all.1 in
    cond_both (not (eqb x n)) (x ∷ without n xs) (without n xs) (λ (ys : List ℕ). length ys ≡ suc (length xs))
    (λ _. omega (arith, rest)) (λ no. absurd (true≢false (sym (ap not (ne_eqb x n (λ e. all.0 (sym e)))) ∙ no)))

-- what isn't kept is n
left_out : (x n : ℕ) → not (eqb x n) ≡ false → x ≡ n
left_out x n e = eqb-true x n (not-false (eqb x n) e)

-- at most one is n
one_out : (n : ℕ) (xs : List ℕ) → AreDistinct xs → length xs ≤ length (without n xs) + 1
one_out n [] d = omega arith
one_out n (x ∷ xs) d =
    let rest = one_out n xs d.1 in
    cond_both (not (eqb x n)) (x ∷ without n xs) (without n xs) (λ (ys : List ℕ). suc (length xs) ≤ length ys + 1) (λ _. omega (arith, rest))
    (λ is. let all = none_out n xs (subst (λ (m : ℕ). AllByRecursion (λ y. m ≢ y) xs) (left_out x n is) d.0) in omega (arith, all))

-- what is left is lower
below_without : (n : ℕ) (xs : List ℕ) → AllByRecursion (λ x. x < suc n) xs → AllByRecursion (λ x. x < n) (without n xs)
below_without n [] all = tt
below_without n (x ∷ xs) all =
    cond_both (not (eqb x n)) (x ∷ without n xs) (without n xs) (AllByRecursion (λ x. x < n))
    (λ keeps. (lower keeps, below_without n xs all.1)) (λ _. below_without n xs all.1) where
      differs : not (eqb x n) ≡ true → x ≢ n
      differs keeps e = true≢false (sym keeps ∙ ap not (eq-eqb x n e))

      lower : not (eqb x n) ≡ true → x < n
      lower keeps = let ne = differs keeps in let high = all.0 in omega (arith, ne, high)

-- so there are at most as many as the bound
pub few_below : (n : ℕ) (xs : List ℕ) → AreDistinct xs → AllByRecursion (λ x. x < n) xs → length xs ≤ n
few_below zero [] d all = omega arith
few_below zero (x ∷ xs) d all = let low = all.0 in omega (arith, low)
few_below (suc n) xs d all =
    let one = one_out n xs d in
    let rest = few_below n (without n xs) (distinct_without n xs d) (below_without n xs all) in
    omega (arith, one, rest)
