-- What all clients come to once one of them is another.
use Rattle.std.proofs.Common.{◌≡◌, ℕ, zero, suc, ◌+◌, ◌*◌, ◌≤◌, List, [], ◌∷◌, length, Some, ap, arith}
use Rattle.std.specs.Prelude.{slice_get, slice_set}
use Rattle.std.specs.List.{sum_by}
use Rattle.std.proofs.lemmas.List.Sums.{sum_by-cons}
use Rattle.std.proofs.lemmas.Option.{none-some, same_Some}

module _ {A : Type 0} (f g : A → ℕ) (more : ℕ) (most : (x : A) → g x ≤ f x + more) where
  -- each counts so much more at most
  all_more : (xs : List A) → sum_by g xs ≤ sum_by f xs + length xs * more
  all_more [] = omega arith
  all_more (x ∷ xs) =
      let long : length (x ∷ xs) * more ≡ more + length xs * more = grind arith in
      omega (arith, long, most x, all_more xs, sum_by-cons f x xs, sum_by-cons g x xs)

  -- and one is another
  pub set_more : (xs : List A) (i : ℕ) (x after : A) → slice_get xs i ≡ Some x → sum_by g (slice_set xs i after) + f x ≤ sum_by f xs + length xs * more + g after
  set_more [] i x after is = absurd (none-some x is)
  set_more (y ∷ xs) zero x after is =
      let same : f y ≡ f x = ap f (same_Some y x is) in
      let long : length (y ∷ xs) * more ≡ more + length xs * more = grind arith in
      omega (arith, long, same, all_more xs, sum_by-cons f y xs, sum_by-cons g after xs)
  set_more (y ∷ xs) (suc i) x after is =
      let long : length (y ∷ xs) * more ≡ more + length xs * more = grind arith in
      omega (arith, long, most y, set_more xs i x after is, sum_by-cons f y xs, sum_by-cons g y (slice_set xs i after))

-- one is another, and the others are as they were
pub set_swap : {A : Type 0} (f : A → ℕ) (xs : List A) (i : ℕ) (x after : A) → slice_get xs i ≡ Some x → sum_by f (slice_set xs i after) + f x ≡ sum_by f xs + f after
set_swap f [] i x after is = absurd (none-some x is)
set_swap f (y ∷ xs) zero x after is =
    let first : f y ≡ f x = ap f (same_Some y x is) in
    omega (arith, first, sum_by-cons f y xs, sum_by-cons f after xs)
set_swap f (y ∷ xs) (suc i) x after is =
    omega (arith, set_swap f xs i x after is, sum_by-cons f y xs, sum_by-cons f y (slice_set xs i after))
