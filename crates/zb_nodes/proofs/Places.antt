-- Elements of a list by their places.
use Rattle.std.proofs.Common.{◌≡◌, ℕ, zero, suc, ◌-◌, ◌<◌, ◌≤◌, List, [], ◌∷◌, ◌++◌, length, Some, refl, sym, ap, ◌∙◌, inl, inr, arith}
use Rattle.std.specs.Prelude.{◌⊎◌, slice_get, slice_index_or, slice_set}
use Rattle.std.proofs.lemmas.Option.{none-some, same_Some}

module _ {A : Type 0} where
  -- what is read at a place of a list stands there
  pub reads_at : (xs : List A) (i : ℕ) (d : A) → i < length xs → slice_get xs i ≡ Some (slice_index_or xs i d)
  reads_at [] i d below = absurd (omega (arith, below))
  reads_at (x ∷ xs) zero d below = refl
  reads_at (x ∷ xs) (suc i) d below = reads_at xs i d (omega (arith, below))

  -- a list with the same at a place is as before
  pub same_at : (xs : List A) (i : ℕ) (x : A) → slice_get xs i ≡ Some x → slice_set xs i x ≡ xs
  same_at [] i x at = refl
  same_at (y ∷ ys) zero x at = ap (λ z. z ∷ ys) (same_Some x y (sym at))
  same_at (y ∷ ys) (suc i) x at = ap (λ zs. y ∷ zs) (same_at ys i x at)

  -- the last that was put
  pub at_end : (xs : List A) (x : A) (i : ℕ) (y : A) → slice_get (xs ++ x ∷ []) i ≡ Some y
      → (slice_get xs i ≡ Some y) ⊎ ((i ≡ length xs) × (y ≡ x))
  at_end [] x zero y at = inr (refl, same_Some y x (sym at))
  at_end [] x (suc i) y at = absurd (none-some y at)
  at_end (z ∷ zs) x zero y at = inl at
  at_end (z ∷ zs) x (suc i) y at = further (at_end zs x i y at)
    where
      further : (slice_get zs i ≡ Some y) ⊎ ((i ≡ length zs) × (y ≡ x)) → (slice_get (z ∷ zs) (suc i) ≡ Some y) ⊎ ((suc i ≡ length (z ∷ zs)) × (y ≡ x))
      further (inl there) = inl there
      further (inr last) = inr (ap suc last.0, last.1)

  -- so it is where the place is that of a number, counted from 1
  pub numbered_at : (xs all : List A) (number client : ℕ) (x : A) → xs ≡ all → number ≡ client → 1 ≤ client → client ≤ length all → x ≡ slice_index_or xs (number - 1) x → slice_get xs (number - 1) ≡ Some x
  numbered_at xs all number client x same is first last read =
      let count : length xs ≡ length all = ap length same in
      reads_at xs (number - 1) x (omega (arith, is, first, last, count)) ∙ ap Some (sym read)
