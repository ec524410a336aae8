-- A list whose elements are changed one behind the other.
use Rattle.std.proofs.Common.{◌≡◌, ℕ, zero, suc, ◌+◌, ◌<◌, List, [], ◌∷◌, length, get_or, set, map, refl, ap, ◌∙◌, arith}

-- the first i elements are changed
abbrev pub first_mapped : {A : Type 0} → (A → A) → ℕ → List A → List A
first_mapped f zero xs = xs
first_mapped f (suc i) [] = []
first_mapped f (suc i) (x ∷ xs) = f x ∷ first_mapped f i xs

module _ {A : Type 0} (f : A → A) where
  pub first_length : (i : ℕ) (xs : List A) → length (first_mapped f i xs) ≡ length xs
  first_length zero xs = refl
  first_length (suc i) [] = refl
  first_length (suc i) (x ∷ xs) = ap suc (first_length i xs)

  -- the element behind them is as it was
  pub next_same : (i : ℕ) (xs : List A) (d : A) → get_or (first_mapped f i xs) i d ≡ get_or xs i d
  next_same zero xs d = refl
  next_same (suc i) [] d = refl
  next_same (suc i) (x ∷ xs) d = next_same i xs d

  -- one more is changed
  next_mapped : (i : ℕ) (xs : List A) (x d : A) → i < length xs → x ≡ f (get_or (first_mapped f i xs) i d) → set (first_mapped f i xs) i x ≡ first_mapped f (suc i) xs
  next_mapped zero [] x d l e = absurd (omega arith)
  next_mapped zero (y ∷ ys) x d l e = ap (λ z. z ∷ ys) e
  next_mapped (suc i) [] x d l e = absurd (omega arith)
  next_mapped (suc i) (y ∷ ys) x d l e = ap (λ zs. f y ∷ zs) (next_mapped i ys x d (omega arith) e)

  pub mapped_next : (i : ℕ) (xs : List A) (x d : A) → i < length xs → x ≡ f (get_or (first_mapped f i xs) i d) → set (first_mapped f i xs) i x ≡ first_mapped f (i + 1) xs
  mapped_next i xs x d l e =
      let more : suc i ≡ i + 1 = omega arith in
      next_mapped i xs x d l e ∙ ap (λ (k : ℕ). first_mapped f k xs) more

  -- all are changed
  pub mapped_all : (i : ℕ) (xs : List A) → i ≡ length xs → first_mapped f i xs ≡ map f xs
  mapped_all zero [] e = refl
  mapped_all zero (x ∷ xs) e = absurd (omega arith)
  mapped_all (suc i) [] e = absurd (omega arith)
  mapped_all (suc i) (x ∷ xs) e = ap (λ zs. f x ∷ zs) (mapped_all i xs (omega arith))
