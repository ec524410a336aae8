-- Exclusive or, a block or a byte at a time.
use Rattle.std.proofs.Common.{◌≡◌, ℕ, zero, suc, ◌+◌, ◌≤◌, ◌<◌, List, [], ◌∷◌, length, take, get_or, set, refl, ap, subst, arith}
use Rattle.std.specs.Prelude.{bit_xor}
use lib.Lanes.{zip2, chunk, put_chunk}
use Rattle.zb_holding.specs.Exclusive.{xored}

module _ (f : ℕ → ℕ → ℕ) (is : (a b : ℕ) → f a b ≡ bit_xor a b) where
  front : (n : ℕ) (xs ys : List ℕ) → n ≤ length ys → length ys ≤ length xs → put_chunk 0 xs (zip2 f (take n xs) (take n ys)) ≡ xored xs (take n ys)
  front zero [] ys h g = refl
  front zero (x ∷ xs) ys h g = refl
  front (suc n) [] [] h g = absurd (omega arith)
  front (suc n) [] (y ∷ ys) h g = absurd (omega arith)
  front (suc n) (x ∷ xs) [] h g = absurd (omega arith)
  front (suc n) (x ∷ xs) (y ∷ ys) h g = λ i. is x y i ∷ front n xs ys (omega arith) (omega arith) i

  -- one block more
  pub put_chunk-xored : (at n m : ℕ) (xs ys : List ℕ) → m ≡ at + n → m ≤ length ys → length ys ≤ length xs
      → put_chunk at (xored xs (take at ys)) (zip2 f (chunk at n (xored xs (take at ys))) (chunk at n ys)) ≡ xored xs (take m ys)
  put_chunk-xored zero n m [] ys e h g = let s : n ≡ m = omega arith in subst (λ k. put_chunk 0 [] (zip2 f (take n []) (take n ys)) ≡ xored [] (take k ys)) s (front n [] ys (omega arith) g)
  put_chunk-xored zero n m (x ∷ xs) ys e h g = let s : n ≡ m = omega arith in subst (λ k. put_chunk 0 (x ∷ xs) (zip2 f (take n (x ∷ xs)) (take n ys)) ≡ xored (x ∷ xs) (take k ys)) s (front n (x ∷ xs) ys (omega arith) g)
  put_chunk-xored (suc at) n zero xs ys e h g = absurd (omega arith)
  put_chunk-xored (suc at) n (suc m) [] [] e h g = absurd (omega arith)
  put_chunk-xored (suc at) n (suc m) [] (y ∷ ys) e h g = absurd (omega arith)
  put_chunk-xored (suc at) n (suc m) (x ∷ xs) [] e h g = absurd (omega arith)
  put_chunk-xored (suc at) n (suc m) (x ∷ xs) (y ∷ ys) e h g = ap (λ l. bit_xor x y ∷ l) (put_chunk-xored at n m xs ys (omega arith) (omega arith) (omega arith))

-- one byte more
pub set-xored : (at m : ℕ) (xs ys : List ℕ) → m ≡ at + 1 → at < length ys → length ys ≤ length xs
    → set (xored xs (take at ys)) at (bit_xor (get_or (xored xs (take at ys)) at 0) (get_or ys at 0)) ≡ xored xs (take m ys)
set-xored at zero xs ys e h g = absurd (omega arith)
set-xored at (suc m) [] [] e h g = absurd (omega arith)
set-xored at (suc m) [] (y ∷ ys) e h g = absurd (omega arith)
set-xored at (suc m) (x ∷ xs) [] e h g = absurd (omega arith)
set-xored zero (suc zero) (x ∷ []) (y ∷ ys) e h g = refl
set-xored zero (suc zero) (x ∷ z ∷ xs) (y ∷ ys) e h g = refl
set-xored zero (suc (suc m)) (x ∷ xs) (y ∷ ys) e h g = absurd (omega arith)
set-xored (suc at) (suc m) (x ∷ xs) (y ∷ ys) e h g = ap (λ l. bit_xor x y ∷ l) (set-xored at m xs ys (omega arith) (omega arith) (omega arith))
