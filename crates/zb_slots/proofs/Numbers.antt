-- Numbers of four bytes each, one behind the other.
use Rattle.std.proofs.Common.{◌≡◌, ◌≢◌, ◌⊎◌, inl, inr, ℕ, zero, suc, ◌+◌, ◌*◌, ◌/◌, ◌%◌, ◌^◌, ◌<◌, ◌≤◌, List, [], ◌∷◌, length, slice_index, slice_set, refl, ◌∙◌, ap, arith, get_or-set_other, get_or-set_same, length-set, sym}
use Rattle.byteorder.specs.Endian.{big_from}
use Rattle.zb_cell.specs.Cell.{window}
use Rattle.zb_slots.specs.Slots.{four_at, numbers_at}

-- the four bytes of a number
pub four_is : (f : ℕ → ℕ) (at : ℕ) → four_at f at ≡ ((f at * 256 + f (at + 1)) * 256 + f (at + 2)) * 256 + f (at + 3)
unfolding window
four_is f at =
    let two : f (at + 1 + 1) ≡ f (at + 2) = ap f (omega arith) in
    let three : f (at + 1 + 1 + 1) ≡ f (at + 3) = ap f (omega arith) in
    omega (arith, two, three)

pub four_ext : (f g : ℕ → ℕ) (a b : ℕ) → f a ≡ g b → f (a + 1) ≡ g (b + 1) → f (a + 2) ≡ g (b + 2) → f (a + 3) ≡ g (b + 3) → four_at f a ≡ four_at g b
four_ext f g a b e0 e1 e2 e3 = four_is f a ∙ (λ i. ((e0 i * 256 + e1 i) * 256 + e2 i) * 256 + e3 i) ∙ sym (four_is g b)

-- they are the number from their place on
pub four_from : (xs : List ℕ) (at : ℕ) → four_at (slice_index xs) at ≡ big_from at 4 xs
four_from xs at =
    let one : slice_index xs (suc at) ≡ slice_index xs (at + 1) = ap (slice_index xs) (omega arith) in
    let two : slice_index xs (suc (suc at)) ≡ slice_index xs (at + 2) = ap (slice_index xs) (omega arith) in
    let three : slice_index xs (suc (suc (suc at))) ≡ slice_index xs (at + 3) = ap (slice_index xs) (omega arith) in
    let is = four_is (slice_index xs) at in
    omega (arith, is, one, two, three)

pub numbers_are : (f : ℕ → ℕ) (xs : List ℕ) (at : ℕ) → ((k : ℕ) → k < length xs → four_at f (at + 4 * k) ≡ slice_index xs k) → numbers_at f at (length xs) ≡ xs
numbers_are f [] at same = refl
numbers_are f (x ∷ xs) at same =
    let first : four_at f at ≡ x = ap (four_at f) (omega arith) ∙ same 0 (omega arith) in
    let rest : numbers_at f (at + 4) (length xs) ≡ xs = numbers_are f xs (at + 4) (λ k lt. ap (four_at f) (omega arith) ∙ same (suc k) (omega arith)) in
    λ i. first i ∷ rest i

put_other : (xs : List ℕ) (i k v x : ℕ) → k ≢ i → slice_index xs k ≡ x → slice_index (slice_set xs i v) k ≡ x
put_other xs i k v x ne is = rw get_or-set_other is

put_same : (xs : List ℕ) (i v : ℕ) → i < length xs → slice_index (slice_set xs i v) i ≡ v
put_same xs i v lt = rw get_or-set_same

-- four bytes that are put one behind the other
module _ (xs : List ℕ) (at a b c d : ℕ) where
  abbrev one : List ℕ
  one = slice_set xs at a

  abbrev two : List ℕ
  two = slice_set one (at + 1) b

  abbrev three : List ℕ
  three = slice_set two (at + 2) c

  abbrev pub four_set : List ℕ
  four_set = slice_set three (at + 3) d

  pub length-four_set : length four_set ≡ length xs
  length-four_set = length-set three (at + 3) d ∙ length-set two (at + 2) c ∙ length-set one (at + 1) b ∙ length-set xs at a

  pub four_elsewhere : (i : ℕ) → (i < at) ⊎ (at + 4 ≤ i) → slice_index four_set i ≡ slice_index xs i
  four_elsewhere i (inl lt) = put_other three (at + 3) i d _ (omega arith) (put_other two (at + 2) i c _ (omega arith) (put_other one (at + 1) i b _ (omega arith) (put_other xs at i a _ (omega arith) refl)))
  four_elsewhere i (inr ge) = put_other three (at + 3) i d _ (omega arith) (put_other two (at + 2) i c _ (omega arith) (put_other one (at + 1) i b _ (omega arith) (put_other xs at i a _ (omega arith) refl)))

  pub four_there : at + 4 ≤ length xs → four_at (slice_index four_set) at ≡ ((a * 256 + b) * 256 + c) * 256 + d
  four_there le =
      let l1 : length one ≡ length xs = length-set xs at a in
      let l2 : length two ≡ length one = length-set one (at + 1) b in
      let l3 : length three ≡ length two = length-set two (at + 2) c in
      let e0 : slice_index four_set at ≡ a = put_other three (at + 3) at d _ (omega arith) (put_other two (at + 2) at c _ (omega arith) (put_other one (at + 1) at b _ (omega arith) (put_same xs at a (omega arith)))) in
      let e1 : slice_index four_set (at + 1) ≡ b = put_other three (at + 3) (at + 1) d _ (omega arith) (put_other two (at + 2) (at + 1) c _ (omega arith) (put_same one (at + 1) b (omega (arith, l1)))) in
      let e2 : slice_index four_set (at + 2) ≡ c = put_other three (at + 3) (at + 2) d _ (omega arith) (put_same two (at + 2) c (omega (arith, l1, l2))) in
      let e3 : slice_index four_set (at + 3) ≡ d = put_same three (at + 3) d (omega (arith, l1, l2, l3)) in
      four_is (slice_index four_set) at ∙ (λ i. ((e0 i * 256 + e1 i) * 256 + e2 i) * 256 + e3 i)

  pub four_kept : (j : ℕ) → j + 4 ≤ at → four_at (slice_index four_set) j ≡ four_at (slice_index xs) j
  four_kept j le =
      let e : (i : ℕ) → i < at → slice_index four_set i ≡ slice_index xs i = λ i lt. four_elsewhere i (inl lt) in
      four_ext (slice_index four_set) (slice_index xs) j j (e j (omega arith)) (e (j + 1) (omega arith)) (e (j + 2) (omega arith)) (e (j + 3) (omega arith))

pub digits : (x : ℕ) → x < 2 ^ 32 → ((x / 16777216 % 256 * 256 + x / 65536 % 256) * 256 + x / 256 % 256) * 256 + x % 256 ≡ x
digits x lt = omega arith

pub numbers_ext : (f g : ℕ → ℕ) (at m : ℕ) → ((i : ℕ) → at ≤ i → i < at + 4 * m → f i ≡ g i) → numbers_at f at m ≡ numbers_at g at m
numbers_ext f g at zero same = refl
numbers_ext f g at (suc m) same =
    let four : four_at f at ≡ four_at g at = four_ext f g at at (same at (omega arith) (omega arith)) (same (at + 1) (omega arith) (omega arith)) (same (at + 2) (omega arith) (omega arith)) (same (at + 3) (omega arith) (omega arith)) in
    let rest : numbers_at f (at + 4) m ≡ numbers_at g (at + 4) m = numbers_ext f g (at + 4) m (λ i le lt. same i (omega arith) (omega arith)) in
    λ i. four i ∷ rest i
