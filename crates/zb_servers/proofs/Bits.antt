-- The bits of a number whose first n bits are set.
use Rattle.std.proofs.Common.{◌≡◌, ℕ, suc, ◌+◌, ◌-◌, ◌*◌, ◌/◌, ◌%◌, ◌^◌, ◌<◌, ◌≤◌, true, false, eqb, leb, bit_and, sym, ap, ◌∙◌, subst, inl, inr, arith}
use Rattle.std.proofs.lemmas.Nat.{and_mask, pow-add, pow_pos, div-mul-add}
use Rattle.std.proofs.Math.Nat.{div-eq_of_lt, suc-mul, two-pow-succ, mul_comm}
use Rattle.std.proofs.Math.Pow.{pow_mono}
use Rattle.std.proofs.lemmas.Bool.{cases_lt, le-leb, lt-leb}

-- less one, a product is so many times the one, and a rest
less_one : (p q m : ℕ) → 0 < p → q ≡ suc m → q * p - 1 ≡ m * p + (p - 1)
less_one p q m pos is = let whole = ap (λ (n : ℕ). n * p) is ∙ suc-mul m p in omega (arith, whole, pos)

-- the last bit of a power of 2 less one is set
odd_below : (j : ℕ) → (2 ^ suc j - 1) % 2 ≡ 1
odd_below j = let twice = two-pow-succ j in omega (arith, twice, pow_pos j)

set_below : (k j : ℕ) → eqb (bit_and ((2 ^ (k + suc j) - 1) / 2 ^ k) 1) 1 ≡ true
set_below k j =
    let q = 2 ^ suc j in
    let whole : 2 ^ (k + suc j) - 1 ≡ (q - 1) * 2 ^ k + (2 ^ k - 1) = ap (λ (n : ℕ). n - 1) (pow-add 2 k (suc j) ∙ mul_comm (2 ^ k) q) ∙ less_one (2 ^ k) q (q - 1) (pow_pos k) (omega (arith, pow_pos (suc j))) in
    ap (λ (n : ℕ). eqb (bit_and (n / 2 ^ k) 1) 1) whole
    ∙ ap (λ (n : ℕ). eqb (bit_and n 1) 1) (div-mul-add (q - 1) (2 ^ k) (2 ^ k - 1) (omega (arith, pow_pos k)))
    ∙ ap (λ (n : ℕ). eqb n 1) (and_mask (q - 1) 1 ∙ odd_below j)

none_above : (k n : ℕ) → n ≤ k → eqb (bit_and ((2 ^ n - 1) / 2 ^ k) 1) 1 ≡ false
none_above k n le = ap (λ (m : ℕ). eqb (bit_and m 1) 1) (div-eq_of_lt (omega (arith, pow_mono le, pow_pos n)))

-- bit k is set exactly where it is one of the first n
pub first_set : (n k : ℕ) → eqb (bit_and ((2 ^ n - 1) / 2 ^ k) 1) 1 ≡ leb (suc k) n
first_set n k = elim (cases_lt k n) [
  | inl below ↦
      subst (λ (m : ℕ). eqb (bit_and ((2 ^ m - 1) / 2 ^ k) 1) 1 ≡ leb (suc k) m) (omega (arith, below)) (set_below k (n - suc k) ∙ sym (le-leb (suc k) (k + suc (n - suc k)) (omega arith)))
  | inr past ↦ none_above k n past ∙ sym (lt-leb (suc k) n (omega (arith, past)))
]
