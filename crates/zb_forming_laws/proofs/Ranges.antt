-- Which blocks the bytes of a range lie in.
use Rattle.std.proofs.Common.{◌≡◌, ℕ, ◌+◌, ◌-◌, ◌*◌, ◌/◌, ◌<◌, ◌≤◌, false, arith}
use Rattle.std.specs.Prelude.{nat_le}
use Rattle.std.proofs.lemmas.Bool.{cond_both, leb-true}
use Rattle.std.proofs.lemmas.Bool.Decides.{nat_tests}
use Rattle.std.proofs.lemmas.Nat.{div-add-mod', mod_below, div_below, mul-le}
use Rattle.zb_types.specs.declared.ids.Fid.{Fid}
use Rattle.zb_basis.specs.declared.asks.Ask.{Ask}
use Rattle.zb_basis.specs.Looking.{ask_range}

-- a block is among those that are asked for
abbrev pub IsAsked : Ask → ℕ → Type 0
IsAsked ask k = (ask.first ≤ k) × (k < ask.first + ask.count)

div-le : (b i j : ℕ) → 0 < b → i ≤ j → i / b ≤ j / b
div-le b i j pos le =
    let high = div-add-mod' j b in
    let rest = mod_below j b pos in
    let below = div_below i b (j / b + 1) pos (omega arith) in
    omega arith

-- the block of a byte of the range is asked for
pub asked-block : (b : ℕ) (fid : Fid) (from to i : ℕ) → 0 < b → from ≤ i → i < to → IsAsked (ask_range b fid from to) (i / b)
asked-block b fid from to i pos low high =
    cond_both (nat_le to from) (record { fid = fid; first = 0; count = 0 }) (record { fid = fid; first = from / b; count = (to - 1) / b - from / b + 1 }) (λ (ask : Ask). IsAsked ask (i / b))
    (λ t. let le = leb-true to from t in absurd (omega arith))
    (λ _. let one = div-le b from i pos low in let two = div-le b i (to - 1) pos (omega arith) in (one, omega arith))

-- a block that is asked for begins before the range ends, and ends behind its begin
pub asked-within : (b : ℕ) (fid : Fid) (from to k : ℕ) → 0 < b → IsAsked (ask_range b fid from to) k → (from < k * b + b) × (k * b < to)
asked-within b fid from to k pos =
    cond_both (nat_le to from) (record { fid = fid; first = 0; count = 0 }) (record { fid = fid; first = from / b; count = (to - 1) / b - from / b + 1 }) (λ (ask : Ask). IsAsked ask k → (from < k * b + b) × (k * b < to))
    (λ _ is. absurd (let l = is.1 in let m = is.0 in omega arith))
    (λ f is. within f is.0 is.1) where
      within : nat_le to from ≡ false → from / b ≤ k → k < from / b + ((to - 1) / b - from / b + 1) → (from < k * b + b) × (k * b < to)
      within f low high =
          let less : from < to = grind (arith, nat_tests) in
          let order = div-le b from (to - 1) pos (omega arith) in
          let begin = div-add-mod' from b in
          let rest = mod_below from b pos in
          let end = div-add-mod' (to - 1) b in
          let one = mul-le (from / b) b k b low (omega arith) in
          let two = mul-le k b ((to - 1) / b) b (omega arith) (omega arith) in
          (omega arith, omega arith)
