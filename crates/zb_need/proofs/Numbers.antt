-- The numbers behind the laws.
use Rattle.std.proofs.Common.{ℕ, ◌+◌, ◌-◌, ◌*◌, ◌/◌, ◌<◌, ◌≤◌, arith}
use Rattle.std.proofs.lemmas.Nat.{div-add-mod', mod_below, div_below, mul-le}

-- bytes from an offset on lie in few blocks
pub span : (b from n : ℕ) → 0 < b → 0 < n → (from + n - 1) / b - from / b + 1 ≤ n / b + 2
span b from n pos some =
    let first = div-add-mod' from b in
    let inside = mod_below from b pos in
    let whole = div-add-mod' n b in
    let rest = mod_below n b pos in
    let end = div_below (from + n - 1) b (from / b + n / b + 2) pos (omega arith) in
    omega arith

-- so many deltas, each with its block
pub deltas-weigh : (b k m : ℕ) → k ≤ m → 9 + (24 + 58 * k) + k * b + 32 ≤ 96 + m * (58 + b)
deltas-weigh b k m few = let all = mul-le k (58 + b) m (58 + b) few (omega arith) in omega arith

-- twice some bytes lie in as many whole stripes, and one for the rest
pub enough : (room w : ℕ) → 0 < room → 2 * w ≤ (1 + 2 * w / room) * room
enough room w some = let whole = div-add-mod' (2 * w) room in let rest = mod_below (2 * w) room some in omega arith
