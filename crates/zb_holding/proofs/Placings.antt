-- Where fragments are placed.
use Rattle.std.proofs.Common.{◌≡◌, ℕ, ◌+◌, ◌*◌, ◌/◌, ◌%◌, ◌<◌, ◌≤◌, ap, inl, inr, arith}
use Rattle.std.proofs.lemmas.Bool.{cases_order}
use Rattle.std.proofs.lemmas.Nat.{div-add-mod', mul-le, mod_below}
use Rattle.zb_types.specs.declared.ids.LogId.{LogId}
use Rattle.zb_types.specs.declared.ids.ServerId.{ServerId}
use Rattle.zb_types.specs.declared.ids.FragId.{FragId}
use Rattle.zb_holding.specs.Placing.{frag_id, server_of}

-- two numbers of a turn of n that leave one rest are one
pub turn_once : (n a j k : ℕ) → j < n → k < n → (a + j) % n ≡ (a + k) % n → j ≡ k
turn_once n a j k jn kn e =
    let p = div-add-mod' (a + j) n in
    let q = div-add-mod' (a + k) n in
    elim (cases_order ((a + j) / n) ((a + k) / n)) [
      | inl same ↦ omega (arith, ap (λ z. z * n) same)
      | inr (inl below) ↦ absurd (omega (arith, mul-le ((a + j) / n + 1) n ((a + k) / n) n (omega arith) (omega arith)))
      | inr (inr above) ↦ absurd (omega (arith, mul-le ((a + k) / n + 1) n ((a + j) / n) n (omega arith) (omega arith)))
    ]

-- a server holds at most one fragment of a stripe
pub one_index : (n : ℕ) (log : LogId) (stripe j k : ℕ) → j < n → k < n → server_of n (frag_id log stripe j) ≡ server_of n (frag_id log stripe k) → j ≡ k
one_index n log stripe j k jn kn e =
    let same = ap (λ (s : ServerId). s.0) e in
    turn_once n (log.0 + stripe) j k jn kn (omega arith)

-- servers are numbered from 1 to n
pub is_server : (n : ℕ) (id : FragId) → 0 < n → (1 ≤ (server_of n id).0) × ((server_of n id).0 ≤ n)
is_server n id some =
    let m = mod_below (id.log.0 + id.stripe + id.index) n some in
    (omega arith, omega arith)
