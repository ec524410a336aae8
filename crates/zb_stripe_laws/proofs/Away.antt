-- At most one fragment of a stripe is away.
use Rattle.std.proofs.Common.{◌≡◌, ℕ, ◌+◌, ◌%◌, ◌<◌, true, Option, Some, None, arith}
use Rattle.std.proofs.lemmas.Bool.{eqb-true, false≢true}
use Rattle.zb_types.specs.declared.ids.LogId.{LogId}
use Rattle.zb_types.specs.declared.ids.ServerId.{ServerId}
use Rattle.zb_holding.specs.Holding.{away_at}
use Rattle.zb_holding.proofs.Placings.{turn_once}

-- at most one fragment of a stripe is on one server
pub away_once : (n : ℕ) (x : Option ServerId) (log : LogId) (stripe j k : ℕ) → j < n → k < n → away_at n x log stripe j ≡ true → away_at n x log stripe k ≡ true → j ≡ k
away_once n None log stripe j k jn kn p q = absurd (false≢true p)
away_once n (Some x) log stripe j k jn kn p q =
    let a = eqb-true x.0 ((log.0 + stripe + j) % n + 1) p in
    let b = eqb-true x.0 ((log.0 + stripe + k) % n + 1) q in
    turn_once n (log.0 + stripe) j k jn kn (omega arith)
