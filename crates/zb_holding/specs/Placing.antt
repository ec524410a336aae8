-- Where a stripe's bytes lie: f bytes have room in a fragment, and fragments are placed among n servers.
use Rattle.std.specs.Prelude.{ℕ, ◌+◌, ◌-◌, ◌*◌, ◌%◌, min, List, take, drop}
use Rattle.zb_types.specs.declared.ids.LogId.{LogId}
use Rattle.zb_types.specs.declared.ids.ServerId.{ServerId}
use Rattle.zb_types.specs.declared.ids.FragId.{FragId}

-- how many of the first m bytes of a stripe lie in share k
abbrev pub share_length : ℕ → ℕ → ℕ → ℕ
share_length f m k = min f (m - k * f)

-- share k of a stripe's bytes
abbrev pub share_of : ℕ → List ℕ → ℕ → List ℕ
share_of f bytes k = take f (drop (k * f) bytes)

-- the name of a stripe's fragment k
abbrev pub frag_id : LogId → ℕ → ℕ → FragId
frag_id log stripe k = record { log = log; stripe = stripe; index = k }

-- the server that a fragment is placed on
abbrev pub server_of : ℕ → FragId → ServerId
server_of n id = record { 0 = (id.log.0 + id.stripe + id.index) % n + 1 }
