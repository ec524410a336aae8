-- What servers in memory may be asked.
use Rattle.std.specs.Prelude.{ℕ, ◌+◌, ◌-◌, ◌/◌, ◌^◌, ◌<◌, ◌≤◌, ◌==◌, Bool, true, false, length, bit_and}
use Rattle.zb_types.specs.declared.ids.ServerId.{ServerId}
use Rattle.zb_types.specs.declared.requests.Request.{Request}
use Rattle.zb_types.specs.declared.requests.Request.TheVariants as ask
use Rattle.zb_types.specs.declared.requests.Response.{Response}
use Rattle.zb_types.specs.declared.requests.Response.TheVariants as told

-- the bytes that a request brings end before place 2 ^ 32
abbrev pub EndsInRange : Request → Type 0
EndsInRange (ask.Store id bytes class) = length bytes < 2 ^ 32
EndsInRange (ask.Append id place bytes) = place + length bytes < 2 ^ 32
EndsInRange (ask.Parity id lengths bytes class) = length bytes < 2 ^ 32
EndsInRange request = Unit {0}

-- one of n servers may be asked this
pub record MayAsk (n : ℕ) (asked : ServerId × Request) : Type 0 where
  pub first : 0 < asked.0.0
  pub last : asked.0.0 ≤ n
  pub range : EndsInRange asked.1

-- is it a refusal?
abbrev pub is_refused : Response → Bool
is_refused (told.Refused fault) = true
is_refused response = false

-- is the bit of this server set?
abbrev pub has_bit : ℕ → ServerId → Bool
has_bit bits server = bit_and (bits / 2 ^ (server.0 - 1)) 1 == 1
