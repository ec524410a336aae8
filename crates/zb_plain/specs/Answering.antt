-- What a plain server answers to a request: by the rules of a server, as one that takes every generation and has room.
use Rattle.std.specs.Prelude.{ℕ, ◌+◌, ◌^◌, ◌<◌, ◌≤◌, length, take, Option, Some, None}
use Rattle.zb_types.specs.declared.ids.ServerId.{ServerId}
use Rattle.zb_types.specs.declared.requests.Request.{Request}
use Rattle.zb_types.specs.declared.requests.Request.TheVariants as ask
use Rattle.zb_types.specs.declared.requests.Response.{Response}
use Rattle.zb_types.specs.declared.requests.Response.TheVariants as told
use Rattle.zb_types.specs.declared.requests.StoreFault.{StoreFault}
use Rattle.zb_holding.specs.Carrying.{found}
use Rattle.zb_holding.specs.Listing.{names_above, most_names}
use Rattle.zb_holding.specs.Rules.{Holdings, refusal_of}
use Rattle.zb_plain.specs.Standing.{Entries, stands_in}

-- what a server has that keeps these entries: no fence, and more free slots than a client leaves
abbrev pub holdings_of : Entries → Holdings
holdings_of entries = record { map = stands_in entries; fence = 0; free = 5 }

-- what a request is answered that isn't refused: a range, the least names, or that it is done
abbrev pub served_by : Entries → Request → Response
served_by entries (ask.Retrieve id place len) = found (stands_in entries id) place len
served_by entries (ask.Identify after) = told.Ids (take most_names (names_above after entries))
served_by entries request = told.Done

-- a fault, where one refuses, and else this
abbrev pub unless_refused : Option StoreFault → Response → Response
unless_refused None response = response
unless_refused (Some fault) response = told.Refused fault

-- what a server that keeps these entries answers
abbrev pub answer_of : Entries → Request → Response
answer_of entries request = unless_refused (refusal_of (holdings_of entries) 0 request) (served_by entries request)

-- the bytes that a request brings end before place 2 ^ 32
abbrev pub EndsInRange : Request → Type 0
EndsInRange (ask.Store id bytes class) = length bytes < 2 ^ 32
EndsInRange (ask.Append id place bytes) = place + length bytes < 2 ^ 32
EndsInRange (ask.Parity id lengths bytes class) = length bytes < 2 ^ 32
EndsInRange request = Unit {0}

-- one of n servers may be asked this
pub record MayAsk (n : ℕ) (asked : ServerId × Request) : Type 0 where
  pub first : 0 < asked.0.0
  pub last : asked.0.0 ≤ n
  pub range : EndsInRange asked.1
