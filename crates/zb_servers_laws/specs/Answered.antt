-- Requests of plans, and how they are answered.
use Rattle.std.specs.Prelude.{◌≡◌, ℕ, ◌≤◌, Bool, false, is_some, if◌then◌else◌}
use Rattle.zb_types.specs.declared.ids.ServerId.{ServerId}
use Rattle.zb_types.specs.declared.ids.FragId.{FragId}
use Rattle.zb_types.specs.declared.nodes.Class.TheVariants.{Client, Cleaner}
use Rattle.zb_types.specs.declared.requests.Request.{Request}
use Rattle.zb_types.specs.declared.requests.Request.TheVariants as ask
use Rattle.zb_types.specs.declared.requests.Response.{Response}
use Rattle.zb_holding.specs.Holding.{Maps}
use Rattle.zb_holding.specs.Rules.{Holdings, IsAnswer, is_full}

-- the server that was asked has what these maps have of it, takes this generation, and has answered by the rules
pub record IsAnswered (maps : Maps) (generation : ℕ) (asked : ServerId × Request) (response : Response) : Type 0 where
  pub has : Holdings
  pub own : (id : FragId) → has.map id ≡ maps asked.0 id
  pub takes : has.fence ≤ generation
  pub answers : IsAnswer has generation asked.1 response

-- a store, an append or a parity
abbrev pub IsWrite : Request → Type 0
IsWrite (ask.Store id bytes class) = Unit {0}
IsWrite (ask.Append id place bytes) = Unit {0}
IsWrite (ask.Parity id lengths bytes class) = Unit {0}
IsWrite request = ⊥

-- a request that takes a slot as a client does, if it takes one
abbrev pub IsClients : Request → Type 0
IsClients (ask.Store id bytes class) = class ≡ Client
IsClients (ask.Parity id lengths bytes class) = class ≡ Client
IsClients request = Unit {0}

-- are too few slots free? A store and a first parity need one for their class, a parity that replaces another needs any one
abbrev pub lacks_slot : Holdings → Request → Bool
lacks_slot has (ask.Store id bytes class) = is_full class has.free
lacks_slot has (ask.Parity id lengths bytes class) = is_full (if is_some (has.map id) then Cleaner else class) has.free
lacks_slot has request = false
