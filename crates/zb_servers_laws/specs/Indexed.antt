-- Fragments that stand where their index says.
use Rattle.std.specs.Prelude.{◌≡◌, ◌≢◌, ℕ, ◌-◌, length, Option, Some, None}
use Rattle.zb_types.specs.declared.ids.ServerId.{ServerId}
use Rattle.zb_types.specs.declared.ids.FragId.{FragId}
use Rattle.zb_types.specs.declared.requests.Request.{Request}
use Rattle.zb_types.specs.declared.requests.Request.TheVariants as ask
use Rattle.zb_holding.specs.Fragments.{Fragment, share_fragment, parity_fragment}
use Rattle.zb_holding.specs.Holding.{Maps}

-- the last index of a stripe among n servers has a parity with the lengths of all shares, each other one a share
abbrev pub FitsIndex : ℕ → FragId → Option Fragment → Type 0
FitsIndex n id None = Unit {0}
FitsIndex n id (Some (share_fragment bytes)) = id.index ≢ n - 1
FitsIndex n id (Some (parity_fragment lengths bytes)) = (id.index ≡ n - 1) × (length lengths ≡ n - 1)

-- so does whatever stands on the servers
abbrev pub AllFitIndex : ℕ → Maps → Type 0
AllFitIndex n maps = (server : ServerId) (id : FragId) → FitsIndex n id (maps server id)

-- a request that puts a fragment, if it puts one, where its index says
abbrev pub PutsToIndex : ℕ → Request → Type 0
PutsToIndex n (ask.Store id bytes class) = id.index ≢ n - 1
PutsToIndex n (ask.Parity id lengths bytes class) = (id.index ≡ n - 1) × (length lengths ≡ n - 1)
PutsToIndex n request = Unit {0}
