-- Which fragments take the slots of servers.
use Rattle.std.specs.Prelude.{◌≡◌, ℕ, ◌+◌, ◌<◌, ◌≤◌, true, false, List, [], ◌∷◌, length, slice_get, is_some, Some}
use Rattle.std.specs.List.{AllByRecursion}
use Rattle.zb_types.specs.declared.ids.ServerId.{ServerId}
use Rattle.zb_types.specs.declared.ids.FragId.{FragId}
use Rattle.zb_holding.specs.Carrying.{same_frag}
use Rattle.zb_holding.specs.Placing.{server_of}
use Rattle.zb_holding.specs.Rules.{Holdings}

-- no two of these names are one
abbrev pub Differ : List FragId → Type 0
Differ [] = Unit {0}
Differ (id ∷ ids) = AllByRecursion (λ other. same_frag id other ≡ false) ids × Differ ids

-- each of so many slots is free, or taken by one of these names, under each of which something stands
pub record SlotsAreTaken (slots : ℕ) (has : Holdings) : Type 0 where
  pub names : List FragId
  pub differ : Differ names
  pub stand : AllByRecursion (λ id. is_some (has.map id) ≡ true) names
  pub many : slots ≤ has.free + length names

-- where logs 1, 2 and so on have begun so many stripes each: a fragment of a stripe that was begun, on the server that has it among so many
pub record Belongs (servers : ℕ) (begun : List ℕ) (server : ServerId) (id : FragId) : Type 0 where
  pub place : ℕ
  pub count : ℕ
  pub is : slice_get begun place ≡ Some count
  pub log : id.log.0 ≡ place + 1
  pub stripe : id.stripe < count
  pub index : id.index < servers
  pub on : (server_of servers id).0 ≡ server.0
