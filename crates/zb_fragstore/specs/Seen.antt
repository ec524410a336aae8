-- What contracts see of a fragment store.
use Rattle.std.specs.Prelude.{◌≡◌, ℕ, ◌+◌, ◌-◌, Bool, true, false, nat_lt, if◌then◌else◌, length, option_map, is_some, Option, Some}
use Rattle.zb_types.specs.declared.geometry.Geometry.{Geometry}
use Rattle.zb_types.specs.declared.ids.FragId.{FragId}
use Rattle.zb_types.specs.declared.ids.ServerId.{ServerId}
use Rattle.zb_holding.specs.Fragments.{Fragment}
use Rattle.zb_holding.specs.Carrying.{same_frag}
use Rattle.zb_holding.specs.Rules.{Size, share_size, parity_size, Outline, Holdings}
use Rattle.zb_index.specs.declared.spot.Spot.{Spot}
use Rattle.zb_index.specs.Free.{IsLeast}
use Rattle.zb_index.specs.Seen.{SeenIndex, spot_of}

-- the sizes of the system, the server whose platter it is, what its slots hold, and the least generation that it takes
pub record SeenStore : Type 0 where
  pub geo : Geometry
  pub server : ServerId
  pub index : SeenIndex
  pub fence : ℕ

-- shares have the indexes below the last, which is the parity's
abbrev pub is_share : SeenStore → FragId → Bool
is_share store id = nat_lt (id.index + 1) store.geo.servers

-- the length of the fragment of this name, if there is one
abbrev pub length_of : SeenStore → FragId → Option ℕ
length_of store id = option_map (λ spot. spot.len) (spot_of store.index id)

-- is there a fragment of this name?
abbrev pub is_there : SeenStore → FragId → Bool
is_there store id = is_some (spot_of store.index id)

-- how many slots are free
abbrev pub free_of : SeenStore → ℕ
free_of store = length store.index.free

-- a store of this server of this system
pub record IsStoreOf (geo : Geometry) (server : ServerId) (store : SeenStore) : Type 0 where
  pub geo_is : store.geo ≡ geo
  pub server_is : store.server ≡ server

-- the fragment of one name has this length now, or is none; every other one has its former length, and the fence stays
pub record ChangesLength (id : FragId) (len : Option ℕ) (old new : SeenStore) : Type 0 where
  pub fence : new.fence ≡ old.fence
  pub lengths : (q : FragId) → length_of new q ≡ (if same_frag id q then len else length_of old q)

-- the fragment of this name stands in what was the least free slot
abbrev pub TakesLeastSlot : FragId → SeenStore → SeenStore → Type 0
TakesLeastSlot id old new = (spot : Spot) → spot_of new.index id ≡ Some spot → IsLeast old.index.free spot.slot

-- the size of so many bytes of a share, or of a parity with n lengths
abbrev pub size_by : (share : Bool) → (n len : ℕ) → Size
size_by true n len = share_size len
size_by false n len = parity_size n len

-- the size of the fragment of this name at this spot
abbrev pub size_at : SeenStore → FragId → Spot → Size
size_at store id spot = size_by (is_share store id) (store.geo.servers - 1) spot.len

-- the size of the fragment of this name, if there is one
abbrev pub size_in : SeenStore → FragId → Option Size
size_in store id = option_map (size_at store id) (spot_of store.index id)

-- what a store knows of what it has without looking at its platter
abbrev pub known : SeenStore → Outline
known store = record { sizes = size_in store; fence = store.fence; free = free_of store }

-- what a store has whose platter holds this map
abbrev pub holding : SeenStore → (FragId → Option Fragment) → Holdings
holding store map = record { map = map; fence = store.fence; free = free_of store }
