-- Slots that a store takes and gives back, in what it keeps in memory.
use Rattle.std.specs.Prelude.{◌≡◌, ℕ, ◌+◌, ◌<◌, Some, None}
use Rattle.zb_cell.specs.Cell.{following}
use Rattle.zb_types.specs.declared.ids.FragId.{FragId}
use Rattle.zb_index.specs.declared.spot.Spot.{Spot}
use Rattle.zb_index.specs.Free.{IsLeast}
use Rattle.zb_index.specs.Seen.{spot_of}
use Rattle.zb_index.specs.Changes.{IsPut, first_spot, lengthened, next_spot, FollowsFill, FollowsFree, FollowsMove}
use Rattle.zb_fragstore.specs.Seen.{SeenStore, free_of}

-- the least free slot is taken for a new fragment
pub record TakesSlot (id : FragId) (slot len : ℕ) (old new : SeenStore) : Type 0 where
  pub least : IsLeast old.index.free slot
  pub within : slot < old.geo.slots
  pub put : IsPut old.index new.index id (Some (first_spot slot len))
  pub count : free_of new + 1 ≡ free_of old
  pub index : FollowsFill old.index new.index slot id 0 len

-- the slot of a fragment is given back
pub record GivesSlot (id : FragId) (slot : ℕ) (old new : SeenStore) : Type 0 where
  pub spot : Spot
  pub was : spot_of old.index id ≡ Some spot
  pub slot_is : spot.slot ≡ slot
  pub within : slot < old.geo.slots
  pub put : IsPut old.index new.index id None
  pub count : free_of new ≡ free_of old + 1
  pub index : FollowsFree old.index new.index slot

-- a fragment has another length
pub record Lengthens (id : FragId) (spot : Spot) (len : ℕ) (old new : SeenStore) : Type 0 where
  pub put : IsPut old.index new.index id (Some (lengthened len spot))
  pub count : free_of new ≡ free_of old
  pub index : FollowsFill old.index new.index spot.slot id spot.turn len

-- the least free slot is taken for the next of a name, whose former slot is given back
pub record MovesSlot (id : FragId) (former : Spot) (slot len : ℕ) (old new : SeenStore) : Type 0 where
  pub was : spot_of old.index id ≡ Some former
  pub least : IsLeast old.index.free slot
  pub within : slot < old.geo.slots
  pub put : IsPut old.index new.index id (Some (next_spot slot len former))
  pub count : free_of new ≡ free_of old
  pub index : FollowsMove old.index new.index former.slot slot id (following former.turn) len
