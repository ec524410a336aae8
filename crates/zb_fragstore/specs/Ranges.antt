-- What a store may keep in memory of its slots.
use Rattle.std.specs.Prelude.{◌≡◌, ℕ, ◌<◌, ◌≤◌, Some}
use Rattle.zb_types.specs.declared.geometry.Geometry.{Geometry}
use Rattle.zb_types.specs.declared.ids.FragId.{FragId}
use Rattle.zb_index.specs.declared.spot.Spot.{Spot}
use Rattle.zb_index.specs.Free.{times}
use Rattle.zb_index.specs.Seen.{SeenIndex, spot_of}

-- a slot of the system, with one of three turns, and bytes that fit into it
pub record IsInRange (geo : Geometry) (spot : Spot) : Type 0 where
  pub slot : spot.slot < geo.slots
  pub turn : spot.turn < 3
  pub len : spot.len ≤ geo.fragment

-- so is each slot that is held, and the free ones are slots of the system
pub record AreInRange (geo : Geometry) (index : SeenIndex) : Type 0 where
  pub held : (id : FragId) (spot : Spot) → spot_of index id ≡ Some spot → IsInRange geo spot
  pub free : (j : ℕ) → 0 < times j index.free → j < geo.slots
