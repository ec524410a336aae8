-- Older parities that are freed.
use Rattle.std.specs.Prelude.{◌≡◌, ℕ, List, length, Result, OnOk}
use Rattle.zb_outside.specs.Meaning.{Meaning}
use Rattle.zb_outside.specs.Runs.{Run, IsSettled}
use Rattle.zb_cell.specs.Cell.{value}
use Rattle.zb_types.specs.declared.geometry.Geometry.{Geometry}
use Rattle.zb_types.specs.declared.ids.FragId.{FragId}
use Rattle.zb_slots.specs.Slots.{slots_in}
use Rattle.zb_slots.specs.Holding.{map_of}
use Rattle.zb_slot_map.specs.Tidy.{IsSound, IsTidy}
use Rattle.zb_index.specs.Twins.{AreOlder, AreFreed}

-- the list has exactly the slots of an image that hold the older of two parities, in order
abbrev pub HasOlder : Geometry → (image older : List ℕ) → Type 0
HasOlder geo image older = AreOlder (slots_in geo image) geo.slots older

-- the super cell, the length and the map are as before, and no slot is bad if none was
pub record StaysSame (geo : Geometry) (old new : List ℕ) : Type 0 where
  pub sound : IsSound geo old → IsSound geo new
  pub super : value new 0 ≡ value old 0
  pub size : length new ≡ length old
  pub map : (id : FragId) → map_of geo new id ≡ map_of geo old id

-- the image is tidy: these slots are free and the others are as before
pub record HasFreed (geo : Geometry) (older old new : List ℕ) : Type 0 where
  pub tidy : IsTidy geo new
  pub slots : AreFreed geo.slots older (slots_in geo old) (slots_in geo new)

-- on the way all stays the same; after Ok these slots are free, and no write is unsynced
pub record FreeTold {T E : Type 0} (geo : Geometry) (p : ℕ) (older : List ℕ) (result : Result T E) (old new : Meaning) : Type 0 where
  pub run : Run p (StaysSame geo (old.now.seen p)) old new
  pub settled : OnOk result (IsSettled p new.now)
  pub freed : OnOk result (HasFreed geo older (old.now.seen p) (new.now.seen p))
