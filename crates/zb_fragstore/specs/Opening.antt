-- What opening a store does, and when it doesn't.
use Rattle.std.specs.Prelude.{◌≡◌, ℕ, ◌+◌, ◌<◌, ◌^◌, Bool, true, false, List, length, None, Result, Err, OnOk}
use Rattle.zb_outside.specs.Meaning.{Meaning}
use Rattle.zb_outside.specs.Runs.{IsSettled, SparesOthers}
use Rattle.zb_cell.specs.Cell.{value}
use Rattle.zb_types.specs.declared.geometry.Geometry.{Geometry}
use Rattle.zb_types.specs.declared.ids.FragId.{FragId}
use Rattle.zb_types.specs.declared.ids.ServerId.{ServerId}
use Rattle.zb_slots.specs.Slots.{Slot}
use Rattle.zb_slot_map.specs.Zeros.{pieces}
use Rattle.zb_slots.specs.declared.read_fault.ReadFault.{ReadFault}
use Rattle.zb_slots.specs.declared.read_fault.ReadFault.TheVariants as reading
use Rattle.zb_index.specs.declared.faults.IndexFault.{IndexFault}
use Rattle.zb_index.specs.declared.faults.IndexFault.TheVariants as indexing
use Rattle.zb_index.specs.Indexed.{IsIndexOf}
use Rattle.zb_index.specs.Seen.{SeenIndex}
use Rattle.zb_index.specs.Twins.{NoneIsBad, IsFirstBad, AreOlder, AreFreed}
use Rattle.zb_slots.specs.Slots.{slots_in}
use Rattle.zb_slot_map.specs.Freeing.{StaysSame}
use Rattle.zb_slot_map.specs.Super.{IsOf}
use Rattle.zb_fragstore.specs.Seen.{SeenStore}
use Rattle.zb_fragstore.specs.Images.{free_on, room_of, HasFence, IsImageOf}
use Rattle.zb_fragstore.specs.Changing.{map_in, IsOpen}
use Rattle.zb_fragstore.specs.declared.faults.OpenFault.{OpenFault}
use Rattle.zb_fragstore.specs.declared.faults.OpenFault.TheVariants.{Blank, Damaged, NoMemory, Stopped}

-- the image is this server's, with the store's fence, a number of eight bytes, and nothing on it is bad
pub record IsGood (geo : Geometry) (server : ServerId) (image : List ℕ) (store : SeenStore) : Type 0 where
  pub fence : HasFence geo server store.fence image
  pub fits : store.fence < 2 ^ 64
  pub good : NoneIsBad (slots_in geo image) geo.slots

-- the image is this server's of this system
abbrev pub IsOwn : Geometry → ServerId → List ℕ → Type 0
IsOwn geo server image = (fence : ℕ) × HasFence geo server fence image

-- the image isn't, whatever its fence
abbrev pub IsForeign : Geometry → ServerId → List ℕ → Type 0
IsForeign geo server image = IsOf geo server.0 (value image 0) None

-- why an image isn't opened: it is none of this server's; or it is, and so and so is the first slot that is bad, or memory ran
-- out, or its platter stopped
abbrev pub IsUnfit : Geometry → ServerId → List ℕ → OpenFault → Type 0
IsUnfit geo server image Blank = IsForeign geo server image
IsUnfit geo server image (Damaged slot) = IsOwn geo server image × IsFirstBad (slots_in geo image) geo.slots slot
IsUnfit geo server image NoMemory = IsOwn geo server image
IsUnfit geo server image Stopped = Unit {0}

-- whose image it is, its length and its map are as before, and it is sound if it was
abbrev pub StaysWhole : Geometry → List ℕ → List ℕ → Type 0
StaysWhole geo old new = StaysSame geo old new

-- an image of a server's platter with this fence that is just as long as a server needs, on which nothing is held and all slots
-- are free
pub record IsEmpty (geo : Geometry) (server : ServerId) (fence : ℕ) (image : List ℕ) : Type 0 where
  pub own : IsImageOf geo server (λ id. None) fence image
  pub size : length image ≡ room_of geo
  pub free : free_on geo image ≡ geo.slots

-- the platter may hold anything on the way, and the others are as before; after Ok it is empty, and no write is unsynced
pub record Formats {T E : Type 0} (geo : Geometry) (server : ServerId) (fence : ℕ) (result : Result T E) (old new : Meaning) : Type 0 where
  pub others : SparesOthers server.0 old new
  pub settled : OnOk result (IsSettled server.0 new.now)
  pub made : OnOk result (IsEmpty geo server fence (new.now.seen server.0))

-- the store is open, and the map is as before
pub record IsOpened (store : SeenStore) (a b : Meaning) : Type 0 where
  pub is_open : IsOpen store b.now
  pub map : (id : FragId) → map_in store b.now id ≡ map_in store a.now id

-- did the platter stop?
abbrev pub opening_stopped : {T : Type 0} → Result T OpenFault → Bool
opening_stopped (Err Stopped) = true
opening_stopped result = false

-- how many writes make a platter anew, at most
abbrev pub format_writes : Geometry → ℕ
format_writes geo = pieces (room_of geo) + 3

-- why a store isn't opened whose platter wasn't read
abbrev pub after_read : ReadFault → OpenFault
after_read reading.NoMemory = NoMemory
after_read reading.Stopped = Stopped

-- and whose slots have no index
abbrev pub after_index : IndexFault → OpenFault
after_index (indexing.Bad slot) = Damaged slot
after_index indexing.NoMemory = NoMemory

-- of these slots none is bad, and once the older parities are freed the index is theirs
pub record IsBuilt (geo : Geometry) (slots : ℕ → Slot) (index : SeenIndex) (older : List ℕ) : Type 0 where
  pub good : NoneIsBad slots geo.slots
  pub twins : AreOlder slots geo.slots older
  pub follows : (now : ℕ → Slot) → AreFreed geo.slots older slots now → IsIndexOf index geo.slots now

-- what a fault tells of slots: the first that is bad, and nothing of the super cell
abbrev pub TellsSlots : (ℕ → Slot) → (n : ℕ) → OpenFault → Type 0
TellsSlots slots n Blank = ⊥
TellsSlots slots n (Damaged slot) = IsFirstBad slots n slot
TellsSlots slots n NoMemory = Unit {0}
TellsSlots slots n Stopped = Unit {0}
