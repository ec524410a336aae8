-- The super cell at the front of a server's platter, which says whose it is and how it is laid out, and holds its fence.
use Rattle.std.specs.Prelude.{◌≡◌, ◌⊎◌, ℕ, ◌<◌, ◌^◌, List, [], ◌∷◌, ◌++◌, length, replicate, Option, None, Some, Result, OnOk}
use Rattle.byteorder.specs.Endian.{big_bytes}
use Rattle.zb_outside.specs.Meaning.{Meaning}
use Rattle.zb_outside.specs.Runs.{Run, IsSettled}
use Rattle.zb_cell.specs.Cell.{value}
use Rattle.zb_types.specs.declared.geometry.Geometry.{Geometry}
use Rattle.zb_types.specs.declared.ids.FragId.{FragId}
use Rattle.zb_slots.specs.Slots.{free_slot, slot_place}
use Rattle.zb_slots.specs.Slots.{slots_in}
use Rattle.zb_slots.specs.Holding.{map_of, free_of}
use Rattle.zb_slot_map.specs.Tidy.{IsSound, IsTidy}

-- `ZBRS`, format 1, the server's number, the sizes of the system, and the fence
abbrev pub super_text : Geometry → (server fence : ℕ) → List ℕ
super_text geo server fence =
    (90 ∷ 66 ∷ 82 ∷ 83 ∷ 0 ∷ 0 ∷ 0 ∷ 1 ∷ server ∷ geo.servers ∷ 0 ∷ 0 ∷ []) ++ big_bytes 4 geo.fragment ++ big_bytes 4 geo.block
    ++ big_bytes 4 geo.slots ++ big_bytes 8 fence ++ replicate 8 0

-- the super cell has the former value or this one, no slot is bad, and the map and the length are as before
pub record FormerOrFenced (geo : Geometry) (text old new : List ℕ) : Type 0 where
  pub sound : IsSound geo new
  pub super : (value new 0 ≡ value old 0) ⊎ (value new 0 ≡ Some text)
  pub size : length new ≡ length old
  pub map : (id : FragId) → map_of geo new id ≡ map_of geo old id

-- the super cell has this value, and the slots are as before
pub record IsFenced (geo : Geometry) (text old new : List ℕ) : Type 0 where
  pub tidy : IsTidy geo new
  pub super : value new 0 ≡ Some text
  pub slots : (k : ℕ) → k < geo.slots → slots_in geo new k ≡ slots_in geo old k
  pub map : (id : FragId) → map_of geo new id ≡ map_of geo old id

-- on the way the super cell has the former value or this one; after Ok this one, and no write is unsynced
pub record FenceTold {T E : Type 0} (geo : Geometry) (p : ℕ) (text : List ℕ) (result : Result T E) (old new : Meaning) : Type 0 where
  pub run : Run p (FormerOrFenced geo text (old.now.seen p)) old new
  pub settled : OnOk result (IsSettled p new.now)
  pub fenced : OnOk result (IsFenced geo text (old.now.seen p) (new.now.seen p))

-- a platter with this super cell on which all slots are free, and behind the last of which nothing is
pub record IsFormatted (geo : Geometry) (text image : List ℕ) : Type 0 where
  pub size : length image ≡ slot_place geo.fragment geo.slots
  pub tidy : IsTidy geo image
  pub super : value image 0 ≡ Some text
  pub slots : (k : ℕ) → k < geo.slots → slots_in geo image k ≡ free_slot
  pub map : (id : FragId) → map_of geo image id ≡ None
  pub free : free_of geo image ≡ geo.slots

-- the platter may hold anything on the way; after Ok it is formatted, and no write is unsynced
pub record FormatTold {T E : Type 0} (geo : Geometry) (p : ℕ) (text : List ℕ) (result : Result T E) (old new : Meaning) : Type 0 where
  pub run : Run p (λ _. Unit {0}) old new
  pub settled : OnOk result (IsSettled p new.now)
  pub formatted : OnOk result (IsFormatted geo text (new.now.seen p))

-- a payload is none of this server's, whatever the fence
abbrev pub IsNoneOf : Geometry → (server : ℕ) → List ℕ → Type 0
IsNoneOf geo server payload = (fence : ℕ) → fence < 2 ^ 64 → payload ≡ super_text geo server fence → ⊥

-- the fence that is found in the value of a super cell
abbrev pub IsOf : Geometry → (server : ℕ) → Option (List ℕ) → Option ℕ → Type 0
IsOf geo server None (Some fence) = ⊥
IsOf geo server None None = Unit {0}
IsOf geo server (Some payload) None = IsNoneOf geo server payload
IsOf geo server (Some payload) (Some fence) = payload ≡ super_text geo server fence
