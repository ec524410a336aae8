-- What an image of a server's platter is.
use Rattle.std.specs.Prelude.{◌≡◌, ℕ, List, Option, Some}
use Rattle.zb_cell.specs.Cell.{value}
use Rattle.zb_types.specs.declared.geometry.Geometry.{Geometry}
use Rattle.zb_types.specs.declared.ids.FragId.{FragId}
use Rattle.zb_types.specs.declared.ids.ServerId.{ServerId}
use Rattle.zb_holding.specs.Fragments.{Fragment}
use Rattle.zb_slots.specs.Slots.{slot_place}
use Rattle.zb_slots.specs.Holding.{map_of, free_of, IsLarge}
use Rattle.zb_slot_map.specs.Tidy.{IsSound}
use Rattle.zb_slot_map.specs.Super.{super_text}

-- what an image holds under each name
abbrev pub map_on : Geometry → List ℕ → FragId → Option Fragment
map_on geo image = map_of geo image

-- how many slots of an image are free
abbrev pub free_on : Geometry → List ℕ → ℕ
free_on geo image = free_of geo image

-- how many bytes all that a server keeps takes
abbrev pub room_of : Geometry → ℕ
room_of geo = slot_place geo.fragment geo.slots

-- the image is long enough for all that a server keeps
abbrev pub IsWhole : Geometry → List ℕ → Type 0
IsWhole geo image = IsLarge geo image

-- the image is this server's of this system, with this fence
abbrev pub HasFence : Geometry → ServerId → (fence : ℕ) → List ℕ → Type 0
HasFence geo server fence image = value image 0 ≡ Some (super_text geo server.0 fence)

-- an image of a server's platter: it is its own, with this fence; it is sound; and it holds this map
pub record IsImageOf (geo : Geometry) (server : ServerId) (map : FragId → Option Fragment) (fence : ℕ) (image : List ℕ) : Type 0 where
  pub own : HasFence geo server fence image
  pub sound : IsSound geo image
  pub holds : (id : FragId) → map_on geo image id ≡ map id
