-- What the headers of an image say.
use Rattle.std.specs.Prelude.{◌≡◌, ℕ, List, length, Option, Some, slice_get}
use Rattle.zb_cell.specs.Cell.{value}
use Rattle.zb_types.specs.declared.geometry.Geometry.{Geometry}
use Rattle.zb_slots.specs.declared.header.Header.{Header}
use Rattle.zb_slots.specs.Headers.{MayStand}
use Rattle.zb_slots.specs.Slots.{header_in, slot_place}
use Rattle.zb_slots.specs.Slots.{slots_in}
use Rattle.zb_slots.specs.Shown.{AreShownBy}

-- what the header of slot j says
abbrev pub header_of : Geometry → List ℕ → ℕ → Option Header
header_of geo image j = header_in geo.servers geo.fragment (value image (slot_place geo.fragment j))

-- these are the headers of all slots, in order, and each slot is as its header says
pub record AreShown (geo : Geometry) (image : List ℕ) (headers : List (Option Header)) : Type 0 where
  pub count : length headers ≡ geo.slots
  pub each : (j : ℕ) (header : Option Header) → slice_get headers j ≡ Some header → header ≡ header_of geo image j
  pub slots : AreShownBy headers (slots_in geo image)

-- each header that says something may stand
abbrev pub AllMayStand : (n f : ℕ) → List (Option Header) → Type 0
AllMayStand n f headers = (j : ℕ) (header : Header) → slice_get headers j ≡ Some (Some header) → MayStand n f header
