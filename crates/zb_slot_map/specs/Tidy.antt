-- Platters on which no slot is bad, and no name is held twice.
use Rattle.std.specs.Prelude.{◌≡◌, ◌≢◌, ℕ, ◌<◌, if◌then◌else◌, List, Option}
use Rattle.zb_types.specs.declared.geometry.Geometry.{Geometry}
use Rattle.zb_types.specs.declared.ids.FragId.{FragId}
use Rattle.zb_holding.specs.Carrying.{same_frag}
use Rattle.zb_holding.specs.Fragments.{Fragment}
use Rattle.zb_slots.specs.Slots.{Slot, Stored, bad_slot, full_slot, slots_in}
use Rattle.zb_slots.specs.Holding.{IsLarge, IsBad}

-- all slots lie within the image, and none is bad
pub record IsSound (geo : Geometry) (image : List ℕ) : Type 0 where
  pub large : IsLarge geo image
  pub good : (j : ℕ) → j < geo.slots → IsBad (slots_in geo image) geo.slots j → ⊥

-- of the first n slots none has a bad header, and no two hold one name
pub record AreTidy (n : ℕ) (slots : ℕ → Slot) : Type 0 where
  pub good : (j : ℕ) → j < n → slots j ≢ bad_slot
  pub once : (i j : ℕ) (a b : Stored) → i < n → j < n → slots i ≡ full_slot a → slots j ≡ full_slot b → a.id ≡ b.id → i ≡ j

-- all slots lie within the image, and they are tidy
pub record IsTidy (geo : Geometry) (image : List ℕ) : Type 0 where
  pub large : IsLarge geo image
  pub slots : AreTidy geo.slots (slots_in geo image)

-- a map with this under a name
abbrev pub put : FragId → Option Fragment → (FragId → Option Fragment) → FragId → Option Fragment
put id fragment map other = if same_frag id other then fragment else map other
