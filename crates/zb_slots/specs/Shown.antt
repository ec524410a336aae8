-- What headers say of slots.
use Rattle.std.specs.Prelude.{◌≡◌, ℕ, List, length, Option, None, Some, slice_get}
use Rattle.zb_types.specs.declared.ids.FragId.{FragId}
use Rattle.zb_holding.specs.Fragments.{share_fragment, parity_fragment}
use Rattle.zb_slots.specs.declared.header.Header.{Header}
use Rattle.zb_slots.specs.declared.header.Header.TheVariants.{Free, Share, Parity}
use Rattle.zb_slots.specs.Slots.{Slot, bad_slot, free_slot, full_slot}

-- a slot holds a share of this name and so many bytes
pub record HoldsShare (id : FragId) (len : ℕ) (slot : Slot) : Type 0 where
  pub bytes : List ℕ
  pub is : slot ≡ full_slot (record { id = id; turn = 0; fragment = share_fragment bytes })
  pub size : length bytes ≡ len

-- a slot holds a parity of this name, turn and so many bytes
pub record HoldsParity (id : FragId) (turn len : ℕ) (slot : Slot) : Type 0 where
  pub lengths : List ℕ
  pub bytes : List ℕ
  pub is : slot ≡ full_slot (record { id = id; turn = turn; fragment = parity_fragment lengths bytes })
  pub size : length bytes ≡ len

-- what a header says of its slot; with none the slot is bad
abbrev pub Says : Option Header → Slot → Type 0
Says None slot = slot ≡ bad_slot
Says (Some Free) slot = slot ≡ free_slot
Says (Some (Share id len)) slot = HoldsShare id len slot
Says (Some (Parity id turn len)) slot = HoldsParity id turn len slot

-- each slot is as its header says
abbrev pub AreShownBy : List (Option Header) → (ℕ → Slot) → Type 0
AreShownBy headers slots = (j : ℕ) (header : Option Header) → slice_get headers j ≡ Some header → Says header (slots j)
