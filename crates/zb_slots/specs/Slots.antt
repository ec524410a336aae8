-- What the slots of a server's platter hold: a slot has its header cell of 128 bytes, the lengths area of 64 and the body.
use Rattle.std.specs.Prelude.{ℕ, zero, suc, ◌+◌, ◌-◌, ◌*◌, List, [], ◌∷◌, Option, None, Some}
use Rattle.byteorder.specs.Endian.{big_number}
use Rattle.zb_cell.specs.Cell.{window, value_of, bytes_at}
use Rattle.zb_types.specs.declared.geometry.Geometry.{Geometry}
use Rattle.zb_types.specs.declared.ids.FragId.{FragId}
use Rattle.zb_holding.specs.Fragments.{Fragment, share_fragment, parity_fragment}
use Rattle.zb_slots.specs.Headers.{said}
use Rattle.zb_slots.specs.declared.header.Header.{Header}
use Rattle.zb_slots.specs.declared.header.Header.TheVariants.{Free, Share, Parity}

-- where slot j stands, behind the cell that says whose platter this is
abbrev pub slot_place : (f j : ℕ) → ℕ
slot_place f j = 128 + j * (192 + f)

-- a fragment with its name, and the turn that tells the newer of two parities
pub record Stored : Type 0 where
  pub id : FragId
  pub turn : ℕ
  pub fragment : Fragment

-- what a slot holds, or that its header is bad
pub data Slot : Type 0 where
  bad_slot : Slot
  free_slot : Slot
  full_slot : Stored → Slot

-- the number in the four bytes from a place on
abbrev pub four_at : (ℕ → ℕ) → ℕ → ℕ
four_at byte at = big_number 4 (window byte at 4)

-- m numbers of four bytes each
abbrev pub numbers_at : (ℕ → ℕ) → (at m : ℕ) → List ℕ
numbers_at byte at zero = []
numbers_at byte at (suc m) = four_at byte at ∷ numbers_at byte (at + 4) m

-- the slot with these bytes behind its header
abbrev pub shown : (n : ℕ) → (ℕ → ℕ) → Option Header → Slot
shown n byte None = bad_slot
shown n byte (Some Free) = free_slot
shown n byte (Some (Share id length)) = full_slot (record { id = id; turn = 0; fragment = share_fragment (window byte 192 length) })
shown n byte (Some (Parity id turn length)) =
    full_slot (record { id = id; turn = turn; fragment = parity_fragment (numbers_at byte 128 (n - 1)) (window byte 192 length) })

-- what a header cell says: with no value the slot is free
abbrev pub header_in : (n f : ℕ) → Option (List ℕ) → Option Header
header_in n f None = Some Free
header_in n f (Some payload) = said n f payload

-- the slot of these bytes, by its header alone
abbrev pub slot_in : (n f : ℕ) → (ℕ → ℕ) → Slot
slot_in n f byte = shown n byte (header_in n f (value_of byte))

-- the slot at this place
abbrev pub slot_of : (n f : ℕ) → List ℕ → ℕ → Slot
slot_of n f image place = slot_in n f (bytes_at image place)

-- slot j
abbrev pub slots_of : (n f : ℕ) → List ℕ → ℕ → Slot
slots_of n f image j = slot_of n f image (slot_place f j)

-- the slots of an image
abbrev pub slots_in : Geometry → List ℕ → ℕ → Slot
slots_in geo image = slots_of geo.servers geo.fragment image
