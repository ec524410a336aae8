-- What slots hold under names, and how many are free.
use Rattle.std.specs.Prelude.{◌≡◌, ◌≢◌, ◌⊎◌, ℕ, zero, suc, ◌+◌, ◌<◌, ◌≤◌, ◌==◌, if◌then◌else◌, Bool, true, false, IsTrue, List, length, Option, None, Some}
use Rattle.zb_cell.specs.Cell.{following}
use Rattle.zb_types.specs.declared.geometry.Geometry.{Geometry}
use Rattle.zb_types.specs.declared.ids.FragId.{FragId}
use Rattle.zb_holding.specs.Carrying.{same_frag}
use Rattle.zb_holding.specs.Fragments.{Fragment, share_fragment, parity_fragment}
use Rattle.zb_slots.specs.Slots.{Stored, Slot, bad_slot, free_slot, full_slot, slot_place, slots_of}

-- what a slot holds under this name
abbrev pub named : FragId → Slot → Option Stored
named id bad_slot = None
named id free_slot = None
named id (full_slot stored) = if same_frag stored.id id then Some stored else None

-- of two under one name, the one whose turn follows the other's, and else the first
abbrev pub newer : Option Stored → Option Stored → Option Stored
newer None other = other
newer (Some first) None = Some first
newer (Some first) (Some other) = if other.turn == following first.turn then Some other else Some first

-- what the first n slots hold under this name
abbrev pub held : (ℕ → Slot) → ℕ → FragId → Option Stored
held slots zero id = None
held slots (suc n) id = newer (held slots n id) (named id (slots n))

-- the fragment that is stored, if one is
abbrev pub fragment_of : Option Stored → Option Fragment
fragment_of None = None
fragment_of (Some stored) = Some stored.fragment

-- the fragments that an image holds, of n servers with f bytes in a fragment and so many slots
abbrev pub fragments_of : (n f slots : ℕ) → List ℕ → FragId → Option Fragment
fragments_of n f slots image id = fragment_of (held (slots_of n f image) slots id)

-- 1 for a free slot, else 0
abbrev pub free_in : Slot → ℕ
free_in bad_slot = 0
free_in free_slot = 1
free_in (full_slot stored) = 0

-- how many of the first n slots are free
abbrev pub free_count : (ℕ → Slot) → ℕ → ℕ
free_count slots zero = 0
free_count slots (suc n) = free_count slots n + free_in (slots n)

-- how many slots of an image are free
abbrev pub free_slots : (n f slots : ℕ) → List ℕ → ℕ
free_slots n f slots image = free_count (slots_of n f image) slots

-- is it a parity?
abbrev pub is_parity : Fragment → Bool
is_parity (share_fragment bytes) = false
is_parity (parity_fragment lengths bytes) = true

-- slots i and j alone, of the first n, hold this name, both of them a parity, with different turns
pub record AreTwoParities (slots : ℕ → Slot) (n i j : ℕ) (a b : Stored) : Type 0 where
  pub first : IsTrue (is_parity a.fragment)
  pub other : IsTrue (is_parity b.fragment)
  pub turns : a.turn ≢ b.turn
  pub alone : (k : ℕ) → k < n → k ≢ i → k ≢ j → named a.id (slots k) ≡ None

-- a slot below j holds the name of slot j, and the two aren't such parities
pub record Repeats (slots : ℕ → Slot) (n j : ℕ) : Type 0 where
  pub i : ℕ
  pub former : Stored
  pub stored : Stored
  pub below : i < j
  pub there : slots i ≡ full_slot former
  pub here : slots j ≡ full_slot stored
  pub same : stored.id ≡ former.id
  pub not_two : AreTwoParities slots n i j former stored → ⊥

-- slot j, of n, is bad: by its header alone, or by a lower slot
abbrev pub IsBad : (ℕ → Slot) → (n j : ℕ) → Type 0
IsBad slots n j = (slots j ≡ bad_slot) ⊎ Repeats slots n j

-- the fragments that an image holds
abbrev pub map_of : Geometry → List ℕ → FragId → Option Fragment
map_of geo image = fragments_of geo.servers geo.fragment geo.slots image

-- how many slots of an image are free
abbrev pub free_of : Geometry → List ℕ → ℕ
free_of geo image = free_slots geo.servers geo.fragment geo.slots image

-- all slots lie within the image
abbrev pub IsLarge : Geometry → List ℕ → Type 0
IsLarge geo image = slot_place geo.fragment geo.slots ≤ length image
