-- What follows for the slots that an index is the index of.
use Rattle.std.specs.Prelude.{◌≡◌, ℕ, ◌<◌, length, None, Some}
use Rattle.zb_types.specs.declared.ids.FragId.{FragId}
use Rattle.zb_slots.specs.Slots.{Slot, Stored, free_slot, full_slot}
use Rattle.zb_slots.specs.Holding.{named, held, free_count}
use Rattle.zb_slots.specs.Laws.{NoneBut}
use Rattle.zb_index.specs.declared.spot.Spot.{Spot}
use Rattle.zb_index.specs.Free.{times}
use Rattle.zb_index.specs.Indexed.{IsIndexOf, spot_at}
use Rattle.zb_index.specs.Seen.{SeenIndex, spot_of}

-- none of the first n slots holds this name
pub record IsHeldNowhere (n : ℕ) (slots : ℕ → Slot) (id : FragId) : Type 0 where
  pub held : held slots n id ≡ None
  pub nowhere : (j : ℕ) → j < n → named id (slots j) ≡ None

-- a name that an index doesn't find is held by no slot
abbrev pub NotFoundNotHeld : Type 0
NotFoundNotHeld = (index : SeenIndex) (n : ℕ) (slots : ℕ → Slot) (id : FragId) → IsIndexOf index n slots → spot_of index id ≡ None → IsHeldNowhere n slots id

-- of the first n slots this one alone holds the name, with the spot's turn and length
pub record IsHeldAt (n : ℕ) (slots : ℕ → Slot) (id : FragId) (spot : Spot) : Type 0 where
  pub stored : Stored
  pub within : spot.slot < n
  pub full : slots spot.slot ≡ full_slot stored
  pub name : stored.id ≡ id
  pub is : spot ≡ spot_at spot.slot stored
  pub held : held slots n id ≡ Some stored
  pub alone : NoneBut n spot.slot id slots

-- a name that an index finds is held by the slot that it names, and by no other
abbrev pub FoundHeld : Type 0
FoundHeld = (index : SeenIndex) (n : ℕ) (slots : ℕ → Slot) (id : FragId) (spot : Spot) → IsIndexOf index n slots → spot_of index id ≡ Some spot → IsHeldAt n slots id spot

-- two of the first n slots that hold one name are one slot
abbrev pub NamesAreHeldOnce : Type 0
NamesAreHeldOnce = (index : SeenIndex) (n : ℕ) (slots : ℕ → Slot) (i j : ℕ) (a b : Stored) → IsIndexOf index n slots
    → i < n → j < n → slots i ≡ full_slot a → slots j ≡ full_slot b → a.id ≡ b.id → i ≡ j

-- as many slots are free as the index has free ones
abbrev pub FreeAreCounted : Type 0
FreeAreCounted = (index : SeenIndex) (n : ℕ) (slots : ℕ → Slot) → IsIndexOf index n slots → length index.free ≡ free_count slots n

-- a slot that an index has free is free
abbrev pub FreeAreFree : Type 0
FreeAreFree = (index : SeenIndex) (n : ℕ) (slots : ℕ → Slot) (j : ℕ) → IsIndexOf index n slots → 0 < times j index.free → (j < n) × (slots j ≡ free_slot)

-- an index depends on the first n slots alone
abbrev pub DependsOnItsSlots : Type 0
DependsOnItsSlots = (index : SeenIndex) (n : ℕ) (slots other : ℕ → Slot) → ((j : ℕ) → j < n → other j ≡ slots j) → IsIndexOf index n slots → IsIndexOf index n other
