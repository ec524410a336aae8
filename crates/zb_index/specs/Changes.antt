-- What each call changes, in an index and in the slots that it is the index of.
use Rattle.std.specs.Prelude.{◌≡◌, ◌≢◌, ℕ, ◌<◌, if◌then◌else◌, Option}
use Rattle.zb_cell.specs.Cell.{following}
use Rattle.zb_types.specs.declared.ids.FragId.{FragId}
use Rattle.zb_holding.specs.Carrying.{same_frag}
use Rattle.zb_slots.specs.Slots.{Slot, Stored, free_slot, full_slot}
use Rattle.zb_slots.specs.Laws.{SameBut}
use Rattle.zb_index.specs.declared.spot.Spot.{Spot}
use Rattle.zb_index.specs.Indexed.{size_of, IsIndexOf}
use Rattle.zb_index.specs.Seen.{SeenIndex, spot_of}

-- a name has this spot or none, and each other name the one that it had
abbrev pub IsPut : SeenIndex → SeenIndex → FragId → Option Spot → Type 0
IsPut before now id spot = (q : FragId) → spot_of now q ≡ (if same_frag id q then spot else spot_of before q)

-- the spot of a new fragment
abbrev pub first_spot : (slot len : ℕ) → Spot
first_spot slot len = record { slot = slot; turn = 0; len = len }

-- the same spot with another length
abbrev pub lengthened : ℕ → Spot → Spot
lengthened len spot = record { slot = spot.slot; turn = spot.turn; len = len }

-- the spot of a fragment that takes another's place, by the turn that follows
abbrev pub next_spot : (slot len : ℕ) → Spot → Spot
next_spot slot len former = record { slot = slot; turn = following former.turn; len = len }

-- slot i, of n, holds a fragment of this name, turn and length, and the other slots are the same
pub record IsFilled (n i : ℕ) (id : FragId) (turn len : ℕ) (before now : ℕ → Slot) : Type 0 where
  pub stored : Stored
  pub full : now i ≡ full_slot stored
  pub name : stored.id ≡ id
  pub turn_is : stored.turn ≡ turn
  pub len_is : size_of stored.fragment ≡ len
  pub others : SameBut n i before now

-- slot i, of n, is free, and the other slots are the same
pub record IsFreed (n i : ℕ) (before now : ℕ → Slot) : Type 0 where
  pub free : now i ≡ free_slot
  pub others : SameBut n i before now

-- slot j, of n, holds a fragment of this name, turn and length, slot i is free, and the other slots are the same
pub record IsMoved (n i j : ℕ) (id : FragId) (turn len : ℕ) (before now : ℕ → Slot) : Type 0 where
  pub stored : Stored
  pub full : now j ≡ full_slot stored
  pub name : stored.id ≡ id
  pub turn_is : stored.turn ≡ turn
  pub len_is : size_of stored.fragment ≡ len
  pub free : now i ≡ free_slot
  pub others : (k : ℕ) → k < n → k ≢ i → k ≢ j → now k ≡ before k

-- of slots that the old index is the index of, the new one is once this slot is filled
abbrev pub FollowsFill : SeenIndex → SeenIndex → (i : ℕ) → FragId → (turn len : ℕ) → Type 0
FollowsFill old new i id turn len = (n : ℕ) (before now : ℕ → Slot) → IsIndexOf old n before → IsFilled n i id turn len before now → IsIndexOf new n now

-- and once this slot is freed
abbrev pub FollowsFree : SeenIndex → SeenIndex → (i : ℕ) → Type 0
FollowsFree old new i = (n : ℕ) (before now : ℕ → Slot) → IsIndexOf old n before → IsFreed n i before now → IsIndexOf new n now

-- and once slot j is filled and slot i freed
abbrev pub FollowsMove : SeenIndex → SeenIndex → (i j : ℕ) → FragId → (turn len : ℕ) → Type 0
FollowsMove old new i j id turn len = (n : ℕ) (before now : ℕ → Slot) → IsIndexOf old n before → IsMoved n i j id turn len before now → IsIndexOf new n now
