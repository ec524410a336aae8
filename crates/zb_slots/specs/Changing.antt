-- What the calls on one slot do, moment by moment.
use Rattle.std.specs.Prelude.{◌≡◌, ◌⊎◌, ℕ, ◌+◌, ◌≤◌, List, length, Result, OnOk}
use Rattle.zb_outside.specs.Meaning.{Meaning, Standing}
use Rattle.zb_outside.specs.Ranges.{SameBeside}
use Rattle.zb_outside.specs.Runs.{Run, IsSettled}
use Rattle.zb_types.specs.declared.ids.FragId.{FragId}
use Rattle.zb_holding.specs.Fragments.{share_fragment, parity_fragment}
use Rattle.zb_slots.specs.Slots.{Slot, full_slot, slot_of}

-- a slot that holds this share
abbrev pub share_slot : FragId → List ℕ → Slot
share_slot id bytes = full_slot (record { id = id; turn = 0; fragment = share_fragment bytes })

-- a slot that holds this parity
abbrev pub parity_slot : FragId → (turn : ℕ) → (lengths bytes : List ℕ) → Slot
parity_slot id turn lengths bytes = full_slot (record { id = id; turn = turn; fragment = parity_fragment lengths bytes })

-- no write of the platter is unsynced, and a slot with room for f bytes lies within it at this place
pub record IsReady (p place f : ℕ) (s : Standing) : Type 0 where
  pub settled : IsSettled p s
  pub within : place + (192 + f) ≤ length (s.seen p)

-- the slot at this place is as before or this one, and the other bytes are as before
pub record FormerOrThis (n f place : ℕ) (this : Slot) (old new : List ℕ) : Type 0 where
  pub outside : SameBeside place (192 + f) old new
  pub either : (slot_of n f new place ≡ slot_of n f old place) ⊎ (slot_of n f new place ≡ this)

-- on the way the slot is as before or this one; after Ok it is this one, and no write is unsynced
pub record SlotTold {T E : Type 0} (n f p place : ℕ) (this : Slot) (result : Result T E) (old new : Meaning) : Type 0 where
  pub run : Run p (FormerOrThis n f place this (old.now.seen p)) old new
  pub settled : OnOk result (IsSettled p new.now)
  pub slot : OnOk result (slot_of n f (new.now.seen p) place ≡ this)
