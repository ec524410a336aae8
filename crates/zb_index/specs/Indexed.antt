-- When an index is that of some slots.
use Rattle.std.specs.Prelude.{◌≡◌, ◌≢◌, ℕ, ◌<◌, nat_lt, if◌then◌else◌, length, Option, Some}
use Rattle.zb_types.specs.declared.ids.FragId.{FragId}
use Rattle.zb_holding.specs.Fragments.{Fragment, share_fragment, parity_fragment}
use Rattle.zb_slots.specs.Slots.{Slot, Stored, bad_slot, full_slot}
use Rattle.zb_slots.specs.Holding.{free_in}
use Rattle.zb_index.specs.declared.spot.Spot.{Spot}
use Rattle.zb_index.specs.Free.{times}
use Rattle.zb_index.specs.Seen.{SeenIndex, spot_of}

-- how many bytes a share or a parity has
abbrev pub size_of : Fragment → ℕ
size_of (share_fragment bytes) = length bytes
size_of (parity_fragment lengths bytes) = length bytes

-- where a fragment stands that slot j holds
abbrev pub spot_at : ℕ → Stored → Spot
spot_at j stored = record { slot = j; turn = stored.turn; len = size_of stored.fragment }

-- a slot holds a fragment of this name, and the spot says which slot, with which turn and length
pub record StandsAt (n : ℕ) (slots : ℕ → Slot) (id : FragId) (spot : Spot) : Type 0 where
  pub stored : Stored
  pub within : spot.slot < n
  pub full : slots spot.slot ≡ full_slot stored
  pub name : stored.id ≡ id
  pub is : spot ≡ spot_at spot.slot stored

-- names with their spots, and how often each slot is free, agree with the first n slots: none is bad, each name stands
-- where it is held, each full slot's name is held there, and each free slot is free once
pub record Agree (spots : FragId → Option Spot) (frees : ℕ → ℕ) (n : ℕ) (slots : ℕ → Slot) : Type 0 where
  pub good : (j : ℕ) → j < n → slots j ≢ bad_slot
  pub stands : (id : FragId) (spot : Spot) → spots id ≡ Some spot → StandsAt n slots id spot
  pub listed : (j : ℕ) (stored : Stored) → j < n → slots j ≡ full_slot stored → spots stored.id ≡ Some (spot_at j stored)
  pub free : (j : ℕ) → frees j ≡ (if nat_lt j n then free_in (slots j) else 0)

-- the index is that of the first n slots, which are tidy: none is bad, and each name is held once
abbrev pub IsIndexOf : SeenIndex → ℕ → (ℕ → Slot) → Type 0
IsIndexOf index n slots = Agree (spot_of index) (λ j. times j index.free) n slots
