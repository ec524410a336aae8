-- What is done where bytes are written behind all that a slot's header counts, and its header is set then.
use Rattle.std.specs.Prelude.{◌≡◌, ◌⊎◌, ℕ, ◌+◌, ◌<◌, ◌≤◌, List, length, slice_index, Result, OnOk, Some}
use Rattle.zb_outside.specs.Meaning.{Meaning}
use Rattle.zb_outside.specs.Ranges.{SameBeside}
use Rattle.zb_outside.specs.Runs.{Run, IsSettled}
use Rattle.zb_cell.specs.Cell.{bytes_at}
use Rattle.zb_holding.specs.Fragments.{Fragment, share_fragment, parity_fragment}
use Rattle.zb_slots.specs.declared.header.Header.{Header}
use Rattle.zb_slots.specs.Headers.{MayStand}
use Rattle.zb_slots.specs.Slots.{Slot, bad_slot, free_slot, full_slot, shown, slot_of}

-- the body of a fragment
abbrev pub body_of : Fragment → List ℕ
body_of (share_fragment bytes) = bytes
body_of (parity_fragment lengths bytes) = bytes

-- up to where the bytes of a slot count
abbrev pub end_of : Slot → ℕ
end_of bad_slot = 128
end_of free_slot = 128
end_of (full_slot stored) = 192 + length (body_of stored.fragment)

-- bytes may be written at this place of the slot, and its header set to this one
pub record MayFill (n f place at : ℕ) (bytes : List ℕ) (header : Header) (old : List ℕ) : Type 0 where
  pub few : n ≤ 16
  pub stands : MayStand n f header
  pub behind : 128 ≤ at
  pub uncounted : end_of (slot_of n f old place) ≤ at
  pub within : at + length bytes ≤ 192 + f

-- the slot has this header and these bytes, and what stood behind the old header up to them
pub record Filled (n f place at : ℕ) (bytes : List ℕ) (header : Header) (old new : List ℕ) : Type 0 where
  pub slot : slot_of n f new place ≡ shown n (bytes_at new place) (Some header)
  pub below : (i : ℕ) → 128 ≤ i → i < at → bytes_at new place i ≡ bytes_at old place i
  pub put : (i : ℕ) → i < length bytes → bytes_at new place (at + i) ≡ slice_index bytes i

-- the slot is as before or filled so, and the other bytes are as before
pub record FormerOrFilled (n f place at : ℕ) (bytes : List ℕ) (header : Header) (old new : List ℕ) : Type 0 where
  pub outside : SameBeside place (192 + f) old new
  pub either : (slot_of n f new place ≡ slot_of n f old place) ⊎ Filled n f place at bytes header old new

-- on the way the slot is as before or filled so; after Ok it is filled, and no write is unsynced
pub record FillTold {T E : Type 0} (n f p place at : ℕ) (bytes : List ℕ) (header : Header) (result : Result T E) (old new : Meaning) : Type 0 where
  pub run : Run p (FormerOrFilled n f place at bytes header (old.now.seen p)) old new
  pub settled : OnOk result (IsSettled p new.now)
  pub filled : OnOk result (Filled n f place at bytes header (old.now.seen p) (new.now.seen p))
