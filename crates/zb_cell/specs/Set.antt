-- What `set` does, moment by moment.
use Rattle.std.specs.Prelude.{◌≡◌, ◌≢◌, ◌⊎◌, ◌==◌, ◌+◌, ◌≤◌, ℕ, Bool, List, length, slice_index, Result, OnOk, Some}
use Rattle.zb_outside.specs.Meaning.{Meaning, Standing}
use Rattle.zb_outside.specs.Ranges.{SameBeside}
use Rattle.zb_outside.specs.Runs.{Run, IsSettled}
use Rattle.zb_cell.specs.Cell.{value, bytes_at, copy_for, turn_for, IsBody}

-- the cell holds the former value or this one, and the other bytes are as before
pub record FormerOrNew (place : ℕ) (payload old new : List ℕ) : Type 0 where
  pub outside : SameBeside place 128 old new
  pub either : (value new place ≡ value old place) ⊎ (value new place ≡ Some payload)

-- the copy that a change of the old cell goes to is open and has this value and the turn due, and every other byte is as before
pub record HoldsCopy (place : ℕ) (payload old new : List ℕ) : Type 0 where
  pub gate : slice_index new (place + copy_for (bytes_at old place)) ≡ 1
  pub body : IsBody (turn_for (bytes_at old place)) payload (bytes_at new (place + copy_for (bytes_at old place) + 1))
  pub beside : SameBeside (place + copy_for (bytes_at old place)) 64 old new

-- on the way the cell holds the former value or this one; after Ok it holds this one, and no write is unsynced
pub record SetTold {T E : Type 0} (p place : ℕ) (payload : List ℕ) (result : Result T E) (old new : Meaning) : Type 0 where
  pub run : Run p (FormerOrNew place payload (old.now.seen p)) old new
  pub settled : OnOk result (IsSettled p new.now)
  pub value : OnOk result (value (new.now.seen p) place ≡ Some payload)
  pub copy : OnOk result (HoldsCopy place payload (old.now.seen p) (new.now.seen p))

-- the gate at this place is as it was, or closed
pub record Closing (at : ℕ) (old new : List ℕ) : Type 0 where
  pub outside : SameBeside at 1 old new
  pub gate : (slice_index new at ≡ slice_index old at) ⊎ (slice_index new at ≢ 1)

-- on the way the gate is as it was or closed; after Ok it is closed, and no write is unsynced
pub record CloseTold {T E : Type 0} (p at : ℕ) (result : Result T E) (old new : Meaning) : Type 0 where
  pub run : Run p (Closing at (old.now.seen p)) old new
  pub settled : OnOk result (IsSettled p new.now)
  pub shut : OnOk result (slice_index (new.now.seen p) at ≢ 1)
  pub outside : OnOk result (SameBeside at 1 (old.now.seen p) (new.now.seen p))

-- no write is unsynced, the gate at this place lies within the platter, and it is open just where we think so
pub record IsReady (p at : ℕ) (is_open : Bool) (s : Standing) : Type 0 where
  pub settled : IsSettled p s
  pub within : at + 1 ≤ length (s.seen p)
  pub gate : is_open ≡ (slice_index (s.seen p) at == 1)
