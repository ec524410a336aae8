-- What is done where bytes are put behind a closed gate, which is then opened.
use Rattle.std.specs.Prelude.{◌≡◌, ◌≢◌, ◌⊎◌, ℕ, ◌+◌, ◌≤◌, ◌==◌, if◌then◌else◌, List, length, slice_index, Result, OnOk}
use Rattle.zb_outside.specs.Meaning.{Meaning, Standing}
use Rattle.zb_outside.specs.Ranges.{SameBeside, Reads}
use Rattle.zb_outside.specs.Runs.{Run, IsSettled}

-- no write of platter 0 is unsynced, and the gate and these bytes lie within it at this place
pub record PutReady (at : ℕ) (bytes : List ℕ) (s : Standing) : Type 0 where
  pub settled : IsSettled 0 s
  pub within : at + 1 + length bytes ≤ length (s.seen 0)

-- these bytes stand behind an open gate
abbrev pub IsPut : ℕ → List ℕ → List ℕ → Type 0
IsPut at bytes image = (slice_index image at ≡ 1) × Reads image (at + 1) bytes

-- all is as before, or the gate is closed, or the bytes stand behind the open gate; the other bytes are as before
pub record Putting (at : ℕ) (bytes old new : List ℕ) : Type 0 where
  pub outside : SameBeside at (1 + length bytes) old new
  pub either : SameBeside at 0 old new ⊎ ((slice_index new at ≢ 1) ⊎ IsPut at bytes new)

-- on the way that holds; after Ok the bytes stand behind the open gate, and no write is unsynced
pub record PutTold {T E : Type 0} (at : ℕ) (bytes : List ℕ) (result : Result T E) (old new : Meaning) : Type 0 where
  pub run : Run 0 (Putting at bytes (old.now.seen 0)) old new
  pub settled : OnOk result (IsSettled 0 new.now)
  pub put : OnOk result (IsPut at bytes (new.now.seen 0))

-- how many writes it takes to open a gate anew: one more where it stands open and is to be closed
abbrev pub writes_at : List ℕ → ℕ → ℕ
writes_at image at = if slice_index image at == 1 then 3 else 2
