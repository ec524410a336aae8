-- What the write of a checkpoint does, moment by moment.
use Rattle.std.specs.Prelude.{◌≡◌, ◌⊎◌, ◌<◌, ◌≤◌, ◌==◌, if◌then◌else◌, ℕ, List, length, slice_index, Result, OnOk}
use Rattle.zb_outside.specs.Meaning.{Meaning}
use Rattle.zb_outside.specs.Runs.{Run, IsSettled}
use Rattle.zb_cell.specs.Cell.{value}
use Rattle.zb_ckpt.specs.declared.root.Root.{Root}
use Rattle.zb_ckpt.specs.Says.{place_of, BytesStand, Reaches, Holds}

-- the slot that isn't this one
abbrev pub other_slot : ℕ → ℕ
other_slot slot = if slot == 0 then 1 else 0

-- the root that a write makes of this one: its bytes stand in the other slot, and it keeps the system and the number
abbrev pub next_root : Root → List ℕ → Root
next_root root bytes = record root { slot = other_slot root.slot; length = length bytes }

-- what stands before the pages and in those of this slot is as before, and no byte is gone
pub record KeepsSlot (slot : ℕ) (old new : List ℕ) : Type 0 where
  pub no_shorter : length old ≤ length new
  pub front : (i : ℕ) → i < 1048576 → i < length old → slice_index new i ≡ slice_index old i
  pub pages : (i : ℕ) → place_of slot i < length old → slice_index new (place_of slot i) ≡ slice_index old (place_of slot i)

-- the root cell is as before, and so is the checkpoint of a root that names this slot
pub record KeepsFormer (slot : ℕ) (old new : List ℕ) : Type 0 where
  pub cell : value new 0 ≡ value old 0
  pub holds : (was : Root) (bytes : List ℕ) → was.slot ≡ slot → Holds old was bytes → Holds new was bytes

-- the former root with its checkpoint, or this one with these bytes; what stands between the root cell and the pages is as before
pub record FormerOrNew (slot : ℕ) (root : Root) (bytes old new : List ℕ) : Type 0 where
  pub no_shorter : length old ≤ length new
  pub between : (i : ℕ) → 128 ≤ i → i < 1048576 → i < length old → slice_index new i ≡ slice_index old i
  pub either : KeepsFormer slot old new ⊎ Holds new root bytes

-- on the way the platter holds the former or the new; after Ok it holds the new, and no write is unsynced
pub record WriteTold {T E : Type 0} (slot : ℕ) (root : Root) (bytes : List ℕ) (result : Result T E) (old new : Meaning) : Type 0 where
  pub run : Run 0 (FormerOrNew slot root bytes (old.now.seen 0)) old new
  pub settled : OnOk result (IsSettled 0 new.now)
  pub holds : OnOk result (Holds (new.now.seen 0) root bytes)

-- of these bytes the first n stand in the pages of this slot, and the platter reaches as far
pub record StandUpTo (n slot : ℕ) (bytes image : List ℕ) : Type 0 where
  pub stand : (i : ℕ) → i < n → i < length bytes → slice_index image (place_of slot i) ≡ slice_index bytes i
  pub reaches : (i : ℕ) → i < n → i < length bytes → place_of slot i < length image

-- what is done where bytes are written into the pages of a slot: the other one and all before the pages stay; after Ok they stand
pub record FillTold {T E : Type 0} (slot : ℕ) (bytes : List ℕ) (result : Result T E) (old new : Meaning) : Type 0 where
  pub run : Run 0 (KeepsSlot (other_slot slot) (old.now.seen 0)) old new
  pub stand : OnOk result (BytesStand (new.now.seen 0) slot bytes)
  pub reaches : OnOk result (Reaches (new.now.seen 0) slot bytes)

-- and no write is unsynced then
pub record FillSyncedTold {T E : Type 0} (slot : ℕ) (bytes : List ℕ) (result : Result T E) (old new : Meaning) : Type 0 where
  pub filled : FillTold slot bytes result old new
  pub settled : OnOk result (IsSettled 0 new.now)
