-- What is left by zeros that are written from the front of an empty platter.
use Rattle.std.specs.Prelude.{◌≡◌, ℕ, ◌+◌, ◌/◌, List, length, slice_index, Result, OnOk}
use Rattle.zb_outside.specs.Meaning.{Meaning}
use Rattle.zb_outside.specs.Runs.{Run, IsSettled}

-- how many writes of at most 64 KiB so many zeros take
abbrev pub pieces : ℕ → ℕ
pieces size = (size + 65535) / 65536

-- so many zeros
pub record AreZeros (n : ℕ) (image : List ℕ) : Type 0 where
  pub size : length image ≡ n
  pub zeros : (i : ℕ) → slice_index image i ≡ 0

-- the platter may have held anything on the way; after Ok it has so many zeros, and no write is unsynced
pub record WipeTold {T E : Type 0} (p n : ℕ) (result : Result T E) (old new : Meaning) : Type 0 where
  pub run : Run p (λ _. Unit {0}) old new
  pub settled : OnOk result (IsSettled p new.now)
  pub zeros : OnOk result (AreZeros n (new.now.seen p))

-- the same, but for the sync
pub record ZerosTold {T E : Type 0} (p n : ℕ) (result : Result T E) (old new : Meaning) : Type 0 where
  pub run : Run p (λ _. Unit {0}) old new
  pub zeros : OnOk result (AreZeros n (new.now.seen p))
