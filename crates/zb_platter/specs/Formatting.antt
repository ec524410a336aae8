-- What is done where the platter is made anew.
use Rattle.std.specs.Prelude.{◌≡◌, ℕ, List, [], length, slice_index, Result, OnOk}
use Rattle.zb_types.specs.declared.geometry.Geometry.{Geometry}
use Rattle.zb_outside.specs.Meaning.{Meaning}
use Rattle.zb_outside.specs.Runs.{IsSettled}
use Rattle.zb_platter.specs.Standing.{SeenPlatter}

-- so many bytes, each of them zero
pub record AreZeros (count : ℕ) (bytes : List ℕ) : Type 0 where
  pub size : length bytes ≡ count
  pub each : (i : ℕ) → slice_index bytes i ≡ 0

-- after Ok the platter has these bytes alone, and no write is unsynced
pub record BeginsTold {T E : Type 0} (bytes : List ℕ) (result : Result T E) (old new : Meaning) : Type 0 where
  pub settled : OnOk result (IsSettled 0 new.now)
  pub size : OnOk result (length (new.now.seen 0) ≡ length bytes)
  pub same : OnOk result ((i : ℕ) → slice_index (new.now.seen 0) i ≡ slice_index bytes i)

-- a root whose checkpoint has these bytes in slot 0, and no entry behind it
abbrev pub first_platter : Geometry → List ℕ → SeenPlatter
first_platter geo bytes = record {
  root = record { slot = 0; geo = geo; length = length bytes; first = 1 };
  journal = record { place = 0; number = 1 };
  entries = [];
}
