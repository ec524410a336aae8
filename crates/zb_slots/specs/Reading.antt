-- What calls that read a platter leave of it, and when one of them failed.
use Rattle.std.specs.Prelude.{◌≡◌, ℕ, Bool, true, false, List, Result, Ok, Err}
use Rattle.zb_outside.specs.Meaning.{Meaning}
use Rattle.zb_outside.specs.Runs.{Run}
use Rattle.zb_slots.specs.declared.read_fault.ReadFault.{ReadFault}
use Rattle.zb_slots.specs.declared.read_fault.ReadFault.TheVariants.{NoMemory, Stopped}

-- a read of platter p gives what it gave, and a crash on the way or now leaves of it what it could have left before
pub record LeftAlone (p : ℕ) (old new : Meaning) : Type 0 where
  pub run : Run p (old.now.may_leave p) old new
  pub seen : new.now.seen p ≡ old.now.seen p
  pub left : (image : List ℕ) → new.now.may_leave p image → old.now.may_leave p image

-- a call of the platter failed
abbrev pub is_stopped : {T : Type 0} → Result T ReadFault → Bool
is_stopped (Ok x) = false
is_stopped (Err NoMemory) = false
is_stopped (Err Stopped) = true
