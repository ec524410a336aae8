-- Why there is no checkpoint.
use Rattle.std.specs.Prelude.{Bool, true, false, Result, Ok, Err}
use Rattle.zb_ckpt.specs.declared.faults.CkptFault.{CkptFault}
use Rattle.zb_ckpt.specs.declared.faults.CkptFault.TheVariants.{Foreign, NoMemory, Stopped}

-- a call of the platter failed
abbrev pub is_stopped : {T : Type 0} → Result T CkptFault → Bool
is_stopped (Ok x) = false
is_stopped (Err (Foreign field)) = false
is_stopped (Err NoMemory) = false
is_stopped (Err Stopped) = true
