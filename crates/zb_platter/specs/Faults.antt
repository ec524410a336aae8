-- Why tables on platter 0 don't change, or aren't read.
use Rattle.std.specs.Prelude.{Bool, true, false, Result, Ok, Err}
use Rattle.zb_platter.specs.declared.faults.NodeFault.{NodeFault}
use Rattle.zb_platter.specs.declared.faults.NodeFault.TheVariants.{Worn, NoMemory, Stopped}
use Rattle.zb_journal.specs.declared.faults.JournalFault.{JournalFault}
use Rattle.zb_journal.specs.declared.faults.JournalFault.TheVariants.{Full, Bad, Worn as NoNumber, NoMemory as NoRoom, Stopped as Stop}
use Rattle.zb_platter.specs.declared.faults.ReadFault.{ReadFault}
use Rattle.zb_platter.specs.declared.faults.ReadFault.TheVariants.{Foreign, NoMemory as Lacks, Stopped as Stops}

-- a call of the platter failed
abbrev pub is_stopped : {T : Type 0} → Result T NodeFault → Bool
is_stopped (Ok x) = false
is_stopped (Err (Worn field)) = false
is_stopped (Err NoMemory) = false
is_stopped (Err Stopped) = true

-- a call of the platter failed
abbrev pub has_stopped : {T : Type 0} → Result T ReadFault → Bool
has_stopped (Ok x) = false
has_stopped (Err (Foreign field)) = false
has_stopped (Err Lacks) = false
has_stopped (Err Stops) = true

-- what the journal's refusal is to the tables; a full journal is none, since the place is made before
abbrev pub fault_of : JournalFault → NodeFault
fault_of (Full place) = NoMemory
fault_of (Bad place) = NoMemory
fault_of NoNumber = Worn 2
fault_of NoRoom = NoMemory
fault_of Stop = Stopped
