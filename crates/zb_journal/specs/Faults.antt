-- Why the journal isn't read, or takes no entry.
use Rattle.std.specs.Prelude.{Bool, true, false, Result, Ok, Err}
use Rattle.zb_journal.specs.declared.faults.JournalFault.{JournalFault}
use Rattle.zb_journal.specs.declared.faults.JournalFault.TheVariants.{Full, Bad, Worn, NoMemory, Stopped}

-- a call of the platter failed
abbrev pub is_stopped : {T : Type 0} → Result T JournalFault → Bool
is_stopped (Ok x) = false
is_stopped (Err (Full place)) = false
is_stopped (Err (Bad place)) = false
is_stopped (Err Worn) = false
is_stopped (Err NoMemory) = false
is_stopped (Err Stopped) = true
