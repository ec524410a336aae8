-- Why a cell has no answer.
use Rattle.std.specs.Prelude.{Bool, true, false, Result, Ok, Err}
use Rattle.zb_cell.specs.declared.cell.CellFault.{CellFault}
use Rattle.zb_cell.specs.declared.cell.CellFault.TheVariants.{Blank, Stopped}

-- a call of the platter failed
abbrev pub is_stopped : {T : Type 0} → Result T CellFault → Bool
is_stopped (Ok x) = false
is_stopped (Err Blank) = false
is_stopped (Err Stopped) = true
