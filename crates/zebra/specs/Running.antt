-- A run on its way: the rows that it read of the script, and the lines that it printed.
use Rattle.std.specs.Prelude.{◌≡◌, ◌⊎◌, ℕ, Bool, ◌+◌, ◌-◌, ◌≤◌, true, List, [], ◌∷◌, ◌++◌, length, Option, Some, None}
use Rattle.std.specs.List.{flat_map, AllByRecursion}
use Rattle.zb_types.specs.declared.calls.Call.{Call}
use Rattle.zb_types.specs.declared.geometry.Geometry.{Geometry}
use Rattle.zb_types.specs.declared.lines.Line.{Line}
use Rattle.zb_types.specs.declared.lines.Outcome.{Outcome}
use Rattle.zb_claims.specs.Text.{header_text, max_script, IsOutcome}
use Rattle.zb_claims.specs.Script.{Row, lines_in, rows_text, ended_line}
use Rattle.zb_headline.specs.Complete.{is_replied, lacks_space_alone}
use Rattle.zb_headline.specs.Need.{space_needed}
use Rattle.zb_given.specs.Given.{FitGiven, Given, script_of}
use Rattle.zb_given.specs.Gives.{Gives}
use Rattle.zb_given.specs.Loops.{IsPast}
use Rattle.zb_ample.specs.Turning.{AreInTurn}
use Rattle.zb_script.specs.Places.{Place}
use Rattle.zb_course.specs.Seen.{SeenCourse}
use Rattle.zb_running.specs.Lines.{IsAtCall}
use Rattle.zb_running.specs.Reports.{HasReport}
use Rattle.zebra.specs.declared.ending.Halted.{Halted}
use Rattle.zebra.specs.declared.reading.Ending.{Ending}
use Rattle.zebra.specs.Pending.{Pending}
use Rattle.zebra.specs.Moves.{IsPrinted, IsRead, IsTaken, PrintsUntil, Tape}
use Rattle.zebra.specs.Rows.{AreRows, EndsAt}

-- Lines of a script that were carried out, where so much had been printed at the start.

-- Between two lines: those of a script so far were given, each that has no plus has its line, and all lines were printed.
pub record IsBetween (start : List ℕ) (geo : Geometry) (script : List Line) (course : SeenCourse) (printed : List ℕ) : Type 0 where
  pub given : Given
  pub lines : List Outcome
  pub report : HasReport geo given lines course
  pub unfinished : given.finishes ≡ []
  pub past : IsPast script given lines
  pub printed_all : IsPrinted start lines course printed

-- At a call behind them: it was given too, and may not have its line yet.
pub record IsCalling (start : List ℕ) (geo : Geometry) (script : List Line) (plus : Bool) (client : ℕ) (call : Call) (course : SeenCourse) (printed : List ℕ) : Type 0 where
  pub given : Given
  pub lines : List Outcome
  pub report : HasReport geo given lines course
  pub unfinished : given.finishes ≡ []
  pub at : IsAtCall script plus client call report
  pub printed_all : IsPrinted start lines course printed

-- the lines fit what was given of a script, each may stand in a report, and by none is more wanting than space; and not even
-- that, where all was given in turn and there is ample space
pub record StandFor (geo : Geometry) (script : List Line) (given : Given) (lines : List Outcome) : Type 0 where
  pub gives : Gives script given lines
  pub fits : FitGiven given lines
  pub valid : AllByRecursion (IsOutcome geo) lines
  pub space : AllByRecursion (λ line. lacks_space_alone line ≡ true) lines
  pub ample : AreInTurn given lines → space_needed geo (script_of given) ≤ geo.slots - 4 → AllByRecursion (λ line. is_replied line ≡ true) lines

-- a run broke off behind these lines of a script
pub record IsCutOff (halted : Halted) (start : List ℕ) (geo : Geometry) (script : List Line) (printed : List ℕ) : Type 0 where
  pub given : Given
  pub lines : List Outcome
  pub stand : StandFor geo script given lines
  pub printed_until : PrintsUntil halted start lines printed

-- it broke off before a line was given, or at it
abbrev pub IsCutOffAt : Halted → List ℕ → Geometry → List Line → Line → List ℕ → Type 0
IsCutOffAt halted start geo script line printed = IsCutOff halted start geo script printed ⊎ IsCutOff halted start geo (script ++ line ∷ []) printed

-- The rows of a script.

-- where a run began, and the header that it read, with the lines before it
pub record Start : Type 0 where
  pub tape : Tape
  pub heads : List (List ℕ)
  pub geo : Geometry

-- the header with what stands before it, and these rows
abbrev pub front_of : Start → List Row → List ℕ
front_of start rows = flat_map ended_line start.heads ++ header_text start.geo ++ rows_text rows

-- the place behind these rows
abbrev pub place_of : Start → List Row → Place
place_of start rows = record { geo = Some start.geo; lines = length start.heads + 1 + length rows; used = length (front_of start rows) }

-- each row was read, its line was carried out, and all lines of the report were printed
pub record IsRunning (start : Start) (place : Place) (p : Pending) (course : SeenCourse) (now : Tape) : Type 0 where
  pub rows : List Row
  pub valid : AreRows start.geo rows
  pub reads : IsRead start.tape (front_of start rows) p now
  pub at : place ≡ place_of start rows
  pub limit : length (front_of start rows) ≤ max_script
  pub between : IsBetween start.tape.printed start.geo (lines_in rows) course now.printed

-- no row follows, or none that the program runs so far
pub record HasStopped (ending : Ending) (start : Start) (p : Pending) (course : SeenCourse) (now : Tape) : Type 0 where
  pub rows : List Row
  pub valid : AreRows start.geo rows
  pub reads : IsRead start.tape (front_of start rows) p now
  pub limit : length (front_of start rows) ≤ max_script
  pub ends : EndsAt ending (place_of start rows) p
  pub between : IsBetween start.tape.printed start.geo (lines_in rows) course now.printed

-- the run broke off
pub record IsBroken (halted : Halted) (start : Start) (now : Tape) : Type 0 where
  pub rows : List Row
  pub valid : AreRows start.geo rows
  pub reads : IsTaken start.tape (front_of start rows) now
  pub limit : length (front_of start rows) ≤ max_script
  pub cut : IsCutOff halted start.tape.printed start.geo (lines_in rows) now.printed

-- the run goes on behind a row, or its rows ended
abbrev pub GoesOn : Option Ending → Start → Place → Pending → SeenCourse → Tape → Type 0
GoesOn None start place p course now = IsRunning start place p course now
GoesOn (Some ending) start place p course now = HasStopped ending start p course now

-- The whole script was carried out, a finish has ended, and all lines were printed.
pub record IsFinal (start : List ℕ) (geo : Geometry) (script : List Line) (course : SeenCourse) (printed : List ℕ) : Type 0 where
  pub given : Given
  pub lines : List Outcome
  pub report : HasReport geo given lines course
  pub past : IsPast script given lines
  pub printed_all : IsPrinted start lines course printed
