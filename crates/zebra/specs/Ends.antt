-- How a run ends.
use Rattle.std.specs.Prelude.{◌≡◌, ◌≢◌, ◌⊎◌, ℕ, ◌+◌, ◌-◌, ◌≤◌, ◌==◌, Bool, true, false, not, List, [], ◌∷◌, ◌++◌, length, codes, String, IsTrue, Result, Ok, Err}
use Rattle.std.specs.String.{string_bytes}
use Rattle.std.specs.Str.{bytes_eq}
use Rattle.std.specs.List.{AllByRecursion, list_any}
use Rattle.zb_types.specs.declared.geometry.Geometry.{Geometry}
use Rattle.zb_types.specs.declared.lines.Line.{Line}
use Rattle.zb_types.specs.declared.lines.Outcome.{Outcome}
use Rattle.zb_claims.specs.Text.{report_text, tree_text, spelled, IsLine, IsOutcome, max_script}
use Rattle.zb_claims.specs.Points.{is_begun, tree_at}
use Rattle.zb_claims.specs.Fits.{FitLines}
use Rattle.zb_claims.specs.Script.{Row, lines_in, whole, Begins}
use Rattle.zb_claims.specs.Runs.{TellsTree, Prints, RunsScript, RunsNone, all_ended, is_unfinished, last_line, end_line, script_fault, read_fault, out_of_memory}
use Rattle.zb_headline.specs.Complete.{is_beside, is_replied, lacks_space_alone}
use Rattle.zb_headline.specs.Need.{space_needed}
use Rattle.zb_given.specs.Given.{Given}
use Rattle.zb_outside.specs.Streams.{Streams, Rose}
use Rattle.zebra.specs.declared.ending.Halted.{Halted}
use Rattle.zebra.specs.declared.ending.Halted.TheVariants.{Memory, ReadFault, WriteFault}
use Rattle.zebra.specs.declared.reading.Ending.{Ending}
use Rattle.zebra.specs.declared.reading.Ending.TheVariants.{Bad, Later, End}
use Rattle.zebra.specs.declared.last.Last.{Last}
use Rattle.zebra.specs.Pending.{Pending}
use Rattle.zebra.specs.Moves.{Tape, IsRead, TakesNone}
use Rattle.zebra.specs.Rows.{is_built, is_built_row, AreRows, EndsAt}
use Rattle.zebra.specs.Running.{Start, StandFor, front_of, place_of}

-- the last line of a run that met a form that isn't built so far
abbrev pub later_line : ℕ → List ℕ
later_line number = last_line (codes "later") number

-- The end of a script that was read whole: each call has its last line, and the tree of the lines stands behind, with a status
-- that tells whether each call was answered.
pub record IsEnd (script : List Line) (lines : List Outcome) (last : Last) : Type 0 where
  pub ended : all_ended lines [] script ≡ true
  pub status : (last.status ≡ 0) ⊎ (last.status ≡ 7)
  pub unfinished : list_any is_unfinished lines ≡ not (last.status == 0)
  pub text : last.text.items ≡ tree_text (tree_at script lines) ++ end_line last.status

-- what stands behind the lines of the calls
abbrev pub IsLast : Ending → List Line → List Outcome → Last → Type 0
IsLast (Bad number) script lines last = (last.status ≡ 2) × (last.text.items ≡ script_fault number)
IsLast (Later number) script lines last = (last.status ≡ 10) × (last.text.items ≡ later_line number)
IsLast End script lines last = IsEnd script lines last

-- all rows were run and the lines printed, and this stands behind them
pub record HasEnded (start : Start) (tail : Last) (p : Pending) (now : Tape) : Type 0 where
  pub rows : List Row
  pub valid : AreRows start.geo rows
  pub reads : IsRead start.tape (front_of start rows) p now
  pub limit : length (front_of start rows) ≤ max_script
  pub given : Given
  pub lines : List Outcome
  pub stand : StandFor start.geo (lines_in rows) given lines
  pub begun : is_begun (lines_in rows) lines (length (lines_in rows)) ≡ true
  pub printed : now.printed ≡ start.tape.printed ++ report_text lines
  pub ending : Ending
  pub ends : EndsAt ending (place_of start rows) p
  pub last : IsLast ending (lines_in rows) lines tail

-- these last bytes were printed with this status, or a front of them with status 4
pub record PutsLast (bytes : List ℕ) (end status : ℕ) (before after : Tape) : Type 0 where
  pub none : TakesNone before after
  pub printed : List ℕ
  pub told : after.printed ≡ before.printed ++ printed
  pub prints : Prints status printed end bytes

-- the last line of a run that broke off, where there is one
abbrev pub PutsHalted : Halted → ℕ → Tape → Tape → Type 0
PutsHalted Memory status before after = PutsLast out_of_memory 6 status before after
PutsHalted ReadFault status before after = PutsLast read_fault 3 status before after
PutsHalted WriteFault status before after = (status ≡ 4) × TakesNone before after × (after.printed ≡ before.printed)

-- the last line of a script without a header that the program runs, or that memory ran out
abbrev pub PutsFault : {E : Type 0} → Result Last E → ℕ → Tape → Tape → Type 0
PutsFault (Ok last) status before after = PutsLast last.text.items last.status status before after
PutsFault (Err e) status before after = PutsHalted Memory status before after

-- a run of calls and clients' steps alone: each line of its report is a reply, says that a call is kept, or that space is wanting;
-- and where one call comes after the other, with no step line, and there is ample space, each final line is a reply, and no call
-- is unfinished
pub record RunsBuilt (status : ℕ) (bytes printed : List ℕ) : Type 0 where
  pub run : RunsScript whole TellsTree status bytes printed
  pub built : AllByRecursion (λ row. IsTrue (is_built_row row)) run.rows
  pub space : AllByRecursion (λ line. lacks_space_alone line ≡ true) run.all
  pub ample : list_any is_beside (lines_in run.rows) ≡ false → space_needed run.geo (lines_in run.rows) ≤ run.geo.slots - 4
      → AllByRecursion (λ line. is_replied line ≡ true) run.all × (status ≢ 7)

-- the line behind these rows isn't built, the rows were run, and the last line tells its number
pub record StopsAtLine (status : ℕ) (bytes printed : List ℕ) : Type 0 where
  pub geo : Geometry
  pub rows : List Row
  pub rest : List ℕ
  pub begins : Begins whole bytes geo rows rest
  pub built : AllByRecursion (λ row. IsTrue (is_built_row row)) rows
  pub line : Line
  pub valid_line : IsLine geo line
  pub later : is_built line ≡ false
  pub after : List ℕ
  pub next : rest ≡ spelled line ++ after
  pub short : length bytes ≤ max_script + length after
  pub all : List Outcome
  pub valid : AllByRecursion (IsOutcome geo) all
  pub fits : FitLines true (lines_in rows) all
  pub space : AllByRecursion (λ line. lacks_space_alone line ≡ true) all
  pub reached : is_begun (lines_in rows) all (length (lines_in rows)) ≡ true
  pub prints : Prints status printed 10 (report_text all ++ later_line (length begins.heads + length rows + 2))

-- what a run prints so far, for these bytes of a script
abbrev pub RunsSoFar : ℕ → List ℕ → List ℕ → Type 0
RunsSoFar status bytes printed = RunsBuilt status bytes printed ⊎ (RunsNone whole status bytes printed ⊎ StopsAtLine status bytes printed)

-- what a run took and printed since this time is what the program promises, of the bytes taken and of the whole script
pub record RunsFrom (status : ℕ) (start now : Tape) : Type 0 where
  pub took : List ℕ
  pub printed : List ℕ
  pub taken : now.taken ≡ start.taken ++ took
  pub left : start.left ≡ took ++ now.left
  pub told : now.printed ≡ start.printed ++ printed
  pub runs : RunsSoFar status took printed
  pub script : RunsSoFar status start.left printed

-- a status that tells a fault comes only where the count of such faults rose, and no count falls
pub record IsCaused (status : ℕ) (before after : Streams) : Type 0 where
  pub reads_later : before.read_faults ≤ after.read_faults
  pub writes_later : before.write_faults ≤ after.write_faults
  pub read : status ≡ 3 → Rose before.read_faults after.read_faults
  pub write : status ≡ 4 → Rose before.write_faults after.write_faults

-- the statuses of a run
abbrev pub IsStatus : ℕ → Type 0
IsStatus status = (status ≡ 0) ⊎ ((status ≡ 7) ⊎ ((status ≡ 2) ⊎ ((status ≡ 3) ⊎ ((status ≡ 4) ⊎ ((status ≡ 6) ⊎ (status ≡ 10))))))

-- the one word `run`
abbrev pub is_run : {Z : Type 0} → List (String Z) → Bool
is_run [] = false
is_run (word ∷ []) = bytes_eq (string_bytes word) (codes "run")
is_run (word ∷ (other ∷ more)) = false
