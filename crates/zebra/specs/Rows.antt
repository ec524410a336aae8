-- The rows of a script that the program runs so far, and what the pending bytes begin with.
use Rattle.std.specs.Prelude.{◌≡◌, ◌≢◌, ℕ, ◌+◌, ◌<◌, Bool, true, false, List, [], ◌++◌, length, Option, IsTrue}
use Rattle.std.specs.List.{AllByRecursion}
use Rattle.zb_types.specs.declared.geometry.Geometry.{Geometry}
use Rattle.zb_types.specs.declared.nodes.Node.TheVariants.{Client}
use Rattle.zb_types.specs.declared.lines.Line.{Line}
use Rattle.zb_types.specs.declared.lines.Line.TheVariants.{Call as CallLine, Job as JobLine, Steps, StepTo, Event as EventLine}
use Rattle.zb_claims.specs.Text.{spelled, max_script}
use Rattle.zb_claims.specs.Script.{Row, skipped, said, is_comment, IsRow, ended_line}
use Rattle.zb_script.specs.Places.{Place, MayStand, IsFront, IsLineHere}
use Rattle.zebra.specs.Pending.{Pending}
use Rattle.zebra.specs.declared.reading.Ending.{Ending}
use Rattle.zebra.specs.declared.reading.Ending.TheVariants.{End, Bad, Later}
use Rattle.zebra.specs.declared.reading.Next.{Next}
use Rattle.zebra.specs.declared.reading.Next.TheVariants.{Run, Skipped, Ended}
use Rattle.zebra.specs.declared.reading.Action.{Action}
use Rattle.zebra.specs.declared.reading.Action.TheVariants as action

-- a call, or a step line of a client
abbrev pub is_built : Line → Bool
is_built (CallLine plus client call) = true
is_built (JobLine plus job) = false
is_built (Steps (Client client) count) = true
is_built (Steps actor count) = false
is_built (StepTo (Client client) kind) = true
is_built (StepTo actor kind) = false
is_built (EventLine event) = false

-- an empty line, a comment, or such a line
abbrev pub is_built_row : Row → Bool
is_built_row (skipped bytes) = true
is_built_row (said line) = is_built line

-- valid rows that the program runs so far
pub record AreRows (geo : Geometry) (rows : List Row) : Type 0 where
  pub valid : AllByRecursion (IsRow geo) rows
  pub built : AllByRecursion (λ row. IsTrue (is_built_row row)) rows

-- whatever else the script has, nothing that may stand behind so many bytes stands here, within the limit
abbrev pub NoRow : Option Geometry → ℕ → Pending → Type 0
NoRow at used p = (text more after : List ℕ) → (p.ended ≡ true → more ≡ []) → MayStand at text → p.rest ++ more ≡ text ++ after → max_script < used + length text

-- bytes are pending that begin with no row
pub record IsBadLine (place : Place) (p : Pending) : Type 0 where
  pub some : p.rest ≢ []
  pub none : NoRow place.geo place.used p

-- the line of a form that isn't built so far is pending
pub record IsLaterLine (place : Place) (p : Pending) : Type 0 where
  pub line : Line
  pub valid : IsLineHere place.geo line
  pub later : is_built line ≡ false
  pub len : ℕ
  pub front : IsFront place p.rest (spelled line) len

-- no byte is pending, and none comes
pub record IsAtEnd (p : Pending) : Type 0 where
  pub none : p.rest ≡ []
  pub ended : p.ended ≡ true

-- where the rows end
abbrev pub EndsAt : Ending → Place → Pending → Type 0
EndsAt End place p = IsAtEnd p
EndsAt (Bad number) place p = (number ≡ place.lines + 1) × IsBadLine place p
EndsAt (Later number) place p = (number ≡ place.lines + 1) × IsLaterLine place p

-- the line of what the program carries out
abbrev pub line_of : Action → Line
line_of (action.Call plus client call) = CallLine plus client call
line_of (action.Steps client count) = Steps (Client client) count
line_of (action.Until client kind) = StepTo (Client client) kind

-- what the pending bytes begin with
abbrev pub NextIs : Place → Pending → Next → Type 0
NextIs place p (Run done len) = IsLineHere place.geo (line_of done) × IsFront place p.rest (spelled (line_of done)) len
NextIs place p (Skipped len) = (text : List ℕ) × IsTrue (is_comment text) × IsFront place p.rest (ended_line text) len
NextIs place p (Ended ending) = EndsAt ending place p

-- behind a row of so many bytes
abbrev pub moved : Place → ℕ → Place
moved place len = record { geo = place.geo; lines = place.lines + 1; used = place.used + len }

-- how far the script's reader moves over a row
abbrev pub MovesOn : Place → Next → Place → Type 0
MovesOn before (Run done len) after = after ≡ moved before len
MovesOn before (Skipped len) after = after ≡ moved before len
MovesOn before (Ended ending) after = Unit {0}

-- what a line asks for, if the program runs such a line so far
abbrev pub next_of : ℕ → Line → ℕ → Next
next_of number (CallLine plus client call) len = Run (action.Call plus client call) len
next_of number (JobLine plus job) len = Ended (Later number)
next_of number (Steps (Client client) count) len = Run (action.Steps client count) len
next_of number (Steps actor count) len = Ended (Later number)
next_of number (StepTo (Client client) kind) len = Run (action.Until client kind) len
next_of number (StepTo actor kind) len = Ended (Later number)
next_of number (EventLine event) len = Ended (Later number)
