-- A program's loop over the lines of a script: what it keeps, and how each thing that it does keeps that.
use Rattle.std.specs.Prelude.{◌≡◌, ◌≢◌, ℕ, Bool, true, false, List, [], ◌∷◌, ◌++◌, length, Option, Some}
use Rattle.std.specs.List.{list_any, AllByRecursion}
use Rattle.zb_types.specs.declared.calls.Call.{Call}
use Rattle.zb_types.specs.declared.lines.Line.{Line}
use Rattle.zb_types.specs.declared.lines.Line.TheVariants.{Call as CallLine}
use Rattle.zb_types.specs.declared.lines.Outcome.{Outcome}
use Rattle.zb_claims.specs.Points.{Subject, calls, is_about, is_of_client, has_plus, subject_asked, is_begun}
use Rattle.zb_given.specs.Given.{Given, none_given, with_item, with_finish, FitGiven}
use Rattle.zb_given.specs.Calls.{LookedUp, IsAtWork}
use Rattle.zb_given.specs.Gives.{is_item, with_plus, Gives}
use Rattle.zb_given.specs.Telling.{StepTells, LooksNow}
use Rattle.zb_given.specs.Ends.{HaveLines}

-- Between two lines of a script: it gave those before, and each of them that has no plus has its line.
pub record IsPast (script : List Line) (given : Given) (lines : List Outcome) : Type 0 where
  pub gives : Gives script given lines
  pub begun : is_begun script lines (length script) ≡ true

-- At a line behind these: it gave that too, which may not have its line yet.
pub record IsAt (script : List Line) (line : Line) (given : Given) (lines : List Outcome) : Type 0 where
  pub gives : Gives (script ++ line ∷ []) given lines
  pub begun : is_begun script lines (length script) ≡ true

-- at the start nothing was given, and no line stands
pub record IsFirst : Type 0 where
  pub past : IsPast [] none_given []
  pub fit : FitGiven none_given []

-- the next call, job or event is given
abbrev pub GoesTo : Type 0
GoesTo = (script : List Line) (given : Given) (lines : List Outcome) (line : Line) → is_item line ≡ true → given.finishes ≡ [] → FitGiven given lines → IsPast script given lines → IsAt script line (with_item given (with_plus line) (length lines)) lines

-- a read of its client that is at work then isn't that call
abbrev pub LooksFirst : Type 0
LooksFirst = (given : Given) (lines : List Outcome) (client at : ℕ) (call : Call) (read : Option LookedUp) → IsAtWork given lines client read → LooksNow (with_item given (CallLine true client call) at) lines client read

-- a line with a plus is past at once
abbrev pub GoesPastPlus : Type 0
GoesPastPlus = (script : List Line) (line : Line) (given : Given) (lines : List Outcome) → has_plus line ≡ true → IsAt script line given lines → IsPast (script ++ line ∷ []) given lines

-- another is past once each of its subject has its line, as when its client is idle
abbrev pub GoesPast : Type 0
GoesPast = (script : List Line) (line : Line) (given : Given) (lines : List Outcome) (subject : Subject) → subject_asked line ≡ Some subject → HaveLines given lines subject → IsAt script line given lines → IsPast (script ++ line ∷ []) given lines

-- so is a step line
abbrev pub GoesPastSteps : Type 0
GoesPastSteps = (script : List Line) (line : Line) (given : Given) (lines : List Outcome) → is_item line ≡ false → IsPast script given lines → IsPast (script ++ line ∷ []) given lines

-- at a call its client takes a step
abbrev pub StepsOwn : Type 0
StepsOwn = (script : List Line) (line : Line) (given : Given) (lines : List Outcome) (client : ℕ) (old new : Option LookedUp) (more : List Outcome) → FitGiven given (lines ++ more) → StepTells given lines client old new more
    → LooksNow given lines client old → IsAt script line given lines → IsAt script line given (lines ++ more) × LooksNow given (lines ++ more) client new

-- or lines come of which none is its client's, as those of another that holds the file manager
abbrev pub StepsOther : Type 0
StepsOther = (script : List Line) (line : Line) (given : Given) (lines more : List Outcome) → FitGiven given (lines ++ more) → ((client : ℕ) → is_about (calls client) line ≡ true → list_any (is_of_client client) more ≡ false)
    → IsAt script line given lines → IsAt script line given (lines ++ more)

-- the lines of another client are none of its
abbrev pub OtherClients : Type 0
OtherClients = (plus : Bool) (client other : ℕ) (call : Call) (more : List Outcome) → other ≢ client → AllByRecursion (λ line. is_of_client other line ≡ true) more
    → (c : ℕ) → is_about (calls c) (CallLine plus client call) ≡ true → list_any (is_of_client c) more ≡ false

-- between two lines whatever lines come
abbrev pub StepsPast : Type 0
StepsPast = (script : List Line) (given : Given) (lines more : List Outcome) → FitGiven given (lines ++ more) → IsPast script given lines → IsPast script given (lines ++ more)

-- or a finish begins
abbrev pub Finishes : Type 0
Finishes = (script : List Line) (given : Given) (lines : List Outcome) → IsPast script given lines → IsPast script (with_finish given (length lines)) lines
