-- From what was given to the script.
use Rattle.std.specs.Prelude.{◌≡◌, ℕ, ◌≤◌, Bool, true, false, List, [], ◌++◌, length, map}
use Rattle.zb_types.specs.declared.history.Did.{Did}
use Rattle.zb_types.specs.declared.lines.Line.{Line}
use Rattle.zb_types.specs.declared.lines.Outcome.{Outcome}
use Rattle.zb_claims.specs.Points.{Subject, dids, tree_at}
use Rattle.zb_claims.specs.Fits.{clock_of_run, FitsBy, FitLines}
use Rattle.zb_claims.specs.Runs.{all_ended}
use Rattle.zb_laws.specs.Histories.{reads, OneHistory, IsInOrder}
use Rattle.zb_headline.specs.Ahead.{IsAhead}
use Rattle.zb_given.specs.Given.{Given, with_item, with_finish, script_of, clock_of_given, FitGiven}
use Rattle.zb_given.specs.Gives.{with_plus, without_steps, Gives, GivesBySubject}
use Rattle.zb_given.specs.Ends.{HaveLastLines}

-- two scripts tell one history of these lines
pub record SameHistory (script other : List Line) (lines : List Outcome) : Type 0 where
  pub dids : dids script lines ≡ dids other lines
  pub reads : reads script lines ≡ reads other lines
  pub tree : tree_at script lines ≡ tree_at other lines

-- More is given.

-- one item more leaves the lines as they fit, and their history
abbrev pub MoreGiven : Type 0
MoreGiven = (given : Given) (lines : List Outcome) (line : Line) (at : ℕ) → at ≤ length lines → FitGiven given lines → FitGiven (with_item given line at) lines × SameHistory (script_of (with_item given line at)) (script_of given) lines

-- so does a finish
abbrev pub MoreFinished : Type 0
MoreFinished = (given : Given) (lines : List Outcome) (at : ℕ) → FitGiven given lines → FitGiven (with_finish given at) lines

-- each front of the lines fits what was given in the end
abbrev pub FrontFitsGiven : Type 0
FrontFitsGiven = (given : Given) (lines more : List Outcome) → FitGiven given (lines ++ more) → FitsBy (clock_of_given given) (script_of given) lines

-- they tell one legal history of the calls that were given
abbrev pub TellsLegalGiven : Type 0
TellsLegalGiven = (given : Given) (lines : List Outcome) → FitGiven given lines → OneHistory false (script_of given) lines × IsInOrder (script_of given) lines

-- The script.

-- where a program gives a script so, the lines fit it
abbrev pub LiftsRun : Type 0
LiftsRun = (script : List Line) (given : Given) (lines : List Outcome) → Gives script given lines → FitGiven given lines → FitLines true script lines × SameHistory (script_of given) script lines

-- with threads they fit where no order of the script's lines is claimed
abbrev pub LiftsThreads : Type 0
LiftsThreads = (script : List Line) (given : Given) (lines : List Outcome) → GivesBySubject script given → FitGiven given lines → FitLines false script lines × SameHistory (script_of given) script lines

-- a program that gives a script in its order does so by subject, whatever the script has behind that
abbrev pub BySubject : Type 0
BySubject = (script later : List Line) (given : Given) (lines : List Outcome) → Gives script given lines → GivesBySubject (script ++ later) given

-- each call and line has ended by what was given where it has by the script
abbrev pub LiftsEnded : Type 0
LiftsEnded = (script : List Line) (given : Given) (lines : List Outcome) → script_of given ≡ map with_plus (without_steps script) → all_ended lines [] (script_of given) ≡ all_ended lines [] script

-- so all have by the script where all that was given has
abbrev pub LiftsLast : Type 0
LiftsLast = (script : List Line) (given : Given) (lines : List Outcome) → Gives script given lines → ((subject : Subject) → HaveLastLines given lines subject) → all_ended lines [] script ≡ true

-- step lines may stand anywhere
abbrev pub StepsAnywhere : Type 0
StepsAnywhere = (ordered : Bool) (script other : List Line) (lines : List Outcome) → without_steps script ≡ without_steps other → FitLines ordered script lines → FitLines ordered other lines

-- what is ahead of the lines by what was given is so by the script, whatever the script has behind what was given
abbrev pub LiftsAhead : Type 0
LiftsAhead = (script later : List Line) (given : Given) (lines : List Outcome) (ahead : List Did) → Gives script given lines → FitGiven given lines → IsAhead (script_of given) (clock_of_given given) lines ahead → IsAhead (script ++ later) (clock_of_run true (script ++ later)) lines ahead

-- so it is with threads
abbrev pub LiftsAheadThreads : Type 0
LiftsAheadThreads = (script : List Line) (given : Given) (lines : List Outcome) (ahead : List Did) → GivesBySubject script given → FitGiven given lines → IsAhead (script_of given) (clock_of_given given) lines ahead → IsAhead script (clock_of_run false script) lines ahead
