-- From reasons by what was given to reasons by the script. No contract can say these, since they range over what is seen
-- of a run: they are lemmas alone (`proofs/ReasonLifting.antt`).
use Rattle.std.specs.Prelude.{◌≡◌, ℕ, suc, ◌≤◌, true, false, List, ◌++◌, length, Some}
use Rattle.zb_types.specs.declared.lines.Line.{Line}
use Rattle.zb_types.specs.declared.lines.Outcome.{Outcome}
use Rattle.zb_types.specs.declared.lines.Outcome.TheVariants.{Rebuild as OfRebuild}
use Rattle.zb_claims.specs.Points.{rebuilds, told_of, asked, has_plus}
use Rattle.zb_claims.specs.Fits.{clock_of_run}
use Rattle.zb_headline.specs.Reasons.{Shown, Place, HasReason}
use Rattle.zb_given.specs.Given.{Given, with_item, with_finish, script_of, point, clock_of_given}
use Rattle.zb_given.specs.Gives.{without_steps, Gives, GivesBySubject}

-- behind these lines, by what was given
abbrev pub place_given : Given → List Outcome → Shown → Place
place_given given before shown = record { script = script_of given; clock = clock_of_given given; before = before; shown = shown }

-- what is given later takes no reason away
abbrev pub ReasonStays : Type 1
ReasonStays = (given : Given) (line : Line) (at : ℕ) (before : List Outcome) (shown : Shown) (told : Outcome) → HasReason (place_given given before shown) told → HasReason (place_given (with_item given line at) before shown) told

-- nor does a finish
abbrev pub ReasonFinished : Type 1
ReasonFinished = (given : Given) (at : ℕ) (before : List Outcome) (shown : Shown) (told : Outcome) → HasReason (place_given given before shown) told → HasReason (place_given (with_finish given at) before shown) told

-- the line of a rebuild without a plus stands where the rebuild was given
abbrev pub IsRightThere : List Line → Given → List Outcome → Outcome → Type 0
IsRightThere script given before (OfRebuild server end) =
    (place : ℕ) (line : Line) → asked script (rebuilds server.0) (suc (told_of (rebuilds server.0) before)) ≡ Some (place, line) → has_plus line ≡ false → length before ≤ point given.items place
IsRightThere script given before line = Unit {0}

-- where a program gives a script so, a reason by what was given is one by the script, behind each front of its lines
abbrev pub LiftsReason : Type 1
LiftsReason = (script : List Line) (given : Given) (lines before rest : List Outcome) (shown : Shown) (told : Outcome) → Gives script given lines → lines ≡ before ++ rest → IsRightThere (without_steps script) given before told
    → HasReason (place_given given before shown) told → HasReason (record { script = script; clock = clock_of_run true script; before = before; shown = shown }) told

-- so it is with threads
abbrev pub LiftsReasonThreads : Type 1
LiftsReasonThreads = (script : List Line) (given : Given) (before : List Outcome) (shown : Shown) (told : Outcome) → GivesBySubject script given
    → HasReason (place_given given before shown) told → HasReason (record { script = script; clock = clock_of_run false script; before = before; shown = shown }) told
