-- What a course has told by now, as the report of a system that is given calls alone.
use Rattle.std.specs.Prelude.{◌≡◌, ◌≤◌, ◌-◌, ℕ, true, List, length, Option, Some, None}
use Rattle.std.specs.List.{AllByRecursion}
use Rattle.zb_types.specs.declared.geometry.Geometry.{Geometry}
use Rattle.zb_types.specs.declared.lines.Outcome.{Outcome}
use Rattle.zb_claims.specs.Text.{IsOutcome}
use Rattle.zb_headline.specs.Complete.{is_replied, lacks_space_alone}
use Rattle.zb_headline.specs.Need.{space_needed}
use Rattle.zb_given.specs.Given.{Given, script_of}
use Rattle.zb_given.specs.Calls.{LookedUp}
use Rattle.zb_manager.specs.Managers.{sizes_of}
use Rattle.zb_line_laws.specs.Calls.{IsFinishing}
use Rattle.zb_finishing.specs.Giving.{AreCalls}
use Rattle.zb_finishing.specs.Telling.{MayTell}
use Rattle.zb_ample.specs.Turning.{AreInTurn, InTurn}
use Rattle.zb_course.specs.Seen.{SeenCourse, lines_behind}
use Rattle.zb_course.specs.Sound.{IsSettled, IsSoundCourse}
use Rattle.zb_course.specs.declared.lines.Untold.{Untold}

-- The system has these sizes, and was given calls of its clients alone; each line may stand in its report, and by none is more
-- wanting than space.
pub record IsOfSystem (geo : Geometry) (given : Given) (lines : List Outcome) (c : SeenCourse) : Type 0 where
  pub sizes : c.nodes.manager.sizes ≡ sizes_of geo
  pub slots : c.nodes.servers.slots ≡ geo.slots
  pub calls : AreCalls geo.clients given
  pub count : length given.items ≡ c.calls
  pub valid : AllByRecursion (IsOutcome geo) lines
  pub space : AllByRecursion (λ line. lacks_space_alone line ≡ true) lines

-- Each final line so far, and each that waits, is a reply; and clients have work one after the other.
pub record IsAmple (geo : Geometry) (given : Given) (lines : List Outcome) (c : SeenCourse) : Type 0 where
  pub replied : AllByRecursion (λ line. is_replied line ≡ true) lines
  pub waiting : AllByRecursion (λ line. is_replied line ≡ true) (lines_behind c.untold)
  pub turn : InTurn geo given c.nodes

-- Finishes began by these lines; and so it is where all came in turn and there is ample space.
pub record ComesInTurn (geo : Geometry) (given : Given) (lines : List Outcome) (c : SeenCourse) : Type 0 where
  pub finished : AllByRecursion (λ at. at ≤ length lines) given.finishes
  pub ample : AreInTurn given lines → space_needed geo (script_of given) ≤ geo.slots - 4 → IsAmple geo given lines c

-- these lines are its report, and none waits
pub record HasReport (geo : Geometry) (given : Given) (lines : List Outcome) (c : SeenCourse) : Type 0 where
  pub system : IsOfSystem geo given lines c
  pub turns : ComesInTurn geo given lines c
  pub settled : IsSettled given lines c

-- where the clients' reads at work were looked up
abbrev pub reads_of : {geo : Geometry} {given : Given} {lines : List Outcome} {c : SeenCourse} → HasReport geo given lines c → ℕ → Option LookedUp
reads_of report = report.settled.sound.reads

-- lines that wait are such that a step of their client may tell
abbrev pub MayWait : ℕ → Option Untold → Type 0
MayWait servers None = Unit {0}
MayWait servers (Some untold) = AllByRecursion (MayTell servers untold.client) untold.lines

-- these lines are its report so far, behind which others may wait
pub record IsReported (geo : Geometry) (given : Given) (lines : List Outcome) (c : SeenCourse) : Type 0 where
  pub system : IsOfSystem geo given lines c
  pub turns : ComesInTurn geo given lines c
  pub sound : IsSoundCourse given lines c
  pub waits : MayWait geo.servers c.untold

-- a course has some report, and no line waits
pub record IsTelling (c : SeenCourse) : Type 0 where
  pub geo : Geometry
  pub given : Given
  pub lines : List Outcome
  pub report : HasReport geo given lines c

-- so it is, and a finish had begun
pub record IsFinishingTelling (c : SeenCourse) : Type 0 where
  pub geo : Geometry
  pub given : Given
  pub lines : List Outcome
  pub report : HasReport geo given lines c
  pub finishing : IsFinishing given lines
