-- When a course is sound, for what it was given and has told.
use Rattle.std.specs.Prelude.{◌≡◌, ◌≢◌, ℕ, ◌+◌, ◌^◌, ◌≤◌, List, [], ◌++◌, length, Option, Some, None}
use Rattle.std.specs.List.{list_any}
use Rattle.zb_types.specs.declared.lines.Outcome.{Outcome}
use Rattle.zb_claims.specs.Runs.{is_unfinished}
use Rattle.zb_given.specs.Given.{FitGiven, Given}
use Rattle.zb_given.specs.Calls.{LookedUp}
use Rattle.zb_given.specs.Telling.{StepTells}
use Rattle.zb_ledger.specs.Keeps.{AreOthersReads, IsCounted, KeepsHistory}
use Rattle.zb_system.specs.Sound.{AreSound}
use Rattle.zb_ending.specs.Entries.{entries_ahead}
use Rattle.zb_ending.specs.Holding.{HolderWorks}
use Rattle.zb_course.specs.Seen.{SeenCourse}
use Rattle.zb_course.specs.declared.lines.Untold.{Untold}

-- the most calls that may be given
abbrev pub most_calls : ℕ
most_calls = 2 ^ 40

-- A client that holds the file manager has work; the ledger is of these clients; and numbers may rise for all calls.
pub record GoesWell (c : SeenCourse) : Type 0 where
  pub works : HolderWorks c.nodes
  pub clients : length c.nodes.clients ≡ c.ledger.clients
  pub few : entries_ahead c.nodes ≤ c.ledger.clients + 2 + c.calls
  pub calls : c.calls ≤ most_calls

-- The nodes are sound with these lines, and the ledger keeps their history; whether one of them tells of an unfinished call is
-- known; no line waits.
pub record IsSettled (given : Given) (lines : List Outcome) (c : SeenCourse) : Type 0 where
  pub sound : AreSound given lines c.nodes
  pub keeps : KeepsHistory given lines sound.reads c.ledger
  pub well : GoesWell c
  pub unfinished : c.unfinished ≡ list_any is_unfinished lines
  pub told : c.untold ≡ None

-- The nodes are sound with these lines and those that wait, which a step of one client told behind them; the ledger has the
-- history of these.
pub record HasWaiting (given : Given) (lines : List Outcome) (c : SeenCourse) (untold : Untold) : Type 0 where
  pub place : ℕ
  pub client : untold.client ≡ place + 1
  pub own : untold.client ≤ c.ledger.clients
  pub some : untold.lines ≢ []
  pub fit : FitGiven given lines
  pub before : ℕ → Option LookedUp
  pub keeps : KeepsHistory given lines before c.ledger
  pub counted : IsCounted given lines c.ledger (place + 1) (before place)
  pub sound : AreSound given (lines ++ untold.lines) c.nodes
  pub tells : StepTells given lines (place + 1) (before place) (sound.reads place) untold.lines
  pub others : AreOthersReads place before sound.reads
  pub well : GoesWell c
  pub unfinished : c.unfinished ≡ list_any is_unfinished lines

-- so it is with what waits
abbrev pub IsSoundWith : Given → List Outcome → SeenCourse → Option Untold → Type 0
IsSoundWith given lines c None = IsSettled given lines c
IsSoundWith given lines c (Some untold) = HasWaiting given lines c untold

-- a course is sound for what it was given and the lines that it has told
abbrev pub IsSoundCourse : Given → List Outcome → SeenCourse → Type 0
IsSoundCourse given lines c = IsSoundWith given lines c c.untold

-- Behind a step of a client that told `more` the course is settled with these lines; a read is answered from the tree at its
-- lookup, and the reads of others stay as they were.
pub record Goes {given : Given} {lines : List Outcome} {old : SeenCourse} (s : IsSettled given lines old) (new : SeenCourse) (client : ℕ) (more : List Outcome) : Type 0 where
  pub place : ℕ
  pub client_is : client ≡ place + 1
  pub settled : IsSettled given (lines ++ more) new
  pub tells : StepTells given lines client (s.sound.reads place) (settled.sound.reads place) more
  pub others : AreOthersReads place s.sound.reads settled.sound.reads

-- a course that is given more is settled, and the reads that were looked up stay so
pub record GoesWith {given : Given} {lines : List Outcome} {old : SeenCourse} (s : IsSettled given lines old) (more : Given) (new : SeenCourse) : Type 0 where
  pub settled : IsSettled more lines new
  pub reads : (i : ℕ) → settled.sound.reads i ≡ s.sound.reads i
