-- How the report of a course goes on.
use Rattle.std.specs.Prelude.{◌≡◌, ◌⊎◌, ℕ, ◌+◌, ◌-◌, List, ◌++◌, Some}
use Rattle.zb_types.specs.declared.geometry.Geometry.{Geometry}
use Rattle.zb_types.specs.declared.lines.Outcome.{Outcome}
use Rattle.zb_claims.specs.Text.{report_text}
use Rattle.zb_given.specs.Given.{Given}
use Rattle.zb_given.specs.Telling.{StepTells}
use Rattle.zb_ledger.specs.Keeps.{AreOthersReads}
use Rattle.zb_nodes.specs.Seen.{blocker_at}
use Rattle.zb_course.specs.Seen.{SeenCourse}
use Rattle.zb_running.specs.Reports.{HasReport, IsReported, reads_of}

-- it was given this, with the lines as they are, and the reads that were looked up stay so
pub record GivesMore {geo : Geometry} {given : Given} {lines : List Outcome} {old : SeenCourse} (r : HasReport geo given lines old) (more : Given) (new : SeenCourse) : Type 0 where
  pub report : HasReport geo more lines new
  pub reads : (i : ℕ) → reads_of report i ≡ reads_of r i

-- a step of this client told `more`, lines of its own; a read is answered from the tree at its lookup
pub record HasTold {geo : Geometry} {given : Given} {lines : List Outcome} {old : SeenCourse} (r : HasReport geo given lines old) (new : SeenCourse) (client : ℕ) : Type 0 where
  pub place : ℕ
  pub client_is : client ≡ place + 1
  pub more : List Outcome
  pub report : HasReport geo given (lines ++ more) new
  pub tells : StepTells given lines client (reads_of r place) (reads_of report place) more
  pub others : AreOthersReads place (reads_of r) (reads_of report)
  pub text : new.text ≡ old.text ++ report_text more

-- a step of this client did, or, where it was blocked, one of the client that it waits for
pub record SomeHasTold {geo : Geometry} {given : Given} {lines : List Outcome} {old : SeenCourse} (r : HasReport geo given lines old) (new : SeenCourse) (client : ℕ) : Type 0 where
  pub who : ℕ
  pub told : HasTold r new who
  pub why : (who ≡ client) ⊎ (blocker_at old.nodes (client - 1) ≡ Some who)

-- steps told `more`
pub record TellsMore (geo : Geometry) (given : Given) (lines : List Outcome) (old new : SeenCourse) : Type 0 where
  pub more : List Outcome
  pub report : HasReport geo given (lines ++ more) new
  pub text : new.text ≡ old.text ++ report_text more

-- so they did until one halted, whose lines may wait
pub record TellsUntil (geo : Geometry) (given : Given) (lines : List Outcome) (old new : SeenCourse) : Type 0 where
  pub more : List Outcome
  pub report : IsReported geo given (lines ++ more) new
  pub text : new.text ≡ old.text ++ report_text more

-- a step halted, whose lines may wait
pub record HasHalted (geo : Geometry) (given : Given) (lines : List Outcome) (old new : SeenCourse) : Type 0 where
  pub report : IsReported geo given lines new
  pub text : new.text ≡ old.text
