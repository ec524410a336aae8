-- Completeness of `run`: what a run of a script of the language comes to where no platter and no stream failed.
use Rattle.std.specs.Prelude.{◌≡◌, ◌⊎◌, ℕ, ◌-◌, ◌≤◌, Bool, true, false, List, []}
use Rattle.std.specs.List.{list_any, AllByRecursion}
use Rattle.zb_types.specs.declared.geometry.Geometry.{Geometry}
use Rattle.zb_types.specs.declared.nodes.Cause.{Cause}
use Rattle.zb_types.specs.declared.nodes.Cause.TheVariants.{Unreachable, Down, NoSpace}
use Rattle.zb_types.specs.declared.nodes.Event.TheVariants.{Crash, Arm, Up, Lose, Checkpoint}
use Rattle.zb_types.specs.declared.lines.Job.TheVariants.{Clean, Rebuild}
use Rattle.zb_types.specs.declared.lines.Line.{Line}
use Rattle.zb_types.specs.declared.lines.Line.TheVariants.{Call as CallLine, Job as JobLine, Steps, StepTo, Event as EventLine}
use Rattle.zb_types.specs.declared.lines.Said.{Said}
use Rattle.zb_types.specs.declared.lines.Said.TheVariants.{Reply as Replied, Buffered, Kept, Failed, Dropped, Unfinished}
use Rattle.zb_types.specs.declared.lines.Pass.TheVariants.{Failed as PassFailed}
use Rattle.zb_types.specs.declared.lines.Outcome.{Outcome}
use Rattle.zb_types.specs.declared.lines.Outcome.TheVariants.{Call as OfCall, Clean as OfClean}
use Rattle.zb_claims.specs.Script.{Row, whole, lines_in, Begins}
use Rattle.zb_claims.specs.Runs.{all_ended, RunsNone}
use Rattle.zb_headline.specs.Headline.{Witness, RunsSafely}
use Rattle.zb_headline.specs.Need.{space_needed}

-- a line by which nodes or platters are lost, or rebuilt
abbrev pub takes_away : Line → Bool
takes_away (CallLine plus client call) = false
takes_away (JobLine plus Clean) = false
takes_away (JobLine plus (Rebuild server)) = true
takes_away (Steps actor count) = false
takes_away (StepTo actor kind) = false
takes_away (EventLine (Crash node)) = true
takes_away (EventLine (Arm node count)) = true
takes_away (EventLine (Up node)) = false
takes_away (EventLine (Lose server)) = true
takes_away (EventLine Checkpoint) = false

-- a line that is more than a call or an event in its turn
abbrev pub is_beside : Line → Bool
is_beside (CallLine plus client call) = plus
is_beside (JobLine plus job) = true
is_beside (Steps actor count) = true
is_beside (StepTo actor kind) = true
is_beside (EventLine event) = false

-- a server has no slot left for it
abbrev pub is_for_space : Cause → Bool
is_for_space (Unreachable a b) = false
is_for_space Down = false
is_for_space (NoSpace server) = true

-- a final line of a call is a reply, or says that there is no space
abbrev pub ends_by_space : Said → Bool
ends_by_space (Replied reply) = true
ends_by_space Buffered = true
ends_by_space (Kept cause) = true
ends_by_space (Failed cause) = is_for_space cause
ends_by_space Dropped = false
ends_by_space (Unfinished cause) = is_for_space cause

-- so does each line of a call; a pass fails for want of space alone
abbrev pub lacks_space_alone : Outcome → Bool
lacks_space_alone (OfCall client n said) = ends_by_space said
lacks_space_alone (OfClean (PassFailed cause)) = is_for_space cause
lacks_space_alone line = true

-- a final line of a call is a reply
abbrev pub ends_by_reply : Said → Bool
ends_by_reply (Replied reply) = true
ends_by_reply Buffered = true
ends_by_reply (Kept cause) = true
ends_by_reply (Failed cause) = false
ends_by_reply Dropped = false
ends_by_reply (Unfinished cause) = false

-- so does each line of a call
abbrev pub is_replied : Outcome → Bool
is_replied (OfCall client n said) = ends_by_reply said
is_replied line = true

-- What the lines of a run come to. Want of memory, status 6, may end it early.
pub record IsComplete (geo : Geometry) (script : List Line) (all : List Outcome) (status : ℕ) : Type 0 where
  -- the script is read to its end, and each call, job and event has its last line
  pub ends : (status ≡ 6) ⊎ (((status ≡ 0) ⊎ (status ≡ 7)) × (all_ended all [] script ≡ true))
  -- where nothing takes_away the nodes only space may be wanting
  pub calm : list_any takes_away script ≡ false → AllByRecursion (λ line. lacks_space_alone line ≡ true) all
  -- and where one call comes after the other, and there is ample space, nothing is
  pub ample : list_any takes_away script ≡ false → list_any is_beside script ≡ false → space_needed geo script ≤ geo.slots - 4
      → AllByRecursion (λ line. is_replied line ≡ true) all × ((status ≡ 0) ⊎ (status ≡ 6))

-- the whole script is in the language
pub record IsInLanguage (script : List ℕ) : Type 0 where
  pub geo : Geometry
  pub rows : List Row
  pub begins : Begins whole script geo rows []

-- a run of a script with its lines, and what they come to
pub record RunsComplete (w : Witness) (status : ℕ) (bytes printed : List ℕ) : Type 0 where
  pub safely : RunsSafely w status bytes printed
  pub complete : IsComplete safely.run.geo (lines_in safely.run.rows) safely.run.all status

-- The clause of a run of a script, with all of it that was taken or left, where `quiet` says that no count of failed calls
-- rose: memory ran out before its first line, or its lines come to this.
abbrev pub IsCompleteRun : Witness → Type 0 → List ℕ → ℕ → List ℕ → Type 0
IsCompleteRun w quiet script status printed = quiet → IsInLanguage script → ((status ≡ 6) × RunsNone whole status script printed) ⊎ RunsComplete w status script printed
