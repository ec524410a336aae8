-- Completeness by what was given: what the lines come to where nothing befalls the nodes.
use Rattle.std.specs.Prelude.{◌≡◌, ◌⊎◌, ℕ, ◌-◌, ◌≤◌, Bool, true, false, List}
use Rattle.std.specs.List.{list_any, AllByRecursion}
use Rattle.zb_types.specs.declared.geometry.Geometry.{Geometry}
use Rattle.zb_types.specs.declared.lines.Line.{Line}
use Rattle.zb_types.specs.declared.lines.Line.TheVariants.{Call as CallLine, Job as JobLine, Steps, StepTo, Event as EventLine}
use Rattle.zb_types.specs.declared.lines.Outcome.{Outcome}
use Rattle.zb_claims.specs.Points.{Subject, has_plus}
use Rattle.zb_headline.specs.Need.{space_needed}
use Rattle.zb_headline.specs.Complete.{takes_away, lacks_space_alone, is_replied, IsComplete}
use Rattle.zb_given.specs.Given.{Given, script_of}
use Rattle.zb_given.specs.Gives.{Gives}
use Rattle.zb_given.specs.Ends.{HaveLastLines, IsInTurn}

-- a pass of the cleaner, or a rebuild
abbrev pub is_job : Line → Bool
is_job (CallLine plus client call) = false
is_job (JobLine plus job) = true
is_job (Steps actor count) = false
is_job (StepTo actor kind) = false
is_job (EventLine event) = false

-- What the lines of a world come to. Want of memory, status 6, may end it early.
pub record IsCompleteGiven (geo : Geometry) (given : Given) (lines : List Outcome) (status : ℕ) : Type 0 where
  -- each call, job and event has its last line
  pub ends : (status ≡ 6) ⊎ (((status ≡ 0) ⊎ (status ≡ 7)) × ((subject : Subject) → HaveLastLines given lines subject))
  -- where nothing takes the nodes away only space may be wanting
  pub calm : list_any takes_away (script_of given) ≡ false → AllByRecursion (λ line. lacks_space_alone line ≡ true) lines
  -- and where one call came after the other, with no job, and there is ample space, nothing is
  pub ample : list_any takes_away (script_of given) ≡ false → list_any is_job (script_of given) ≡ false → IsInTurn given lines → space_needed geo (script_of given) ≤ geo.slots - 4
      → AllByRecursion (λ line. is_replied line ≡ true) lines × ((status ≡ 0) ⊎ (status ≡ 6))

-- where a program gives a script so that has no plus, one came after the other
abbrev pub GivesInTurn : Type 0
GivesInTurn = (script : List Line) (given : Given) (lines : List Outcome) → Gives script given lines → list_any has_plus script ≡ false → IsInTurn given lines

-- where a program gives a script so, what is complete by what was given is so by the script
abbrev pub LiftsComplete : Type 0
LiftsComplete = (geo : Geometry) (script : List Line) (given : Given) (lines : List Outcome) (status : ℕ) → Gives script given lines → IsCompleteGiven geo given lines status → IsComplete geo script lines status
