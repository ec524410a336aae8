-- How a program gives the lines of a script to a world.
use Rattle.std.specs.Prelude.{◌≡◌, ℕ, suc, Bool, true, false, List, [], ◌∷◌, ◌++◌, length, map, filter, take, Option, Some, None, ◌&&◌}
use Rattle.zb_types.specs.declared.calls.Reply.{Reply}
use Rattle.zb_types.specs.declared.lines.Line.{Line}
use Rattle.zb_types.specs.declared.lines.Line.TheVariants.{Call as CallLine, Job as JobLine, Steps, StepTo, Event as EventLine}
use Rattle.zb_types.specs.declared.lines.Said.TheVariants.{Reply as Replied}
use Rattle.zb_types.specs.declared.lines.Outcome.{Outcome}
use Rattle.zb_types.specs.declared.lines.Outcome.TheVariants.{Call as OfCall}
use Rattle.zb_types.specs.Apply.{is_update, reply_to}
use Rattle.zb_claims.specs.Points.{Subject, calls, is_about, asked, is_begun, tree_at}
use Rattle.zb_given.specs.Given.{Item, Given, script_of}

-- a call, a job or an event
abbrev pub is_item : Line → Bool
is_item (CallLine plus client call) = true
is_item (JobLine plus job) = true
is_item (Steps actor count) = false
is_item (StepTo actor kind) = false
is_item (EventLine event) = true

-- the lines of a script without its step lines
abbrev pub without_steps : List Line → List Line
without_steps script = filter is_item script

-- the line with a plus, if one may stand there
abbrev pub with_plus : Line → Line
with_plus (CallLine plus client call) = CallLine true client call
with_plus (JobLine plus job) = JobLine true job
with_plus (Steps actor count) = Steps actor count
with_plus (StepTo actor kind) = StepTo actor kind
with_plus (EventLine event) = EventLine event

-- each of these items, the first of which stands at this place of the script, was given where its line was begun
abbrev pub are_begun : List Line → List Outcome → ℕ → List Item → Bool
are_begun script lines place [] = true
are_begun script lines place (item ∷ items) = is_begun script (take item.at lines) place && are_begun script lines (suc place) items

-- each finish began where the whole script was begun
abbrev pub are_over : List Line → List Outcome → List ℕ → Bool
are_over script lines [] = true
are_over script lines (at ∷ finishes) = is_begun script (take at lines) (length script) && are_over script lines finishes

-- a reply to the line that was found: to a read without a plus it is that of the tree where it stands
abbrev pub IsNow : List Line → List Outcome → Reply → Option (ℕ × Line) → Type 0
IsNow script before reply None = Unit {0}
IsNow script before reply (Some (place, CallLine false client call)) = is_update call ≡ false → reply ≡ reply_to (tree_at script before) call
IsNow script before reply (Some (place, CallLine true client call)) = Unit {0}
IsNow script before reply (Some (place, JobLine plus job)) = Unit {0}
IsNow script before reply (Some (place, Steps actor count)) = Unit {0}
IsNow script before reply (Some (place, StepTo actor kind)) = Unit {0}
IsNow script before reply (Some (place, EventLine event)) = Unit {0}

-- so it is with a line, if it is a reply
abbrev pub IsAtOnce : List Line → List Outcome → Outcome → Type 0
IsAtOnce script before (OfCall client n (Replied reply)) = IsNow script before reply (asked script (calls client) n)
IsAtOnce script before line = Unit {0}

-- and with each of these lines, behind those before it
abbrev pub AreAtOnce : List Line → List Outcome → List Outcome → Type 0
AreAtOnce script before [] = Unit {0}
AreAtOnce script before (line ∷ lines) = IsAtOnce script before line × AreAtOnce script (before ++ line ∷ []) lines

-- A program gives this script so: its calls, jobs and events in their order, each once its line is begun; a finish once all
-- are; and reads without a plus are answered at once.
pub record Gives (script : List Line) (given : Given) (lines : List Outcome) : Type 0 where
  pub items : script_of given ≡ map with_plus (without_steps script)
  pub begun : are_begun (without_steps script) lines 0 given.items ≡ true
  pub over : are_over (without_steps script) lines given.finishes ≡ true
  pub at_once : AreAtOnce (without_steps script) [] lines

-- With threads.

-- the lines of this subject
abbrev pub about : Subject → List Line → List Line
about subject script = filter (is_about subject) script

-- the lines of each subject were given in the script's order, maybe not all
abbrev pub GivesBySubject : List Line → Given → Type 0
GivesBySubject script given = (subject : Subject) → (more : List Line) × (map with_plus (about subject script) ≡ map with_plus (about subject (script_of given)) ++ more)
