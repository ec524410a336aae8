-- What the calls of a course do.
use Rattle.std.specs.Prelude.{◌≡◌, ◌≢◌, ◌⊎◌, ℕ, suc, ◌+◌, ◌-◌, ◌≤◌, false, ◌||◌, List, [], ◌++◌, length, Option, Some, None, IfSome}
use Rattle.std.specs.List.{list_any, AllByRecursion}
use Rattle.zb_types.specs.declared.calls.Call.{Call}
use Rattle.zb_types.specs.declared.geometry.Geometry.{Geometry}
use Rattle.zb_types.specs.declared.lines.Kind.{Kind}
use Rattle.zb_types.specs.declared.lines.Kind.TheVariants.{Fetch}
use Rattle.zb_types.specs.declared.lines.Outcome.{Outcome}
use Rattle.zb_claims.specs.Runs.{is_unfinished}
use Rattle.zb_claims.specs.Text.{HasReply, report_text}
use Rattle.zb_ledger.specs.Seen.{SeenLedger, called, count_of, first_ledger, looked_now, told_all}
use Rattle.zb_client.specs.declared.steps.Told.{Told}
use Rattle.zb_line_laws.specs.Calls.{lines_in}
use Rattle.zb_manager.specs.Managers.{sizes_of}
use Rattle.zb_system.specs.First.{AreFirst}
use Rattle.zb_system.specs.Steps.{HasStepped, IsReadied}
use Rattle.zb_nodes.specs.Halting.{HasCauseAt}
use Rattle.zb_nodes.specs.Seen.{Flushes, Pushes, kind_at}
use Rattle.zb_nodes.specs.declared.answers.Halt.{Halt}
use Rattle.zb_nodes.specs.declared.answers.Halt.TheVariants as halt
use Rattle.zb_course.specs.Seen.{SeenCourse}
use Rattle.zb_course.specs.declared.lines.Untold.{Untold}
use Rattle.zb_course.specs.declared.step.Step.{Step}
use Rattle.zb_course.specs.declared.step.Step.TheVariants as step

-- the first nodes of a system of these sizes, which were given nothing
pub record IsFirstCourse (geo : Geometry) (c : SeenCourse) : Type 0 where
  pub first : AreFirst c.nodes
  pub sizes : c.nodes.manager.sizes ≡ sizes_of geo
  pub slots : c.nodes.servers.slots ≡ geo.slots
  pub ledger : c.ledger ≡ first_ledger geo.clients
  pub text : c.text ≡ []
  pub told : c.untold ≡ None
  pub unfinished : c.unfinished ≡ false
  pub calls : c.calls ≡ 0

-- a call is put into its client's queue, with the next number
pub record TakesCall (old new : SeenCourse) (client : ℕ) (call : Call) : Type 0 where
  pub nodes : Pushes old.nodes new.nodes (client - 1) (suc (count_of old.ledger client)) call
  pub ledger : new.ledger ≡ called old.ledger client call
  pub text : new.text ≡ old.text
  pub untold : new.untold ≡ old.untold
  pub unfinished : new.unfinished ≡ old.unfinished
  pub calls : new.calls ≡ old.calls + 1

-- a client begins to commit all that it keeps
pub record Finishes (old new : SeenCourse) (client : ℕ) : Type 0 where
  pub nodes : Flushes old.nodes new.nodes (client - 1)
  pub ledger : new.ledger ≡ old.ledger
  pub text : new.text ≡ old.text
  pub untold : new.untold ≡ old.untold
  pub unfinished : new.unfinished ≡ old.unfinished
  pub calls : new.calls ≡ old.calls

-- the ledger once these lines of a client are told
abbrev pub told_lines : SeenLedger → ℕ → List Outcome → SeenLedger
told_lines ledger client lines = told_all (record ledger { room = length lines }) client lines

-- these lines of a client are told to this ledger: each may be told, and their text stands behind the other
pub record Tells (old new : SeenCourse) (ledger_then : SeenLedger) (client : ℕ) (lines : List Outcome) : Type 0 where
  pub ledger : new.ledger ≡ told_lines ledger_then client lines
  pub text : new.text ≡ old.text ++ report_text lines
  pub values : AllByRecursion HasReply lines
  pub told : new.untold ≡ None
  pub unfinished : new.unfinished ≡ (old.unfinished || list_any is_unfinished lines)
  pub calls : new.calls ≡ old.calls

-- the lines that wait are told
abbrev pub TellsWaiting : SeenCourse → SeenCourse → Option Untold → Type 0
TellsWaiting old new None = new ≡ old
TellsWaiting old new (Some untold) = (new.nodes ≡ old.nodes) × Tells old new old.ledger untold.client untold.lines

-- so it is with those of a course
abbrev pub TellsRest : SeenCourse → SeenCourse → Type 0
TellsRest old new = TellsWaiting old new old.untold

-- the lines that wait are those of one of the clients
abbrev pub OwnsRest : SeenCourse → Type 0
OwnsRest c = IfSome c.untold (λ untold. untold.client ≤ c.ledger.clients)

-- nothing has changed, but that the client may have memory for its next step, and the file manager room
pub record HasWaited (old new : SeenCourse) (client : ℕ) : Type 0 where
  pub nodes : IsReadied old.nodes new.nodes (client - 1)
  pub ledger : new.ledger ≡ old.ledger
  pub text : new.text ≡ old.text
  pub untold : new.untold ≡ old.untold
  pub unfinished : new.unfinished ≡ old.unfinished
  pub calls : new.calls ≡ old.calls

-- At a step of this kind a client's read is looked up now, or none is at work; but where it reads a block, the updates at its
-- lookup are counted.
pub record LooksAt (kind : Option Kind) (old new : SeenLedger) (client : ℕ) : Type 0 where
  pub reads : kind ≡ Some Fetch → new ≡ old
  pub looks : kind ≢ Some Fetch → new ≡ looked_now old client

-- a step was made, which told nothing
pub record HasMoved (old new : SeenCourse) (client : ℕ) : Type 0 where
  pub told : Told
  pub stepped : HasStepped old.nodes new.nodes (client - 1) told
  pub silent : lines_in told ≡ []
  pub ledger : LooksAt (kind_at old.nodes (client - 1)) old.ledger new.ledger client
  pub text : new.text ≡ old.text
  pub untold : new.untold ≡ old.untold
  pub unfinished : new.unfinished ≡ old.unfinished
  pub calls : new.calls ≡ old.calls

-- a step was made, and its lines are told
pub record HasAnswered (old new : SeenCourse) (client : ℕ) : Type 0 where
  pub told : Told
  pub stepped : HasStepped old.nodes new.nodes (client - 1) told
  pub some : lines_in told ≢ []
  pub ledger : SeenLedger
  pub looked : LooksAt (kind_at old.nodes (client - 1)) old.ledger ledger client
  pub tells : Tells old new ledger client (lines_in told)

-- a step was made, and its lines wait
pub record IsBehind (old new : SeenCourse) (client : ℕ) : Type 0 where
  pub told : Told
  pub stepped : HasStepped old.nodes new.nodes (client - 1) told
  pub some : lines_in told ≢ []
  pub ledger : LooksAt (kind_at old.nodes (client - 1)) old.ledger new.ledger client
  pub text : new.text ≡ old.text
  pub untold : new.untold ≡ Some (record { client = client; lines = lines_in told })
  pub unfinished : new.unfinished ≡ old.unfinished
  pub calls : new.calls ≡ old.calls

-- what a step of a client came to
abbrev pub StepIs : SeenCourse → SeenCourse → ℕ → Step → Type 0
StepIs old new client step.Idle = HasWaited old new client
StepIs old new client (step.Blocked holder) = HasWaited old new client
StepIs old new client step.Moved = HasMoved old new client
StepIs old new client step.Answered = HasAnswered old new client

-- the client that blocked a step
abbrev pub holder_of : Step → Option ℕ
holder_of step.Idle = None
holder_of step.Moved = None
holder_of (step.Blocked holder) = Some holder
holder_of step.Answered = None

-- why a step halts: it isn't made; or memory was wanting for the text of its lines
abbrev pub HasHalted : SeenCourse → SeenCourse → ℕ → Halt → Type 0
HasHalted old new client why = (HasWaited old new client × HasCauseAt old.nodes (client - 1) why) ⊎ (IsBehind old new client × (why ≡ halt.NoMemory))
