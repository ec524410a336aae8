-- How the calls of a client's machine are those that it was given, and what its steps tell of them.
use Rattle.std.specs.Prelude.{◌≡◌, ℕ, suc, ◌==◌, ◌+◌, ◌∷◌, ◌++◌, List, [], length, map, Option, Some, None, false, nat_le, true}
use Rattle.std.specs.List.{list_any, AllByRecursion}
use Rattle.zb_types.specs.declared.calls.Call.{Call}
use Rattle.zb_types.specs.declared.calls.Reply.{Reply}
use Rattle.zb_types.specs.declared.history.Did.{Did}
use Rattle.zb_types.specs.declared.lines.Outcome.{Outcome}
use Rattle.zb_types.specs.declared.nodes.Node.TheVariants.{Manager}
use Rattle.zb_claims.specs.Points.{call_of, crashes, is_event, is_of_client}
use Rattle.zb_given.specs.Given.{FitGiven, Given, calls_of, script_of}
use Rattle.zb_given.specs.Queues.{CallsStand}
use Rattle.zb_basis.specs.declared.calls.Numbered.{Numbered}
use Rattle.zb_work.specs.declared.work.Aim.{Aim}
use Rattle.zb_work.specs.declared.work.Aim.TheVariants.{Update, Read, Finish}
use Rattle.zb_work.specs.Steps.{aim_of}
use Rattle.zb_client.specs.declared.steps.Told.{Told}
use Rattle.zb_client.specs.declared.steps.Told.TheVariants as told
use Rattle.zb_client.specs.Seen.{SeenClient, unready}
use Rattle.zb_client.specs.Telling.{Heard}

-- the call was given to this client under its number
abbrev pub IsGiven : Given → ℕ → Numbered → Type 0
IsGiven given client k = call_of (script_of given) client k.number ≡ Some k.call

-- these were given to it, with the numbers behind this one
abbrev pub AreGivenBehind : Given → ℕ → ℕ → List Numbered → Type 0
AreGivenBehind given client n [] = Unit {0}
AreGivenBehind given client n (k ∷ ks) = (k.number ≡ n + 1) × IsGiven given client k × AreGivenBehind given client (n + 1) ks

-- the commit of all kept calls that the last one began is at work while that has no line; else all that were taken have one
abbrev pub AimHas : Option Aim → (taken lined : ℕ) → Type 0
AimHas None taken lined = lined ≡ taken
AimHas (Some (Update number)) taken lined = (number ≡ taken) × (taken ≡ lined + 1)
AimHas (Some Read) taken lined = lined ≡ taken
AimHas (Some Finish) taken lined = lined ≡ taken

-- a finish had begun by these lines
abbrev pub IsFinishing : Given → List Outcome → Type 0
IsFinishing given lines = list_any (λ at. nat_le at (length lines)) given.finishes ≡ true

-- the numbers of some calls
abbrev pub numbers_of : List Numbered → List ℕ
numbers_of calls = map (λ k. k.number) calls

-- A client has its calls: those that it keeps stand so by the lines, those in its queue are all that were given behind
-- the ones that were taken, and its work is for them; it finishes only once that began.
pub record HasItsCalls (given : Given) (lines : List Outcome) (c : SeenClient) : Type 0 where
  pub taken : ℕ
  pub lined : ℕ
  pub stand : CallsStand given lines c.client (numbers_of c.kept) taken lined
  pub kept : AllByRecursion (IsGiven given c.client) c.kept
  pub queue : AreGivenBehind given c.client taken c.queue
  pub all : taken + length c.queue ≡ length (calls_of given c.client)
  pub work : AimHas (aim_of c.task) taken lined
  pub finishing : aim_of c.task ≡ Some Finish → IsFinishing given lines

-- the lines that a step tells
abbrev pub lines_in : Told → List Outcome
lines_in told.Nothing = []
lines_in (told.Lines lines) = lines

-- what a step tells fits what was given, and the client has its calls then
abbrev pub FitsAfter : Given → List Outcome → Heard → Type 0
FitsAfter given lines heard = FitGiven given (lines ++ lines_in heard.told) × HasItsCalls given (lines ++ lines_in heard.told) heard.client

-- what a step tells is of this client, and of no other
pub record TellsOwn (c : SeenClient) (heard : Heard) : Type 0 where
  pub own : AllByRecursion (λ line. is_of_client c.client line ≡ true) (lines_in heard.told)
  pub others : (other : ℕ) → (other == c.client) ≡ false → list_any (is_of_client other) (lines_in heard.told) ≡ false

-- one call more stands in its queue, with the next number
abbrev pub queues : Given → SeenClient → Call → SeenClient
queues given c call = record (unready c) { queue = c.queue ++ record { number = suc (length (calls_of given c.client)); call = call } ∷ [] }

-- the updates of a batch that was committed, with their replies
abbrev pub dids_of : ℕ → List Numbered → List Reply → List Did
dids_of client (k ∷ ks) (reply ∷ replies) = record { client = client; number = k.number; call = k.call; reply = reply } ∷ dids_of client ks replies
dids_of client [] replies = []
dids_of client (k ∷ ks) [] = []

-- no line tells of a crash of the file manager
abbrev pub IsCalm : List Outcome → Type 0
IsCalm lines = list_any (is_event (crashes Manager)) lines ≡ false
