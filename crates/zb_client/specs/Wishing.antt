-- What the next step of a client wants.
use Rattle.std.specs.Prelude.{ℕ, nat_le, false, List, [], ◌∷◌, Option, Some, None}
use Rattle.zb_types.specs.declared.ids.ServerId.{ServerId}
use Rattle.zb_types.specs.declared.requests.Request.{Request}
use Rattle.zb_types.specs.declared.calls.Call.{Call}
use Rattle.zb_types.specs.declared.calls.Call.TheVariants.{Read}
use Rattle.zb_stripe.specs.Reading.{asked}
use Rattle.zb_basis.specs.declared.calls.Numbered.{Numbered}
use Rattle.zb_basis.specs.Runs.{run_of}
use Rattle.zb_basis.specs.Looking.{ask_of, asks_of}
use Rattle.zb_work.specs.declared.work.Task.{Task}
use Rattle.zb_work.specs.declared.work.Step.{Step}
use Rattle.zb_work.specs.declared.work.Step.TheVariants as step
use Rattle.zb_work.specs.Steps.{first_members}
use Rattle.zb_client.specs.declared.steps.Lookup.{Lookup}
use Rattle.zb_client.specs.declared.steps.Lookup.TheVariants.{Files, Names}
use Rattle.zb_client.specs.declared.steps.Turn.TheVariants as turn
use Rattle.zb_client.specs.declared.steps.Wish.{Wish}
use Rattle.zb_client.specs.declared.steps.Wish.TheVariants.{Idle, Inside, Server, Turn}
use Rattle.zb_client.specs.Seen.{SeenClient}

-- after so many Stale answers a batch's lookup holds the file manager
abbrev pub max_tries : ℕ
max_tries = 3

-- what a read is to find
abbrev pub read_lookup : ℕ → Call → Lookup
read_lookup b (Read fid offset len) = Files false (ask_of b (Read fid offset len) ∷ [])
read_lookup b call = Names call

-- what the first queued call is to find
abbrev pub queue_lookup : ℕ → List Numbered → Lookup
queue_lookup b [] = Files false []
queue_lookup b (read ∷ rest) = read_lookup b read.call

-- the calls of the next batch are looked up, or else the read
abbrev pub lookup_of : SeenClient → ℕ → List Numbered → Lookup
lookup_of c tries [] = queue_lookup c.block c.queue
lookup_of c tries (first ∷ others) = Files (nat_le max_tries tries) (asks_of c.block (run_of (first ∷ others)))

-- a request of this generation, nothing where there is none
abbrev pub request_wish : ℕ → Option (ServerId × Request) → Wish
request_wish generation None = Idle
request_wish generation (Some (server, request)) = Server server generation request

-- the first of some requests
abbrev pub head_of : List (ServerId × Request) → Option (ServerId × Request)
head_of [] = None
head_of (asked ∷ rest) = Some asked

-- what a step wants
abbrev pub step_wish : SeenClient → ℕ → Step → Wish
step_wish c tries step.Lookup = Turn (turn.Lookup (lookup_of c tries c.kept))
step_wish c tries (step.Fetch basis at ptr plan) = request_wish (first_members basis.found).generation (asked plan)
step_wish c tries (step.Store basis formed) = request_wish formed.sealed.members.generation (head_of formed.plan)
step_wish c tries (step.Mark server generation) = Turn (turn.Mark server generation)
step_wish c tries (step.Commit basis sealed) = Turn (turn.Commit sealed.batch sealed.placed.pieces sealed.members.generation)

-- what the work wants, or else a queued call
abbrev pub task_wish : SeenClient → Option Task → List Numbered → Wish
task_wish c (Some task) queue = step_wish c task.tries task.step
task_wish c None [] = Idle
task_wish c None (call ∷ calls) = Inside

-- what the next step wants
abbrev pub wish_of : SeenClient → Wish
wish_of c = task_wish c c.task c.queue
