-- What may answer the wish of a client.
use Rattle.std.specs.Prelude.{◌≡◌, ℕ, Bool, true, false, ◌<◌, List, length, Option, Some, None}
use Rattle.zb_types.specs.declared.calls.Reply.{Reply}
use Rattle.zb_types.specs.declared.requests.Response.{Response}
use Rattle.zb_types.specs.declared.requests.Response.TheVariants as told
use Rattle.zb_types.specs.declared.requests.StoreFault.TheVariants as fault
use Rattle.zb_types.specs.declared.tables.CommitFault.{CommitFault}
use Rattle.zb_types.specs.declared.tables.CommitFault.TheVariants as commit_fault
use Rattle.zb_types.specs.declared.tables.MarkFault.{MarkFault}
use Rattle.zb_types.specs.declared.tables.MarkFault.TheVariants as mark_fault
use Rattle.zb_stripe.specs.Reading.{asked, Answers as AnswersRead}
use Rattle.zb_basis.specs.Looking.{room_of}
use Rattle.zb_work.specs.declared.work.Task.{Task}
use Rattle.zb_work.specs.declared.work.Step.{Step}
use Rattle.zb_work.specs.declared.work.Step.TheVariants as step
use Rattle.zb_work.specs.Fitting.{FoundFor}
pub use Rattle.zb_steps.specs.Serving.{HasMemory, CanStore, CanFetch, CanServe, brings_bytes}
use Rattle.zb_client.specs.declared.steps.Answer.{Answer}
use Rattle.zb_client.specs.declared.steps.Answer.TheVariants as answer
use Rattle.zb_client.specs.declared.steps.Lookup.{Lookup}
use Rattle.zb_client.specs.declared.steps.Lookup.TheVariants.{Files, Names}
use Rattle.zb_client.specs.Seen.{SeenClient}
use Rattle.zb_client.specs.Wishing.{lookup_of}

-- replies to the calls of the batch that is being committed
abbrev pub CanCommit : Step → List Reply → Type 0
CanCommit (step.Commit basis sealed) replies = length replies ≡ length sealed.batch.ops
CanCommit other replies = ⊥

-- for each that is asked something is found, while no batch is in doubt; a read by names has its reply
abbrev pub AnswersLookup : SeenClient → Lookup → Answer → Type 0
AnswersLookup c (Files hold asks) (answer.Found found) = FoundFor c.block (room_of c.servers c.fragment) c.kept c.queue found × (c.doubted ≡ 0)
AnswersLookup c (Names call) (answer.Named reply) = Unit {0}
AnswersLookup c lookup answer.Down = Unit {0}
AnswersLookup c lookup answer.Doubt = Unit {0}
AnswersLookup c lookup other = ⊥

-- only another server that doesn't serve keeps one from being marked
abbrev pub IsRefusal : ℕ → MarkFault → Type 0
IsRefusal server (mark_fault.Refused other) = other.0 ≡ server → ⊥
IsRefusal server mark_fault.Worn = ⊥

-- a batch is behind the members, or behind a version
abbrev pub IsOutdated : CommitFault → Type 0
IsOutdated (commit_fault.Regen seen now) = Unit {0}
IsOutdated (commit_fault.Stale fid seen now) = Unit {0}
IsOutdated fault = ⊥

-- what may answer a step's wish
abbrev pub AnswersStep : SeenClient → ℕ → Step → Answer → Type 0
AnswersStep c tries step.Lookup a = AnswersLookup c (lookup_of c tries c.kept) a
AnswersStep c tries (step.Fetch basis at ptr plan) (answer.Server response serving) = CanFetch (step.Fetch basis at ptr plan) response
AnswersStep c tries (step.Store basis formed) (answer.Server response serving) = CanStore (step.Store basis formed) response
AnswersStep c tries (step.Mark server generation) answer.Marked = Unit {0}
AnswersStep c tries (step.Mark server generation) (answer.NotMarked fault) = IsRefusal server.0 fault
AnswersStep c tries (step.Mark server generation) answer.Down = Unit {0}
AnswersStep c tries (step.Mark server generation) answer.Doubt = Unit {0}
AnswersStep c tries (step.Commit basis sealed) (answer.Committed replies) = CanCommit (step.Commit basis sealed) replies
AnswersStep c tries (step.Commit basis sealed) (answer.NotCommitted fault) = IsOutdated fault
AnswersStep c tries (step.Commit basis sealed) answer.Down = Unit {0}
AnswersStep c tries (step.Commit basis sealed) answer.Doubt = Unit {0}
AnswersStep c tries step other = ⊥

-- the move inside, or an answer to the work
abbrev pub AnswersTask : SeenClient → Option Task → Answer → Type 0
AnswersTask c None answer.Inside = 0 < length c.queue
AnswersTask c None other = ⊥
AnswersTask c (Some task) a = AnswersStep c task.tries task.step a

-- this may answer the wish that stands
abbrev pub Answers : SeenClient → Answer → Type 0
Answers c a = AnswersTask c c.task a

-- memory may be wanting for a move inside, for what a lookup found, and for bytes that a fetch brought
abbrev pub MayWantMemory : Answer → Type 0
MayWantMemory answer.Inside = Unit {0}
MayWantMemory (answer.Found found) = Unit {0}
MayWantMemory (answer.Server response serving) = brings_bytes response ≡ true
MayWantMemory other = ⊥
