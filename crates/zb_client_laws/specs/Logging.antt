-- Where the log of a client is: at rest, with a flush under way, or with a flush whose batch isn't committed yet.
use Rattle.std.specs.Prelude.{◌≡◌, ℕ, ◌+◌, ◌≤◌, ◌-◌, true, List, [], Option, Some, None, IfSome}
use Rattle.std.specs.Bool.{MatchBool}
use Rattle.zb_types.specs.declared.ids.ServerId.{ServerId}
use Rattle.zb_types.specs.declared.nodes.Class.TheVariants.{Client}
use Rattle.zb_types.specs.declared.requests.Request.{Request}
use Rattle.zb_stripe.specs.declared.flush.Part.{Part}
use Rattle.zb_stripe.specs.declared.flush.Flush.{Flush}
use Rattle.zb_log.specs.Logs.{SeenLog, AreGiven, gone_on}
use Rattle.zb_basis.specs.declared.basis.Basis.{Basis}
use Rattle.zb_basis.specs.declared.basis.Formed.{Formed}
use Rattle.zb_basis.specs.declared.calls.Numbered.{Numbered}
use Rattle.zb_basis.specs.declared.basis.Sealed.{Sealed}
use Rattle.zb_basis.specs.Delivering.{stripe_of}
use Rattle.zb_basis.specs.Forming.{IsFormed, writers_out}
use Rattle.zb_basis.specs.Runs.{run_of}
use Rattle.zb_forming_laws.specs.Flushing.{flush_with}
use Rattle.zb_sound.specs.Delivering.{allowed}
use Rattle.zb_sound.specs.LastFlush.{LastFlush, Phase, behind, flushing}
use Rattle.zb_sound.specs.LogsCurrent.{LogIsCurrent}
use Rattle.zb_work.specs.declared.work.Flushed.{Flushed}
use Rattle.zb_work.specs.declared.work.Step.{Step}
use Rattle.zb_work.specs.declared.work.Step.TheVariants as step
use Rattle.zb_work.specs.Steps.{first_members, step_of}
use Rattle.zb_client.specs.Seen.{SeenClient}
use Rattle.zb_client.specs.Wishing.{head_of}
use Rattle.zb_client_laws.specs.Around.{Around}

-- the log goes on behind the bytes of this part
pub record GoesOnBehind (log : SeenLog) (part : Part) : Type 0 where
  pub stripe : log.next.stripe ≡ part.stripe
  pub given : AreGiven log part.bytes

-- the last flush ended with this part
pub record HasEnded (log : SeenLog) (last : Flushed) (generation at : ℕ) (phase : Phase) : Type 0 where
  pub part : Part
  pub phase_is : phase ≡ behind part
  pub goes_on : GoesOnBehind log part
  pub stripe_is : last.stripe ≡ part.stripe
  pub generation_is : last.generation ≡ generation
  pub above : at ≤ part.stripe

-- A log at rest: nothing was delivered yet of the stripe where it goes on; or it goes on behind its last flush; or that
-- didn't end, and nothing was delivered behind its last stripe.
abbrev pub RestsAt : SeenLog → Option Flushed → (generation at front : ℕ) → Phase → Type 0
RestsAt log None generation at front phase = (front ≤ log.next.stripe) × AreGiven log []
RestsAt log (Some last) generation at front phase = MatchBool last.ended (HasEnded log last generation at phase) (front ≤ last.stripe + 1)

-- what was formed of these calls, as a log's batch of this number, behind the bytes that the log gave of its stripe; n servers, f bytes in a fragment, b in a block
pub record WasFormed (n f b : ℕ) (log : SeenLog) (batch : ℕ) (calls : List Numbered) (basis : Basis) : Type 0 where
  pub given : List ℕ
  pub are : AreGiven log given
  pub whole : Formed
  pub is : IsFormed n f b log batch (first_members basis.found) calls basis whole

-- its flush
abbrev pub flush_of : {n f b : ℕ} {log : SeenLog} {batch : ℕ} {calls : List Numbered} {basis : Basis} → WasFormed n f b log batch calls basis → Flush
flush_of {log = log} was = flush_with log was.given was.whole was.is.blocks

-- its flush has begun, and these of its requests are left
abbrev pub delivers : {n f b : ℕ} {log : SeenLog} {batch : ℕ} {calls : List Numbered} {basis : Basis} → WasFormed n f b log batch calls basis → List (ServerId × Request) → Phase
delivers {basis = basis} was left = flushing (writers_out (first_members basis.found).state) Client (flush_of was) left

-- A batch is being stored: its flush goes next in the log, of the generation that was looked up, and nothing was delivered
-- behind the stripe of the next request.
pub record IsDelivering (n f b : ℕ) (log : SeenLog) (batch : ℕ) (calls : List Numbered) (basis : Basis) (formed : Formed) (generation at front : ℕ) (phase : Phase) : Type 0 where
  pub was : WasFormed n f b log batch calls basis
  pub formed_is : formed ≡ record was.whole { plan = formed.plan }
  pub phase_is : phase ≡ delivers was formed.plan
  pub generation_is : generation ≡ (first_members basis.found).generation
  pub above : at ≤ log.next.stripe
  pub reached : IfSome (head_of formed.plan) (λ asked. front ≤ stripe_of asked.1 + 1)

-- a batch is stored: its log has gone on behind it
pub record IsDelivered (n f b : ℕ) (log : SeenLog) (flushed : Option Flushed) (batch : ℕ) (calls : List Numbered) (basis : Basis) (sealed : Sealed) (generation at : ℕ) (phase : Phase) : Type 0 where
  pub former : SeenLog
  pub was : WasFormed n f b former batch calls basis
  pub sealed_is : sealed ≡ was.whole.sealed
  pub goes_on : log ≡ gone_on former was.whole.sealed.placed.next was.whole.fresh.parts
  pub phase_is : phase ≡ delivers was []
  pub generation_is : generation ≡ (first_members basis.found).generation
  pub above : at ≤ former.next.stripe
  pub noted : flushed ≡ Some (record { generation = generation; stripe = sealed.placed.next.stripe; ended = true })

-- the client has its log where its work says
abbrev pub HasPhase : SeenClient → Step → (generation at front : ℕ) → Phase → Type 0
HasPhase c (step.Store basis formed) generation at front phase = IsDelivering c.servers c.fragment c.block c.log c.batch (run_of c.kept) basis formed generation at front phase
HasPhase c (step.Commit basis sealed) generation at front phase = IsDelivered c.servers c.fragment c.block c.log c.flushed c.batch (run_of c.kept) basis sealed generation at phase
HasPhase c step.Lookup generation at front phase = RestsAt c.log c.flushed generation at front phase
HasPhase c (step.Fetch basis place ptr plan) generation at front phase = RestsAt c.log c.flushed generation at front phase
HasPhase c (step.Mark server of) generation at front phase = RestsAt c.log c.flushed generation at front phase

-- The client's log is its live one in the tables, with its last committed batch and stripe, and so much stands of its last
-- flush as the client has it.
pub record LogIsAtWork (w : Around) (c : SeenClient) : Type 0 where
  pub last : Option ℕ
  pub generation : ℕ
  pub at : ℕ
  pub front : ℕ
  pub phase : Phase
  pub current : LogIsCurrent w.tables c.log.log c.client (c.batch - 1) last generation at front
  pub flush : LastFlush w.z w.contents w.st w.tables.held (allowed w.tables.members) c.log.log front phase
  pub has : HasPhase c (step_of c.task) generation at front phase
