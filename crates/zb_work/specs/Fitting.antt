-- What is true of a client's work, beside the calls that the client keeps and has queued.
use Rattle.std.specs.Prelude.{◌≡◌, ℕ, ◌+◌, ◌<◌, ◌≤◌, true, false, List, [], ◌∷◌, length, All, Option, Some, None, is_some}
use Rattle.zb_types.specs.declared.ids.Ptr.{Ptr}
use Rattle.zb_types.specs.declared.tables.Found.{Found}
use Rattle.zb_types.specs.Apply.{is_update}
use Rattle.zb_log.specs.Logs.{SeenLog, ForGiven, IsSealed, flush_of, end_with, last_of}
use Rattle.zb_log.specs.declared.placed.Placed.{Placed}
use Rattle.zb_stripe.specs.declared.flush.FreshFlush.{FreshFlush}
use Rattle.zb_stripe.specs.Fresh.{IsFreshFlush}
use Rattle.zb_stripe.specs.Reading.{Reading, asked}
use Rattle.zb_log.specs.Places.{place, IsUpTo}
use Rattle.zb_log.specs.Placing.{last_stripe}
use Rattle.zb_basis.specs.declared.calls.Numbered.{Numbered}
use Rattle.zb_basis.specs.declared.basis.Basis.{Basis}
use Rattle.zb_basis.specs.declared.basis.Formed.{Formed}
use Rattle.zb_basis.specs.declared.basis.Sealed.{Sealed}
use Rattle.zb_basis.specs.Runs.{run_of}
use Rattle.zb_basis.specs.Looking.{ask_of, asks_of, room_of, AreFoundFor}
use Rattle.zb_basis.specs.Wanting.{wanted_by, wanted_by_read}
use Rattle.zb_basis.specs.Reading.{is_read}
use Rattle.zb_basis.specs.Delivering.{IsAbout}
use Rattle.zb_work.specs.declared.work.Task.{Task}
use Rattle.zb_work.specs.declared.work.Aim.{Aim}
use Rattle.zb_work.specs.declared.work.Aim.TheVariants.{Update, Read, Finish}
use Rattle.zb_work.specs.declared.work.Flushed.{Flushed}
use Rattle.zb_work.specs.declared.work.Step.{Step}
use Rattle.zb_work.specs.declared.work.Step.TheVariants.{Lookup, Fetch, Store, Mark, Commit}
use Rattle.zb_work.specs.Blocks.{next_missing, AreSlots}
use Rattle.zb_work.specs.Steps.{step_of}

-- this was found for the first queued call, a read of a file's bytes
abbrev pub FoundForRead : ℕ → ℕ → List Numbered → List Found → Type 0
FoundForRead b room [] found = ⊥
FoundForRead b room (read ∷ rest) found = (is_read read.call ≡ true) × AreFoundFor b room (ask_of b read.call ∷ []) found

-- this was found for the next batch of the kept calls, or else for the read
abbrev pub FoundFor : ℕ → ℕ → List Numbered → List Numbered → List Found → Type 0
FoundFor b room [] queue found = FoundForRead b room queue found
FoundFor b room (first ∷ others) queue found = AreFoundFor b room (asks_of b (run_of (first ∷ others))) found

-- the blocks that are wanted for the first queued call
abbrev pub wanted_for_read : ℕ → List Numbered → List Found → List Ptr
wanted_for_read b [] found = []
wanted_for_read b (read ∷ rest) found = wanted_by_read b read.call found

-- the blocks that are wanted for the next batch of the kept calls, or else for the read
abbrev pub wanted_for : ℕ → List Numbered → List Numbered → List Found → List Ptr
wanted_for b [] queue found = wanted_for_read b queue found
wanted_for b (first ∷ others) queue found = wanted_by b (run_of (first ∷ others)) found

-- what was looked up is for the work at hand, no batch is in doubt, and the blocks are those that are wanted for it
pub record Rests (n f b : ℕ) (kept queue : List Numbered) (doubted : ℕ) (basis : Basis) : Type 0 where
  pub settled : doubted ≡ 0
  pub found : FoundFor b (room_of n f) kept queue basis.found
  pub slots : AreSlots (room_of n f) (wanted_for b kept queue basis.found) basis.fetched

-- the first block that is missing is being read
pub record IsFetching (n f b : ℕ) (kept queue : List Numbered) (doubted : ℕ) (basis : Basis) (at : ℕ) (ptr : Ptr) : Type 0 where
  pub rests : Rests n f b kept queue doubted basis
  pub missing : next_missing basis.fetched ≡ Some (at, ptr)

-- a request of the read stands
abbrev pub Stands : Reading → Type 0
Stands plan = is_some (asked plan) ≡ true

-- these are new of a flush behind the bytes that a log gave of its stripe, which ends where the log is to go on
pub record IsNewOf (n f : ℕ) (log : SeenLog) (placed : Placed) (fresh : FreshFlush) (given : List ℕ) : Type 0 where
  pub new : List ℕ
  pub is_fresh : IsFreshFlush n f (flush_of log given placed new) fresh
  pub end : end_with log.next (last_of (flush_of log given placed new).parts) ≡ placed.next

-- a batch of the kept calls has its place next in the log, which may go on behind it; some requests are left, and they
-- are about stripes of the batch
pub record IsStoring (n f : ℕ) (log : SeenLog) (kept : List Numbered) (doubted : ℕ) (formed : Formed) : Type 0 where
  pub settled : doubted ≡ 0
  pub count : length formed.sealed.batch.ops ≡ length (run_of kept)
  pub sealed : IsSealed log formed.sealed.placed formed.fresh
  pub some : 0 < length formed.plan
  pub about : ForGiven log (λ given. All (λ asked. IsAbout log.next.stripe formed.sealed.placed.next.stripe asked.1) formed.plan)
  pub flush : ForGiven log (IsNewOf n f log formed.sealed.placed formed.fresh)

-- a batch of the kept calls
pub record IsCommitting (kept : List Numbered) (doubted : ℕ) (sealed : Sealed) : Type 0 where
  pub settled : doubted ≡ 0
  pub count : length sealed.batch.ops ≡ length (run_of kept)

-- what is true of a step: while a batch is in doubt, it is a lookup; of a fetch and of a store a request stands
abbrev pub StepFits : ℕ → ℕ → ℕ → SeenLog → List Numbered → List Numbered → ℕ → Step → Type 0
StepFits n f b log kept queue doubted Lookup = Unit {0}
StepFits n f b log kept queue doubted (Fetch basis at ptr plan) = IsFetching n f b kept queue doubted basis at ptr × Stands plan
StepFits n f b log kept queue doubted (Store basis formed) = IsStoring n f log kept doubted formed
StepFits n f b log kept queue doubted (Mark server generation) = doubted ≡ 0
StepFits n f b log kept queue doubted (Commit basis sealed) = IsCommitting kept doubted sealed

-- what is true of the work
abbrev pub TaskFits : ℕ → ℕ → ℕ → SeenLog → List Numbered → List Numbered → ℕ → Option Task → Type 0
TaskFits n f b log kept queue doubted task = StepFits n f b log kept queue doubted (step_of task)

-- the first queued call is no update
abbrev pub BeginsRead : List Numbered → Type 0
BeginsRead [] = ⊥
BeginsRead (read ∷ rest) = is_update read.call ≡ false

-- the number of the last call
abbrev pub last_number : List Numbered → Option ℕ
last_number [] = None
last_number (call ∷ []) = Some call.number
last_number (call ∷ (next ∷ rest)) = last_number (next ∷ rest)

-- the calls that the work is for: the first queued one, no update; the last kept one, of this number; or all kept ones,
-- of which there are some
abbrev pub AimFits : List Numbered → List Numbered → Option Aim → Type 0
AimFits kept queue None = Unit {0}
AimFits kept queue (Some (Update number)) = last_number kept ≡ Some number
AimFits kept queue (Some Read) = BeginsRead queue
AimFits kept queue (Some Finish) = 0 < length kept

-- the log goes on at or before the start of the stripe behind the last one of its last flush
pub record IsBehind (log : SeenLog) (last : Flushed) : Type 0 where
  pub lasting : last.stripe ≤ last_stripe
  pub behind : IsUpTo log.next (place (last.stripe + 1) 0)
