-- The batch that moves a stripe's blocks, placed and sealed behind the cleaner's log.
use Rattle.std.specs.Prelude.{◌≡◌, ℕ, ◌≤◌, ◌<◌, ◌++◌, List, length, map, All, Option}
use Rattle.std.specs.List.{AllZip, concat}
use Rattle.zb_types.specs.declared.ids.LogId.{LogId}
use Rattle.zb_types.specs.declared.ids.ServerId.{ServerId}
use Rattle.zb_types.specs.declared.nodes.Class.TheVariants.{Cleaner}
use Rattle.zb_types.specs.declared.nodes.Members.{Members}
use Rattle.zb_types.specs.declared.requests.Request.{Request}
use Rattle.zb_stripe.specs.declared.flush.FreshFlush.{FreshFlush}
use Rattle.zb_stripe.specs.Writing.{StripesRise, plan_requests}
use Rattle.zb_stripe.specs.Fresh.{IsFreshFlush, HasRoom}
use Rattle.zb_log.specs.declared.placed.Placed.{Placed}
use Rattle.zb_log.specs.Placing.{last_stripe}
use Rattle.zb_log.specs.Logs.{SeenLog, ForGiven, IsSealed, end_with, flush_of, laid_next, last_of}
use Rattle.zb_log.specs.Sealing.{GoesNext, IsPartOf, LiesAhead, StandEach, read_at}
use Rattle.zb_delta.specs.declared.delta.Body.{Body}
use Rattle.zb_batch.specs.declared.batch.Batch.{Batch}
use Rattle.zb_batch.specs.Batches.{IsBatch, IsSpellable}
use Rattle.zb_batch.specs.Spelling.{meta_length, spelling_of_batch}
use Rattle.zb_basis.specs.declared.basis.Formed.{Formed}
use Rattle.zb_basis.specs.declared.basis.Sealed.{Sealed}
use Rattle.zb_basis.specs.Delivering.{IsAbout}
use Rattle.zb_basis.specs.Forming.{IsLaid, writers_out}
use Rattle.zb_pass.specs.declared.work.Copies.{Copies}
use Rattle.zb_pass.specs.Moving.{clean_batch, moves, old_lengths, old_ptrs}

-- the batch moves these blocks to its new pointers: each delta has the block's old pointer, and the version of its file
pub record Moves (log : LogId) (number : ℕ) (live : List Body) (sealed : Sealed) : Type 0 where
  pub batch_is : sealed.batch ≡ clean_batch log number (moves live sealed.placed.ptrs)
  pub lens : map (λ p. p.len) sealed.placed.ptrs ≡ old_lengths live

-- what is new of the flush of a batch, which gives its meta part and its blocks, and the requests that write it for the
-- cleaner, where the log gave these bytes of its stripe
pub record IsStored (n f : ℕ) (log : SeenLog) (placed : Placed) (new : List ℕ) (blocks : List (List ℕ)) (out : Option ServerId) (fresh : FreshFlush) (plan : List (ServerId × Request)) (given : List ℕ) : Type 0 where
  pub is_fresh : IsFreshFlush n f (flush_of log given placed new) fresh
  pub whole : read_at placed.pieces (flush_of log given placed new).parts ≡ new
  pub pieces : AllZip IsPartOf placed.pieces (flush_of log given placed new).parts
  pub stand : StandEach (flush_of log given placed new).parts placed.ptrs blocks
  pub next : All (GoesNext log.room log.next.stripe given) (flush_of log given placed new).parts
  pub rise : StripesRise (flush_of log given placed new).parts
  pub end : end_with log.next (last_of (flush_of log given placed new).parts) ≡ placed.next
  pub requests : plan ≡ plan_requests n f out Cleaner (flush_of log given placed new)
  -- each request is about a stripe of the batch
  pub about : All (λ asked. IsAbout log.next.stripe placed.next.stripe asked.1) plan

-- The batch of these copies, with its number, for the members that were seen: placed next in the log, its meta part
-- before its blocks, and sealed, with the requests that store it.
pub record IsFormed (n f : ℕ) (log : SeenLog) (number : ℕ) (members : Members) (copies : Copies) (formed : Formed) : Type 0 where
  pub seen : formed.sealed.members ≡ members
  pub moves : Moves log.log number copies.live formed.sealed
  pub spelled : IsSpellable formed.sealed.batch
  pub whole : 1 ≤ number → IsBatch formed.sealed.batch
  pub laid : IsLaid log (meta_length formed.sealed.batch) (map length copies.blocks) formed.sealed.placed
  -- the log may go on behind it
  pub is_sealed : IsSealed log formed.sealed.placed formed.fresh
  pub log_is : formed.fresh.log ≡ log.log
  pub room : All (HasRoom log.room) formed.fresh.parts
  pub ahead : All (LiesAhead log.next.stripe) formed.fresh.parts
  -- whichever bytes the log gave of its stripe
  pub stored : ForGiven log (IsStored n f log formed.sealed.placed (spelling_of_batch formed.sealed.batch ++ concat copies.blocks) copies.blocks (writers_out members.state) formed.fresh formed.plan)

-- the batch of some blocks, before its new pointers are known: its length is that of each batch that moves them
abbrev pub drafted : LogId → ℕ → List Body → Batch
drafted log number live = clean_batch log number (moves live (old_ptrs live))

-- where the batch of these blocks can be spelled, it goes above the last stripe that the log may have
abbrev pub IsTooFar : SeenLog → ℕ → List Body → Type 0
IsTooFar log number live = IsSpellable (drafted log.log number live)
    → last_stripe < (laid_next log (meta_length (drafted log.log number live)) (old_lengths live)).next.stripe
