-- How a client's work goes on with what was looked up and fetched.
use Rattle.std.specs.Prelude.{◌≡◌, ℕ, Bool, ◌&&◌, ◌==◌, nat_lt, if◌then◌else◌, List, [], ◌∷◌, length, Option, Some, None}
use Rattle.zb_types.specs.declared.ids.Ptr.{Ptr}
use Rattle.zb_types.specs.declared.calls.Reply.{Reply}
use Rattle.zb_types.specs.declared.calls.Call.{Call}
use Rattle.zb_types.specs.declared.tables.Found.{Found}
use Rattle.zb_stripe.specs.Reading.{start}
use Rattle.zb_log.specs.Logs.{SeenLog}
use Rattle.zb_basis.specs.declared.calls.Numbered.{Numbered}
use Rattle.zb_basis.specs.declared.basis.Basis.{Basis}
use Rattle.zb_basis.specs.declared.basis.Formed.{Formed}
use Rattle.zb_basis.specs.Runs.{run_of}
use Rattle.zb_basis.specs.Forming.{IsFormed, IsTooFar, log_from, readers_out}
use Rattle.zb_basis.specs.Reading.{IsReadReply}
use Rattle.zb_work.specs.declared.work.Step.{Step}
use Rattle.zb_work.specs.declared.work.Step.TheVariants.{Fetch, Store}
use Rattle.zb_work.specs.declared.work.Flushed.{Flushed}
use Rattle.zb_work.specs.Steps.{first_members}
use Rattle.zb_work.specs.Blocks.{slots_of, next_missing, filled, asked_for, put_in}
use Rattle.zb_work.specs.Fitting.{wanted_for, StepFits}
use Rattle.zb_steps.specs.declared.next.Next.{Next}
use Rattle.zb_steps.specs.declared.next.Next.TheVariants as next
use Rattle.zb_steps.specs.Desks.{SeenDesk}

-- a client's desk, and how its work goes on
pub record Onward : Type 0 where
  pub desk : SeenDesk
  pub next : Next

-- the work goes on at this step
abbrev pub steps : SeenDesk → Step → Onward
steps d step = record { desk = d; next = next.Step step }

-- what is true of the step at which the work goes on, while no batch is in doubt
abbrev pub NextFits : SeenDesk → List Numbered → List Numbered → Next → Type 0
NextFits d kept queue (next.Step step) = StepFits d.servers d.fragment d.block d.log kept queue 0 step
NextFits d kept queue (next.Reply reply) = Unit {0}
NextFits d kept queue (next.Stuck cause) = Unit {0}

-- the log goes on behind the last stripe of its last flush, where the generation is another than that one's, or it
-- didn't reach its end
abbrev pub behind : Option Flushed → ℕ → Option ℕ
behind None generation = None
behind (Some last) generation = if last.ended && last.generation == generation then None else Some last.stripe

-- the log in which the next batch goes next, for what was looked up
abbrev pub log_for : SeenDesk → Basis → SeenLog
log_for d basis = log_from d.log (behind d.flushed (first_members basis.found).generation)

-- the next batch is formed, and its requests stand
pub record Forms (d : SeenDesk) (kept : List Numbered) (basis : Basis) (on : Onward) : Type 0 where
  pub formed : Formed
  pub is_formed : IsFormed d.servers d.fragment d.block (log_for d basis) d.batch (first_members basis.found) (run_of kept) basis formed
  pub is : on ≡ steps (record d { log = log_for d basis }) (Store basis formed)

-- the read is answered from the blocks that are there
pub record Replies (d : SeenDesk) (basis : Basis) (call : Call) (on : Onward) : Type 0 where
  pub reply : Reply
  pub right : IsReadReply d.block basis call reply
  pub is : on ≡ record { desk = d; next = next.Reply reply }

-- the first queued call is answered
abbrev pub RepliesFirst : SeenDesk → List Numbered → Basis → Onward → Type 0
RepliesFirst d [] basis on = ⊥
RepliesFirst d (read ∷ rest) basis on = Replies d basis read.call on

-- all blocks are there: the next batch of the kept calls is formed, or else the read is answered
abbrev pub HasAll : SeenDesk → List Numbered → List Numbered → Basis → Onward → Type 0
HasAll d [] queue basis on = RepliesFirst d queue basis on
HasAll d (first ∷ others) queue basis on = Forms d (first ∷ others) basis on

-- the block at this place is read, while one is missing
abbrev pub GoesOnAt : SeenDesk → List Numbered → List Numbered → Basis → Option (ℕ × Ptr) → Onward → Type 0
GoesOnAt d kept queue basis None on = HasAll d kept queue basis on
GoesOnAt d kept queue basis (Some (at, ptr)) on =
    on ≡ steps d (Fetch basis at ptr (start d.servers d.fragment ptr (readers_out (first_members basis.found).state)))

-- with what is there now the batch, or the read, goes on
abbrev pub GoesOn : SeenDesk → List Numbered → List Numbered → Basis → Onward → Type 0
GoesOn d kept queue basis on = GoesOnAt d kept queue basis (next_missing basis.fetched) on

-- what the work rests on once this was found: of the blocks that are wanted, those in the cache are there
abbrev pub looked_up : SeenDesk → List Numbered → List Numbered → List Found → Basis
looked_up d kept queue found = record {
  found = found;
  wanted = wanted_for d.block kept queue found;
  fetched = slots_of d.cache (wanted_for d.block kept queue found);
}

-- the cache was asked for these blocks
abbrev pub asks : SeenDesk → List Ptr → SeenDesk
asks d wanted = record d { cache = asked_for wanted d.cache }

-- what a lookup found is taken
abbrev pub FoundGives : SeenDesk → List Numbered → List Numbered → List Found → Onward → Type 0
FoundGives d kept queue found on = GoesOn (asks d (wanted_for d.block kept queue found)) kept queue (looked_up d kept queue found) on

-- what the work rests on once a block's bytes have come
abbrev pub with_block : Basis → ℕ → Ptr → List ℕ → Basis
with_block basis at ptr bytes = record basis { fetched = filled basis.fetched at ptr bytes }

-- a block was fetched, and is in the cache
abbrev pub caches : SeenDesk → Ptr → List ℕ → SeenDesk
caches d ptr bytes = record d { cache = put_in d.cache ptr bytes }

-- these are all bytes of a pointer, which has some
abbrev pub is_whole : Ptr → List ℕ → Bool
is_whole ptr bytes = length bytes == ptr.len && nat_lt 0 (length bytes)

-- the next batch goes above the last stripe that the log may have
abbrev pub CannotGo : SeenDesk → List Numbered → Basis → Type 0
CannotGo d kept basis = IsTooFar d.block (log_for d basis) d.batch (run_of kept) basis
