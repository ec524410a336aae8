-- What lies ahead of a batch or a read with the blocks that are there.
use Rattle.std.specs.Prelude.{◌≡◌, ℕ, List, [], ◌∷◌, Option, Some, None}
use Rattle.zb_types.specs.declared.ids.Ptr.{Ptr}
use Rattle.zb_types.specs.declared.ids.ServerId.{ServerId}
use Rattle.zb_types.specs.declared.calls.Reply.{Reply}
use Rattle.zb_types.specs.declared.memory.NoMemory.{NoMemory}
use Rattle.zb_stripe.specs.declared.read_plan.Got.{Got}
use Rattle.zb_stripe.specs.declared.read_plan.Got.TheVariants as got
use Rattle.zb_stripe.specs.Reading.{start}
use Rattle.zb_basis.specs.declared.calls.Numbered.{Numbered}
use Rattle.zb_basis.specs.declared.basis.Basis.{Basis}
use Rattle.zb_basis.specs.Runs.{run_of}
use Rattle.zb_basis.specs.Forming.{IsFormed, readers_out}
use Rattle.zb_basis.specs.Reading.{IsReadReply}
use Rattle.zb_work.specs.declared.work.Step.TheVariants.{Fetch, Store}
use Rattle.zb_work.specs.Steps.{first_members}
use Rattle.zb_work.specs.Blocks.{next_missing}
use Rattle.zb_steps.specs.declared.next.Ahead.{Ahead}
use Rattle.zb_steps.specs.declared.next.Ahead.TheVariants as ahead
use Rattle.zb_steps.specs.declared.next.Next.TheVariants as next
use Rattle.zb_steps.specs.Desks.{SeenDesk}
use Rattle.zb_steps.specs.Going.{Onward, steps, log_for}

-- this is the reply to the first queued call
abbrev pub IsReplyFor : ℕ → Basis → List Numbered → Reply → Type 0
IsReplyFor b basis [] reply = ⊥
IsReplyFor b basis (read ∷ rest) reply = IsReadReply b basis read.call reply

-- all blocks are there: this is how the next batch of these kept calls, or the read, goes on
abbrev pub IsAheadOfAll : SeenDesk → List Numbered → List Numbered → Basis → Ahead → Type 0
IsAheadOfAll d [] queue basis (ahead.Reply reply) = IsReplyFor d.block basis queue reply
IsAheadOfAll d (first ∷ others) queue basis (ahead.Store formed) =
    IsFormed d.servers d.fragment d.block (log_for d basis) d.batch (first_members basis.found) (run_of (first ∷ others)) basis formed
IsAheadOfAll d kept queue basis other = ⊥

-- this is how the work goes on where this block is the first that is missing
abbrev pub IsAheadAt : SeenDesk → List Numbered → List Numbered → Basis → Option (ℕ × Ptr) → Ahead → Type 0
IsAheadAt d kept queue basis None a = IsAheadOfAll d kept queue basis a
IsAheadAt d kept queue basis (Some (at, ptr)) (ahead.Fetch k p plan) =
    (k ≡ at) × (p ≡ ptr) × (plan ≡ start d.servers d.fragment ptr (readers_out (first_members basis.found).state))
IsAheadAt d kept queue basis (Some missing) other = ⊥

-- this is how the work goes on with what is there
abbrev pub IsAhead : SeenDesk → List Numbered → List Numbered → Basis → Ahead → Type 0
IsAhead d kept queue basis a = IsAheadAt d kept queue basis (next_missing basis.fetched) a

-- the work goes on so
abbrev pub goes_on : SeenDesk → Basis → Ahead → Onward
goes_on d basis (ahead.Fetch at ptr plan) = steps d (Fetch basis at ptr plan)
goes_on d basis (ahead.Store formed) = steps (record d { log = log_for d basis }) (Store basis formed)
goes_on d basis (ahead.Reply reply) = record { desk = d; next = next.Reply reply }
