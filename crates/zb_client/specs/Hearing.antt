-- What an answer makes of a client, kind by kind.
use Rattle.std.specs.Prelude.{◌≡◌, ℕ, ◌+◌, ◌-◌, ◌/◌, ◌^◌, min, Bool, true, false, ◌&&◌, ◌||◌, ◌==◌, nat_lt, nat_le, bit_and, if◌then◌else◌, List, [], ◌∷◌, ◌++◌, length, Option, Some, None}
use Rattle.std.specs.Bool.{MatchBool}
use Rattle.zb_types.specs.declared.ids.ServerId.{ServerId}
use Rattle.zb_types.specs.declared.ids.Ptr.{Ptr}
use Rattle.zb_types.specs.declared.nodes.Cause.{Cause}
use Rattle.zb_types.specs.declared.nodes.Cause.TheVariants.{Unreachable, Down as IsDown, NoSpace}
use Rattle.zb_types.specs.declared.calls.Reply.{Reply}
use Rattle.zb_types.specs.declared.calls.Call.{Call}
use Rattle.zb_types.specs.declared.lines.Said.TheVariants as said
use Rattle.zb_types.specs.declared.requests.Request.{Request}
use Rattle.zb_types.specs.declared.requests.Response.{Response}
use Rattle.zb_types.specs.declared.tables.Found.{Found}
use Rattle.zb_types.specs.declared.tables.CommitFault.{CommitFault}
use Rattle.zb_types.specs.declared.tables.CommitFault.TheVariants as commit_fault
use Rattle.zb_types.specs.declared.tables.MarkFault.{MarkFault}
use Rattle.zb_types.specs.declared.tables.MarkFault.TheVariants as mark_fault
use Rattle.zb_types.specs.Apply.{is_update, is_bufferable}
use Rattle.zb_types.specs.Limits.{most_kept}
use Rattle.zb_stripe.specs.declared.read_plan.Got.{Got}
use Rattle.zb_stripe.specs.declared.read_plan.Got.TheVariants as got
use Rattle.zb_stripe.specs.declared.write_plan.Fed.{Fed}
use Rattle.zb_stripe.specs.declared.write_plan.Fed.TheVariants as fed
use Rattle.zb_stripe.specs.Reading.{Reading, start, fed as read_fed}
use Rattle.zb_stripe.specs.Feeding.{fed_by, left_after}
use Rattle.zb_log.specs.Logs.{SeenLog, gone_on}
use Rattle.zb_basis.specs.declared.calls.Numbered.{Numbered}
use Rattle.zb_basis.specs.declared.basis.Basis.{Basis}
use Rattle.zb_basis.specs.declared.basis.Formed.{Formed}
use Rattle.zb_basis.specs.Runs.{run_of}
use Rattle.zb_basis.specs.Forming.{IsFormed, IsTooFar, log_from, readers_out}
use Rattle.zb_basis.specs.Reading.{IsReadReply}
use Rattle.zb_basis.specs.Delivering.{stripe_of}
use Rattle.zb_work.specs.declared.work.Task.{Task}
use Rattle.zb_work.specs.declared.work.Aim.TheVariants.{Update, Read}
use Rattle.zb_work.specs.declared.work.Step.{Step}
use Rattle.zb_work.specs.declared.work.Step.TheVariants.{Lookup, Fetch, Store, Mark, Commit}
use Rattle.zb_work.specs.declared.work.Flushed.{Flushed}
use Rattle.zb_work.specs.Steps.{step_of, new_task, is_commit, first_members}
use Rattle.zb_work.specs.Blocks.{slots_of, next_missing, filled, asked_for, put_in}
use Rattle.zb_work.specs.Fitting.{wanted_for}
pub use Rattle.zb_steps.specs.Going.{behind, with_block, is_whole}
pub use Rattle.zb_steps.specs.Serving.{serves, first_stripe, noted, left}
use Rattle.zb_client.specs.declared.steps.Answer.{Answer}
use Rattle.zb_client.specs.declared.steps.Answer.TheVariants as answer
use Rattle.zb_client.specs.Seen.{SeenClient, at_step, leaves}
use Rattle.zb_client.specs.Telling.{Heard, silent, tells, line, looks_anew, answers_read, gives_up, reply_lines}

-- A call is taken.

-- an update is kept: told at once where fewer than eight are kept with it, else the commit of all begins
abbrev pub keeps : SeenClient → Numbered → Heard
keeps c call = if is_bufferable call.call && nat_lt (length c.kept) most_kept then tells c (line c call.number said.Buffered ∷ []) else silent (record c { task = new_task (Update call.number) })

-- the first of the queued calls is taken: an update is kept, and a read is at work behind the commit of all kept calls
abbrev pub takes_first : SeenClient → List Numbered → Heard
takes_first c [] = silent c
takes_first c (call ∷ rest) =
    if is_update call.call then keeps (record c { kept = c.kept ++ call ∷ []; queue = rest }) call else silent (record c { task = new_task Read })

-- the next queued call is taken
abbrev pub takes_call : SeenClient → Heard
takes_call c = takes_first c c.queue

-- A lookup is answered.

-- the log in which the next batch goes next, for what was looked up
abbrev pub log_for : SeenClient → Basis → SeenLog
log_for c basis = log_from c.log (behind c.flushed (first_members basis.found).generation)

-- the next batch is formed, and its requests stand
pub record Forms (c : SeenClient) (basis : Basis) (heard : Heard) : Type 0 where
  pub formed : Formed
  pub is_formed : IsFormed c.servers c.fragment c.block (log_for c basis) c.batch (first_members basis.found) (run_of c.kept) basis formed
  pub is : heard ≡ silent (record (at_step c (Store basis formed)) { log = log_for c basis })

-- the read is answered from the blocks that are there
pub record Replies (c : SeenClient) (basis : Basis) (call : Call) (heard : Heard) : Type 0 where
  pub reply : Reply
  pub right : IsReadReply c.block basis call reply
  pub is : heard ≡ answers_read c (said.Reply reply)

-- the first queued call is answered
abbrev pub RepliesFirst : SeenClient → Basis → List Numbered → Heard → Type 0
RepliesFirst c basis [] heard = ⊥
RepliesFirst c basis (read ∷ rest) heard = Replies c basis read.call heard

-- all blocks are there: the next batch of the kept calls is formed, or else the read is answered
abbrev pub HasAll : SeenClient → Basis → List Numbered → Heard → Type 0
HasAll c basis [] heard = RepliesFirst c basis c.queue heard
HasAll c basis (first ∷ others) heard = Forms c basis heard

-- the block at this place is read, while one is missing
abbrev pub GoesOnAt : SeenClient → Basis → Option (ℕ × Ptr) → Heard → Type 0
GoesOnAt c basis None heard = HasAll c basis c.kept heard
GoesOnAt c basis (Some (at, ptr)) heard =
    heard ≡ silent (at_step c (Fetch basis at ptr (start c.servers c.fragment ptr (readers_out (first_members basis.found).state))))

-- with what is there now the batch, or the read, goes on
abbrev pub GoesOn : SeenClient → Basis → Heard → Type 0
GoesOn c basis heard = GoesOnAt c basis (next_missing basis.fetched) heard

-- what the work rests on once this was found: of the blocks that are wanted, those in the cache are there
abbrev pub looked_up : SeenClient → List Found → Basis
looked_up c found = record {
  found = found;
  wanted = wanted_for c.block c.kept c.queue found;
  fetched = slots_of c.cache (wanted_for c.block c.kept c.queue found);
}

-- the cache was asked for these blocks
abbrev pub asks : SeenClient → List Ptr → SeenClient
asks c wanted = record c { cache = asked_for wanted c.cache }

-- a lookup is answered
abbrev pub HearsLookup : SeenClient → Answer → Heard → Type 0
HearsLookup c (answer.Found found) heard = GoesOn (asks c (wanted_for c.block c.kept c.queue found)) (looked_up c found) heard
HearsLookup c (answer.Named reply) heard = heard ≡ answers_read c (said.Reply reply)
HearsLookup c answer.Down heard = heard ≡ gives_up c IsDown
HearsLookup c answer.Doubt heard = heard ≡ gives_up c IsDown
HearsLookup c other heard = ⊥

-- A fetch is answered.

-- two servers didn't answer: where one of them serves again, it is looked up anew
abbrev pub hears_unreachable : SeenClient → ServerId → ServerId → ℕ → Heard
hears_unreachable c a b serving = if serves serving a || serves serving b then looks_anew c else gives_up c (Unreachable a b)

-- a block was fetched, and is in the cache
abbrev pub caches : SeenClient → Ptr → List ℕ → SeenClient
caches c ptr bytes = record c { cache = put_in c.cache ptr bytes }

-- what the response made of the read; bytes of another length than the pointer's don't come
abbrev pub HearsGot : SeenClient → Basis → ℕ → Ptr → Reading → ℕ → Got → Heard → Type 0
HearsGot c basis at ptr plan serving got.More heard = heard ≡ silent (at_step c (Fetch basis at ptr plan))
HearsGot c basis at ptr plan serving (got.Bytes bytes) heard =
    MatchBool (is_whole ptr bytes) (GoesOn (caches c ptr bytes) (with_block basis at ptr bytes) heard) (heard ≡ looks_anew c)
HearsGot c basis at ptr plan serving (got.Unreachable a b) heard = heard ≡ hears_unreachable c a b serving
HearsGot c basis at ptr plan serving got.Gone heard = heard ≡ looks_anew c
HearsGot c basis at ptr plan serving (got.Old now) heard = heard ≡ looks_anew c

-- a fetch is answered
abbrev pub HearsFetch : SeenClient → Step → Response → ℕ → Heard → Type 0
HearsFetch c (Fetch basis at ptr plan) response serving heard = HearsGot c basis at ptr (read_fed plan response).0 serving (read_fed plan response).1 heard
HearsFetch c other response serving heard = ⊥

-- A store is answered.

-- the batch is stored: the log goes on behind it, and it is to be committed
abbrev pub stored : SeenClient → Basis → Formed → Heard
stored c basis formed = silent (record (at_step c (Commit basis formed.sealed)) { log = gone_on c.log formed.sealed.placed.next formed.fresh.parts })

-- what the response made of a flush
abbrev pub goes_on_storing : SeenClient → Basis → Formed → Response → Fed → Heard
goes_on_storing c basis formed response fed.More = silent (at_step c (Store basis (left formed response)))
goes_on_storing c basis formed response fed.Done = stored c basis formed
goes_on_storing c basis formed response (fed.Down server) = silent (at_step c (Mark server formed.sealed.members.generation))
goes_on_storing c basis formed response (fed.NoSpace server free) = gives_up c (NoSpace server)
goes_on_storing c basis formed response (fed.Old now) = looks_anew c
goes_on_storing c basis formed response fed.NoMemory = silent (at_step c (Store basis (left formed response)))

-- a request was answered
abbrev pub notes : SeenClient → Formed → Fed → SeenClient
notes c formed came = record c { flushed = Some (noted formed came) }

-- a store is answered
abbrev pub HearsStore : SeenClient → Step → Response → Heard → Type 0
HearsStore c (Store basis formed) response heard = heard ≡ goes_on_storing (notes c formed (fed_by formed.plan response)) basis formed response (fed_by formed.plan response)
HearsStore c other response heard = ⊥

-- A mark is answered.

-- two servers, the one with the lesser number first
abbrev pub unreachable : ServerId → ServerId → Cause
unreachable a b = if nat_lt a.0 b.0 then Unreachable a b else Unreachable b a

-- another server doesn't serve either
abbrev pub hears_refusal : SeenClient → ServerId → MarkFault → Heard
hears_refusal c server (mark_fault.Refused other) = gives_up c (unreachable server other)
hears_refusal c server fault = gives_up c IsDown

-- a mark is answered
abbrev pub HearsMark : SeenClient → ServerId → Answer → Heard → Type 0
HearsMark c server answer.Marked heard = heard ≡ looks_anew c
HearsMark c server (answer.NotMarked fault) heard = heard ≡ hears_refusal c server fault
HearsMark c server other heard = heard ≡ gives_up c IsDown

-- A commit is answered.

-- the batch is committed: the replies are told, its calls leave, and the next batch or the read is at work
abbrev pub commits : SeenClient → List Reply → Heard
commits c replies = tells (leaves c (length replies)) (reply_lines c.client c.kept replies)

-- the batch was Stale once more
abbrev pub tried : Option Task → Option Task
tried None = None
tried (Some task) = Some (record task { tries = min (task.tries + 1) (2 ^ 32 - 1) })

-- the batch is behind a version, or behind the members, and is looked up anew
abbrev pub hears_outdated : SeenClient → CommitFault → Heard
hears_outdated c (commit_fault.Stale fid seen now) = looks_anew (record c { task = tried c.task })
hears_outdated c fault = looks_anew c

-- the file manager stopped in the turn: a batch that was being committed is in doubt
abbrev pub hears_doubt : SeenClient → Step → Heard
hears_doubt c step = gives_up (if is_commit step then record c { doubted = length (run_of c.kept) } else c) IsDown

-- a commit is answered
abbrev pub HearsCommit : SeenClient → Step → Answer → Heard → Type 0
HearsCommit c step (answer.Committed replies) heard = heard ≡ commits c replies
HearsCommit c step (answer.NotCommitted fault) heard = heard ≡ hears_outdated c fault
HearsCommit c step answer.Doubt heard = heard ≡ hears_doubt c step
HearsCommit c step other heard = heard ≡ gives_up c IsDown

-- Any answer.

-- what an answer to a step's wish makes of a client, and what it tells
abbrev pub HearsStep : SeenClient → Step → Answer → Heard → Type 0
HearsStep c Lookup a heard = HearsLookup c a heard
HearsStep c (Fetch basis at ptr plan) (answer.Server response serving) heard = HearsFetch c (Fetch basis at ptr plan) response serving heard
HearsStep c (Store basis formed) (answer.Server response serving) heard = HearsStore c (Store basis formed) response heard
HearsStep c (Mark server generation) a heard = HearsMark c server a heard
HearsStep c (Commit basis sealed) a heard = HearsCommit c (Commit basis sealed) a heard
HearsStep c step a heard = ⊥

-- what the move inside, or an answer to the work, makes of a client
abbrev pub HearsTask : SeenClient → Option Task → Answer → Heard → Type 0
HearsTask c None a heard = heard ≡ takes_call c
HearsTask c (Some task) a heard = HearsStep c task.step a heard

-- what an answer to the wish that stands makes of a client, and what it tells
abbrev pub Hears : SeenClient → Answer → Heard → Type 0
Hears c a heard = HearsTask c c.task a heard

-- A worn log.

-- the next batch goes above the last stripe that the log may have
abbrev pub CannotGo : SeenClient → Basis → Type 0
CannotGo c basis = IsTooFar c.block (log_for c basis) c.batch (run_of c.kept) basis

-- the block with these bytes was the last that was missing of a batch that cannot go
abbrev pub WearsGot : SeenClient → Basis → ℕ → Ptr → Got → Type 0
WearsGot c basis at ptr (got.Bytes bytes) = CannotGo c (with_block basis at ptr bytes)
WearsGot c basis at ptr other = ⊥

-- so it is with this response to a fetch
abbrev pub WearsFetch : SeenClient → Step → Response → Type 0
WearsFetch c (Fetch basis at ptr plan) response = WearsGot c basis at ptr (read_fed plan response).1
WearsFetch c other response = ⊥

-- with this answer all blocks of the next batch are there, and it cannot go
abbrev pub Wears : SeenClient → Answer → Type 0
Wears c (answer.Found found) = CannotGo c (looked_up c found)
Wears c (answer.Server response serving) = WearsFetch c (step_of c.task) response
Wears c other = ⊥
