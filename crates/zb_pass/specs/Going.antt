-- How a pass goes on.
use Rattle.std.specs.Prelude.{◌≡◌, ℕ, ◌||◌, nat_lt, if◌then◌else◌, List, [], ◌∷◌, ◌++◌, Option, Some, None}
use Rattle.std.specs.Bool.{MatchBool}
use Rattle.zb_types.specs.declared.ids.ServerId.{ServerId}
use Rattle.zb_types.specs.declared.lines.Ended.{Ended}
use Rattle.zb_types.specs.declared.lines.Ended.TheVariants.{Needed, Mending as IsMending}
use Rattle.zb_types.specs.declared.lines.Pass.{Pass}
use Rattle.zb_types.specs.declared.lines.Pass.TheVariants.{Nothing, Done, Failed}
use Rattle.zb_types.specs.declared.nodes.Cause.{Cause}
use Rattle.zb_types.specs.declared.nodes.Cause.TheVariants.{Unreachable, NoSpace, Down as IsDown}
use Rattle.zb_types.specs.declared.nodes.Members.{Members}
use Rattle.zb_types.specs.declared.requests.Response.{Response}
use Rattle.zb_types.specs.declared.tables.MarkFault.{MarkFault}
use Rattle.zb_types.specs.declared.tables.MarkFault.TheVariants as mark_fault
use Rattle.zb_types.specs.declared.tables.RetireFault.{RetireFault}
use Rattle.zb_types.specs.declared.tables.RetireFault.TheVariants as retire_fault
use Rattle.zb_types.specs.declared.tables.Status.{Status}
use Rattle.zb_stripe.specs.declared.read_plan.Got.{Got}
use Rattle.zb_stripe.specs.declared.read_plan.Got.TheVariants as got
use Rattle.zb_stripe.specs.declared.write_plan.Fed.{Fed}
use Rattle.zb_stripe.specs.declared.write_plan.Fed.TheVariants as fed
use Rattle.zb_stripe.specs.Reading.{Reading, start, fed as read_fed}
use Rattle.zb_stripe.specs.Feeding.{fed_by}
use Rattle.zb_log.specs.Logs.{gone_on}
use Rattle.zb_delta.specs.declared.delta.Body.{Body}
use Rattle.zb_basis.specs.declared.basis.Formed.{Formed}
use Rattle.zb_basis.specs.Forming.{readers_out}
use Rattle.zb_usage.specs.declared.stripe_use.StripeUse.{StripeUse}
use Rattle.zb_steps.specs.Going.{is_whole}
use Rattle.zb_steps.specs.Serving.{serves, noted, left}
use Rattle.zb_pass.specs.declared.work.Target.{Target}
use Rattle.zb_pass.specs.declared.work.Cleaning.{Cleaning}
use Rattle.zb_pass.specs.declared.work.Work.{Work}
use Rattle.zb_pass.specs.declared.work.Work.TheVariants.{Lookup, Fetch, Store, Mark, Commit, Retire, Sweep, Delete}
use Rattle.zb_pass.specs.declared.work.Next.{Next}
use Rattle.zb_pass.specs.declared.work.Next.TheVariants as next
use Rattle.zb_pass.specs.Copying.{next_body}
use Rattle.zb_pass.specs.Picking.{candidates, live_of, target_of, IsOneOf}
use Rattle.zb_pass.specs.Forming.{IsFormed, IsTooFar}
use Rattle.zb_pass.specs.Seen.{SeenWriter, log_for}
use Rattle.zb_pass.specs.Sweeping.{sweeps, swept, deleted}

-- the log, and how the pass goes on
pub record Onward : Type 0 where
  pub writer : SeenWriter
  pub next : Next

-- the pass works on so
abbrev pub works : SeenWriter → Work → Onward
works w work = record { writer = w; next = next.Work work }

-- the pass ends with this line
abbrev pub ends : SeenWriter → Pass → Onward
ends w line = record { writer = w; next = next.End line }

-- the pass can't go on
abbrev pub fails : SeenWriter → Cause → Onward
fails w cause = ends w (Failed cause)

-- A pick.

-- the pass begins with the first block of its stripe, or retires it at once, where no pointer names it
abbrev pub begins : ℕ → ℕ → Target → Members → List Body → Work
begins n f target members [] = Retire target 0 0
begins n f target members (body ∷ bodies) =
    Fetch (record { target = target; members = members; copies = record { live = body ∷ bodies; blocks = [] } }) (start n f body.now (readers_out members.state))

-- a stripe was chosen: the pointers into it are the blocks to be copied
abbrev pub begins_at : SeenWriter → Status → List Body → StripeUse → Work
begins_at w status live chosen =
    begins w.servers w.fragment (target_of w.log.log status chosen) status.members (live_of chosen.log chosen.stripe live)

-- one of the stripes that may be cleaned is picked, and its pass begins
pub record Picks (w : SeenWriter) (status : Status) (live : List Body) (work : Work) : Type 0 where
  pub chosen : StripeUse
  pub is_one : IsOneOf (candidates status live) chosen
  pub is : work ≡ begins_at w status live chosen

-- a stripe is picked; where none may be cleaned, strays are swept
abbrev pub PickGivesOf : SeenWriter → Status → List Body → List StripeUse → Work → Type 0
PickGivesOf w status live [] work = work ≡ sweeps Nothing status
PickGivesOf w status live (c ∷ cs) work = Picks w status live work

-- what the status and the pointers into held stripes make of a pick
abbrev pub PickGives : SeenWriter → Status → List Body → Work → Type 0
PickGives w status live work = PickGivesOf w status live (candidates status live) work

-- Copying.

-- all blocks have come: their batch is formed, and its requests stand
pub record Forms (w : SeenWriter) (cleaning : Cleaning) (on : Onward) : Type 0 where
  pub formed : Formed
  pub is_formed : IsFormed w.servers w.fragment (log_for w cleaning.members.generation) cleaning.target.number cleaning.members cleaning.copies formed
  pub is : on ≡ works (record w { log = log_for w cleaning.members.generation }) (Store cleaning formed)

-- this is the first block that hasn't come, and it is read
abbrev pub GoesOnAt : SeenWriter → Cleaning → Option Body → Onward → Type 0
GoesOnAt w cleaning None on = Forms w cleaning on
GoesOnAt w cleaning (Some body) on = on ≡ works w (Fetch cleaning (start w.servers w.fragment body.now (readers_out cleaning.members.state)))

-- with the blocks that have come the pass goes on
abbrev pub GoesOn : SeenWriter → Cleaning → Onward → Type 0
GoesOn w cleaning on = GoesOnAt w cleaning (next_body cleaning.copies) on

-- these members were seen
abbrev pub with_members : Cleaning → Members → Cleaning
with_members cleaning members = record cleaning { members = members }

-- one more block has come
abbrev pub with_block : Cleaning → List ℕ → Cleaning
with_block cleaning bytes = record cleaning { copies = record { live = cleaning.copies.live; blocks = cleaning.copies.blocks ++ bytes ∷ [] } }

-- A fetch.

-- two servers didn't answer: where one of them serves again, the members are looked up anew
abbrev pub unreached : Cleaning → ServerId → ServerId → ℕ → Next
unreached cleaning a b serving = if serves serving a || serves serving b then next.Work (Lookup cleaning) else next.End (Failed (Unreachable a b))

-- what a response that brought no block made of a read
abbrev pub lacked : Cleaning → Reading → ℕ → Got → Next
lacked cleaning plan serving got.More = next.Work (Fetch cleaning plan)
lacked cleaning plan serving (got.Unreachable a b) = unreached cleaning a b serving
lacked cleaning plan serving other = next.Work (Lookup cleaning)

-- a block has come; bytes of another length than its pointer's don't come
abbrev pub BytesGive : SeenWriter → Cleaning → Reading → List ℕ → Onward → Type 0
BytesGive w cleaning plan bytes on = MatchBool (is_whole plan.ptr bytes) (GoesOn w (with_block cleaning bytes) on) (on ≡ works w (Lookup cleaning))

-- what a response made of a read
abbrev pub GotGives : SeenWriter → Cleaning → Reading → ℕ → Got → Onward → Type 0
GotGives w cleaning plan serving (got.Bytes bytes) on = BytesGive w cleaning plan bytes on
GotGives w cleaning plan serving came on = on ≡ record { writer = w; next = lacked cleaning plan serving came }

-- A store.

-- a request was answered
abbrev pub notes : SeenWriter → Formed → Fed → SeenWriter
notes w formed came = record w { flushed = Some (noted formed came) }

-- the batch is stored: the log goes on behind it, and it is to be committed
abbrev pub stored : SeenWriter → Cleaning → Formed → Onward
stored w cleaning formed = works (record w { log = gone_on w.log formed.sealed.placed.next formed.fresh.parts }) (Commit cleaning formed.sealed)

-- what the response made of a flush
abbrev pub stores_on : SeenWriter → Cleaning → Formed → Response → Fed → Onward
stores_on w cleaning formed response fed.More = works w (Store cleaning (left formed response))
stores_on w cleaning formed response fed.Done = stored w cleaning formed
stores_on w cleaning formed response (fed.Down server) = works w (Mark cleaning server formed.sealed.members.generation)
stores_on w cleaning formed response (fed.NoSpace server free) = fails w (NoSpace server)
stores_on w cleaning formed response (fed.Old now) = works w (Lookup cleaning)
stores_on w cleaning formed response fed.NoMemory = works w (Store cleaning (left formed response))

-- a flush goes on with a response
abbrev pub flushes : SeenWriter → Cleaning → Formed → Response → Onward
flushes w cleaning formed response = stores_on (notes w formed (fed_by formed.plan response)) cleaning formed response (fed_by formed.plan response)

-- A server's response.

-- what a response makes of the request that stands
abbrev pub ServerGives : SeenWriter → Work → Response → ℕ → Onward → Type 0
ServerGives w (Fetch cleaning plan) response serving on = GotGives w cleaning (read_fed plan response).0 serving (read_fed plan response).1 on
ServerGives w (Store cleaning formed) response serving on = on ≡ flushes w cleaning formed response
ServerGives w (Sweep sweep after) response serving on = on ≡ record { writer = w; next = swept w.servers sweep response serving }
ServerGives w (Delete sweep left again) response serving on = on ≡ record { writer = w; next = deleted w.servers sweep left again response serving }
ServerGives w other response serving on = ⊥

-- A turn of the file manager.

-- two servers, the one with the lesser number first
abbrev pub two_gone : ServerId → ServerId → Pass
two_gone a b = if nat_lt a.0 b.0 then Failed (Unreachable a b) else Failed (Unreachable b a)

-- the server isn't marked as out, since another doesn't serve either
abbrev pub unmarked : ServerId → MarkFault → Pass
unmarked server (mark_fault.Refused other) = two_gone server other
unmarked server fault = Failed IsDown

-- what keeps a stripe from being retired
abbrev pub end_of : RetireFault → Ended
end_of (retire_fault.Mending server) = IsMending
end_of fault = Needed

-- the stripe was retired or kept, and strays are swept
abbrev pub retires : Target → ℕ → ℕ → Ended → Status → Work
retires target copied rejected end status = sweeps (Done target.log target.stripe copied rejected end) status

-- A worn log.

-- the batch of all blocks cannot go
abbrev pub CannotGo : SeenWriter → Cleaning → Type 0
CannotGo w cleaning = IsTooFar (log_for w cleaning.members.generation) cleaning.target.number cleaning.copies.live

-- the block with these bytes was the last that hadn't come of a batch that cannot go
abbrev pub GotWears : SeenWriter → Cleaning → Got → Type 0
GotWears w cleaning (got.Bytes bytes) = CannotGo w cleaning
GotWears w cleaning other = ⊥

-- with this response all blocks have come, and their batch cannot go
abbrev pub ServerWears : SeenWriter → Work → Response → Type 0
ServerWears w (Fetch cleaning plan) response = GotWears w cleaning (read_fed plan response).1
ServerWears w other response = ⊥
