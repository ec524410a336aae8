-- What a server's response makes of the work.
use Rattle.std.specs.Prelude.{◌≡◌, ℕ, ◌+◌, ◌-◌, ◌/◌, ◌^◌, Bool, true, false, ◌&&◌, ◌||◌, ◌==◌, nat_le, bit_and, if◌then◌else◌, List, [], ◌∷◌, Some}
use Rattle.std.specs.Bool.{MatchBool}
use Rattle.zb_types.specs.declared.ids.ServerId.{ServerId}
use Rattle.zb_types.specs.declared.ids.Ptr.{Ptr}
use Rattle.zb_types.specs.declared.nodes.Cause.TheVariants.{Unreachable, NoSpace}
use Rattle.zb_types.specs.declared.requests.Request.{Request}
use Rattle.zb_types.specs.declared.requests.Response.{Response}
use Rattle.zb_types.specs.declared.requests.Response.TheVariants as told
use Rattle.zb_types.specs.declared.requests.StoreFault.TheVariants as fault
use Rattle.zb_stripe.specs.declared.read_plan.Got.{Got}
use Rattle.zb_stripe.specs.declared.read_plan.Got.TheVariants as got
use Rattle.zb_stripe.specs.declared.write_plan.Fed.{Fed}
use Rattle.zb_stripe.specs.declared.write_plan.Fed.TheVariants as fed
use Rattle.zb_stripe.specs.Reading.{Reading, asked, fed as read_fed, Answers as AnswersRead}
use Rattle.zb_stripe.specs.Feeding.{fed_by, left_after}
use Rattle.zb_log.specs.Logs.{gone_on}
use Rattle.zb_basis.specs.declared.calls.Numbered.{Numbered}
use Rattle.zb_basis.specs.declared.basis.Basis.{Basis}
use Rattle.zb_basis.specs.declared.basis.Formed.{Formed}
use Rattle.zb_basis.specs.Delivering.{stripe_of}
use Rattle.zb_work.specs.declared.work.Step.{Step}
use Rattle.zb_work.specs.declared.work.Step.TheVariants.{Lookup, Fetch, Store, Mark, Commit}
use Rattle.zb_work.specs.declared.work.Flushed.{Flushed}
use Rattle.zb_steps.specs.declared.next.Next.{Next}
use Rattle.zb_steps.specs.declared.next.Next.TheVariants as next
use Rattle.zb_steps.specs.Desks.{SeenDesk}
use Rattle.zb_steps.specs.Going.{Onward, steps, GoesOn, CannotGo, with_block, caches, is_whole}

-- a server that wants memory ends the run, and is no answer
abbrev pub HasMemory : Response → Type 0
HasMemory (told.Refused fault.NoMemory) = ⊥
HasMemory response = Unit {0}

-- a response to the flush that is under way
abbrev pub CanStore : Step → Response → Type 0
CanStore (Store basis formed) response = HasMemory response
CanStore other response = ⊥

-- a response to the read that is under way
abbrev pub CanFetch : Step → Response → Type 0
CanFetch (Fetch basis at ptr plan) response = AnswersRead plan.servers (asked plan) response × HasMemory response
CanFetch other response = ⊥

-- a response to the request that stands
abbrev pub CanServe : Step → Response → Type 0
CanServe (Store basis formed) response = HasMemory response
CanServe step response = CanFetch step response

-- does the response bring bytes?
abbrev pub brings_bytes : Response → Bool
brings_bytes (told.Bytes bytes) = true
brings_bytes (told.Parity lengths bytes) = true
brings_bytes response = false

-- A fetch.

-- is the bit of this server set?
abbrev pub serves : ℕ → ServerId → Bool
serves serving server = nat_le (server.0 - 1) 31 && (bit_and (serving / 2 ^ (server.0 - 1)) 1 == 1)

-- two servers didn't answer: where one of them serves again, it is looked up anew
abbrev pub unreached : ServerId → ServerId → ℕ → Next
unreached a b serving = if serves serving a || serves serving b then next.Step Lookup else next.Stuck (Unreachable a b)

-- what a response that brought no bytes made of a read
abbrev pub lacked : Basis → ℕ → Ptr → Reading → ℕ → Got → Next
lacked basis at ptr plan serving got.More = next.Step (Fetch basis at ptr plan)
lacked basis at ptr plan serving (got.Unreachable a b) = unreached a b serving
lacked basis at ptr plan serving other = next.Step Lookup

-- a block's bytes have come; those of another length than the pointer's don't come
abbrev pub BytesGive : SeenDesk → List Numbered → List Numbered → Basis → ℕ → Ptr → List ℕ → Onward → Type 0
BytesGive d kept queue basis at ptr bytes on =
    MatchBool (is_whole ptr bytes) (GoesOn (caches d ptr bytes) kept queue (with_block basis at ptr bytes) on) (on ≡ steps d Lookup)

-- what a response made of a read
abbrev pub GotGives : SeenDesk → List Numbered → List Numbered → Basis → ℕ → Ptr → Reading → ℕ → Got → Onward → Type 0
GotGives d kept queue basis at ptr plan serving (got.Bytes bytes) on = BytesGive d kept queue basis at ptr bytes on
GotGives d kept queue basis at ptr plan serving came on = on ≡ record { desk = d; next = lacked basis at ptr plan serving came }

-- the block with these bytes was the last that was missing of a batch that cannot go
abbrev pub GotWears : SeenDesk → List Numbered → Basis → ℕ → Ptr → Got → Type 0
GotWears d kept basis at ptr (got.Bytes bytes) = CannotGo d kept (with_block basis at ptr bytes)
GotWears d kept basis at ptr other = ⊥

-- A store.

-- the stripe of the first of some requests
abbrev pub first_stripe : List (ServerId × Request) → ℕ
first_stripe [] = 0
first_stripe (asked ∷ rest) = stripe_of asked.1

-- the flush once a request was answered: where all are carried out its last stripe is the one that the log goes on in
abbrev pub noted : Formed → Fed → Flushed
noted formed fed.Done = record { generation = formed.sealed.members.generation; stripe = formed.sealed.placed.next.stripe; ended = true }
noted formed came = record { generation = formed.sealed.members.generation; stripe = first_stripe formed.plan; ended = false }

-- a request was answered
abbrev pub notes : SeenDesk → Formed → Fed → SeenDesk
notes d formed came = record d { flushed = Some (noted formed came) }

-- the batch, without the request that was carried out
abbrev pub left : Formed → Response → Formed
left formed response = record formed { plan = left_after formed.plan response }

-- the batch is stored: the log goes on behind it, and it is to be committed
abbrev pub stored : SeenDesk → Basis → Formed → Onward
stored d basis formed = steps (record d { log = gone_on d.log formed.sealed.placed.next formed.fresh.parts }) (Commit basis formed.sealed)

-- what the response made of a flush
abbrev pub stores_on : SeenDesk → Basis → Formed → Response → Fed → Onward
stores_on d basis formed response fed.More = steps d (Store basis (left formed response))
stores_on d basis formed response fed.Done = stored d basis formed
stores_on d basis formed response (fed.Down server) = steps d (Mark server formed.sealed.members.generation)
stores_on d basis formed response (fed.NoSpace server free) = record { desk = d; next = next.Stuck (NoSpace server) }
stores_on d basis formed response (fed.Old now) = steps d Lookup
stores_on d basis formed response fed.NoMemory = steps d (Store basis (left formed response))

-- a flush goes on with a response
abbrev pub flushes : SeenDesk → Basis → Formed → Response → Onward
flushes d basis formed response = stores_on (notes d formed (fed_by formed.plan response)) basis formed response (fed_by formed.plan response)

-- Any response.

-- what a response makes of the request that stands
abbrev pub ServerGives : SeenDesk → List Numbered → List Numbered → Step → Response → ℕ → Onward → Type 0
ServerGives d kept queue (Fetch basis at ptr plan) response serving on = GotGives d kept queue basis at ptr (read_fed plan response).0 serving (read_fed plan response).1 on
ServerGives d kept queue (Store basis formed) response serving on = on ≡ flushes d basis formed response
ServerGives d kept queue other response serving on = ⊥

-- with this response to a fetch all blocks of the next batch are there, and it cannot go
abbrev pub ServerWears : SeenDesk → List Numbered → Step → Response → Type 0
ServerWears d kept (Fetch basis at ptr plan) response = GotWears d kept basis at ptr (read_fed plan response).1
ServerWears d kept other response = ⊥
