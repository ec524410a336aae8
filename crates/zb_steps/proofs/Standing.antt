-- A request of a read stands until the read is over.
use Rattle.std.proofs.Common.{◌≡◌, ℕ, ◌+◌, ◌-◌, ◌<◌, ◌⊎◌, inl, inr, Bool, true, false, List, [], ◌∷◌, Option, Some, None, Result, Ok, Err, refl, sym, subst, arith}
use Rattle.std.specs.Prelude.{nat_lt, ◌&&◌, if◌then◌else◌, is_some, OnOk, OnErr}
use Rattle.std.proofs.lemmas.Bool.{lt-ltb}
use Rattle.zb_types.specs.declared.ids.Ptr.{Ptr}
use Rattle.zb_types.specs.declared.ids.ServerId.{ServerId}
use Rattle.zb_types.specs.declared.memory.NoMemory.{NoMemory}
use Rattle.zb_types.specs.declared.requests.Response.{Response}
use Rattle.zb_types.specs.declared.requests.Response.TheVariants as told
use Rattle.zb_stripe.specs.declared.read_plan.Got.{Got}
use Rattle.zb_stripe.specs.declared.read_plan.Got.TheVariants as got
use Rattle.zb_stripe.specs.declared.progress.Phase.{Phase}
use Rattle.zb_stripe.specs.declared.progress.Phase.TheVariants.{Direct, Lengths, Others}
use Rattle.zb_stripe.specs.Reading.{Reading, asked, asked_in, pos_of, end_of, index_of, is_lost, with_phase, first_lost, start, fed, fed_in, own_gone, gained_by, gained, blocked_in, advanced, sought, ended_by, two_lost}
use Rattle.zb_work.specs.Fitting.{Stands}
use Rattle.zb_steps.specs.Serving.{brings_bytes}

-- where the read goes on, a request of it stands
abbrev pub StandsOn : Reading → Got → Type 0
StandsOn plan got.More = Stands plan
StandsOn plan other = Unit {0}

-- while bytes are left a request stands at each phase
stands_at : (r : Reading) (phase : Phase) → nat_lt (pos_of r) (end_of r) ≡ true → is_some (asked_in r phase) ≡ true
stands_at r Direct e = rw e refl
stands_at r Lengths e = refl
stands_at r (Others lengths sum k) e = refl

stands_first : (r : Reading) (t : Bool) → nat_lt (pos_of r) (end_of r) ≡ true → Stands (with_phase r (if t then Lengths else Direct))
stands_first r true e = refl
stands_first r false e = rw e refl

-- a request stands as a read of some bytes begins
pub start_stands : (n f : ℕ) (ptr : Ptr) (out : Option ServerId) → 0 < ptr.len → Stands (start n f ptr out)
start_stands n f ptr out some =
    let r : Reading = record { servers = n; fragment = f; ptr = ptr; lost = first_lost n ptr out; read = []; phase = Direct } in
    stands_first r (nat_lt (pos_of r) (end_of r) && is_lost r (index_of r)) (lt-ltb (pos_of r) (end_of r) (omega arith))

stands_any : (r : Reading) (g : Got) → Stands r → StandsOn r g
stands_any r got.More s = s
stands_any r (got.Bytes bytes) s = tt
stands_any r (got.Unreachable a b) s = tt
stands_any r got.Gone s = tt
stands_any r (got.Old now) s = tt

own_stands : (r : Reading) (t : Bool) → is_lost r (r.servers - 1) ≡ t → Stands r → Stands (own_gone r).0
own_stands r true e s = rw e s
own_stands r false e s = rw e refl

plain_in : (r : Reading) (phase : Phase) (response : Response) → brings_bytes response ≡ false → Stands r → Stands (fed_in r phase response).0
plain_in r phase (told.Bytes bytes) e s = absurd (cc e)
plain_in r phase (told.Parity lengths bytes) e s = absurd (cc e)
plain_in r Direct told.Down e s = own_stands r (is_lost r (r.servers - 1)) refl s
plain_in r Direct told.Blank e s = own_stands r (is_lost r (r.servers - 1)) refl s
plain_in r Lengths told.Down e s = s
plain_in r Lengths told.Blank e s = s
plain_in r (Others lengths sum k) told.Down e s = s
plain_in r (Others lengths sum k) told.Blank e s = s
plain_in r Direct told.Done e s = s
plain_in r Lengths told.Done e s = s
plain_in r (Others lengths sum k) told.Done e s = s
plain_in r Direct (told.Ids ids) e s = s
plain_in r Lengths (told.Ids ids) e s = s
plain_in r (Others lengths sum k) (told.Ids ids) e s = s
plain_in r Direct (told.Refused why) e s = s
plain_in r Lengths (told.Refused why) e s = s
plain_in r (Others lengths sum k) (told.Refused why) e s = s

-- a response without bytes leaves a request that stands
pub plain_stands : (r new : Reading) (response : Response) (came : Result Got NoMemory) → brings_bytes response ≡ false → OnOk came (new ≡ (fed r response).0) → OnErr came (new ≡ r) → Stands r → Stands new
plain_stands r new response (Ok g) e ok err s = subst Stands (sym ok) (plain_in r r.phase response e s)
plain_stands r new response (Err why) e ok err s = subst Stands (sym err) s

more_if : (r : Reading) (t : Bool) → nat_lt (pos_of r) (end_of r) ≡ t → StandsOn r (if t then got.More else got.Bytes r.read)
more_if r true e = stands_at r r.phase e
more_if r false e = tt

gained_stands : (before r : Reading) (o : Option ℕ) → Stands before → StandsOn (gained_by before r o).0 (gained_by before r o).1
gained_stands before r None s = more_if r (nat_lt (pos_of r) (end_of r)) refl
gained_stands before r (Some k) s = stands_any before (two_lost r k) s

gained_any : (before r : Reading) → Stands before → StandsOn (gained before r).0 (gained before r).1
gained_any before r s = gained_stands before r (blocked_in r r.phase) s

gone_stands : (r : Reading) (t : Bool) → is_lost r (r.servers - 1) ≡ t → Stands r → StandsOn (own_gone r).0 (own_gone r).1
gone_stands r true e s = rw e (stands_any r (two_lost r (r.servers - 1)) s)
gone_stands r false e s = rw e refl

-- the read that a response makes goes on with a request that stands
pub fed_stands : (r : Reading) (phase : Phase) (response : Response) → Stands r → StandsOn (fed_in r phase response).0 (fed_in r phase response).1
fed_stands r Direct (told.Bytes bytes) s = gained_any r (advanced r bytes) s
fed_stands r Direct told.Down s = gone_stands r (is_lost r (r.servers - 1)) refl s
fed_stands r Direct told.Blank s = gone_stands r (is_lost r (r.servers - 1)) refl s
fed_stands r Lengths (told.Parity lengths bytes) s = gained_any r (sought r lengths bytes (r.servers - 1)) s
fed_stands r Lengths told.Down s = stands_any r (two_lost r (r.servers - 1)) s
fed_stands r Lengths told.Blank s = stands_any r (two_lost r (r.servers - 1)) s
fed_stands r (Others lengths sum k) (told.Bytes bytes) s = gained_any r (sought r lengths _ (r.servers - 1 - (k + 1))) s
fed_stands r (Others lengths sum k) told.Down s = stands_any r (two_lost r k) s
fed_stands r (Others lengths sum k) told.Blank s = stands_any r (two_lost r k) s
fed_stands r Direct (told.Parity lengths bytes) s = stands_any r (ended_by (told.Parity lengths bytes)) s
fed_stands r Lengths (told.Bytes bytes) s = stands_any r (ended_by (told.Bytes bytes)) s
fed_stands r (Others lengths sum k) (told.Parity more bytes) s = stands_any r (ended_by (told.Parity more bytes)) s
fed_stands r Direct told.Done s = stands_any r (ended_by told.Done) s
fed_stands r Lengths told.Done s = stands_any r (ended_by told.Done) s
fed_stands r (Others lengths sum k) told.Done s = stands_any r (ended_by told.Done) s
fed_stands r Direct (told.Ids ids) s = stands_any r (ended_by (told.Ids ids)) s
fed_stands r Lengths (told.Ids ids) s = stands_any r (ended_by (told.Ids ids)) s
fed_stands r (Others lengths sum k) (told.Ids ids) s = stands_any r (ended_by (told.Ids ids)) s
fed_stands r Direct (told.Refused why) s = stands_any r (ended_by (told.Refused why)) s
fed_stands r Lengths (told.Refused why) s = stands_any r (ended_by (told.Refused why)) s
fed_stands r (Others lengths sum k) (told.Refused why) s = stands_any r (ended_by (told.Refused why)) s
