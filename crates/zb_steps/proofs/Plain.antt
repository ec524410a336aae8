-- A response without bytes to a read.
use Rattle.std.proofs.Common.{◌≡◌, ℕ, ◌-◌, Bool, true, false, List, refl, subst}
use Rattle.std.specs.Prelude.{nat_lt}
use Rattle.zb_types.specs.declared.ids.ServerId.{ServerId}
use Rattle.zb_types.specs.declared.requests.Response.{Response}
use Rattle.zb_types.specs.declared.requests.Response.TheVariants as told
use Rattle.zb_types.specs.declared.requests.StoreFault.TheVariants as fault
use Rattle.zb_stripe.specs.declared.read_plan.Got.{Got}
use Rattle.zb_stripe.specs.declared.read_plan.Got.TheVariants as got
use Rattle.zb_stripe.specs.declared.progress.Phase.{Phase}
use Rattle.zb_stripe.specs.declared.progress.Phase.TheVariants.{Direct, Lengths, Others}
use Rattle.zb_stripe.specs.Reading.{Reading, fed, fed_in, own_gone, two_lost, names_two, is_lost, ended_by, MayWant}
use Rattle.zb_steps.specs.Serving.{HasMemory, brings_bytes}

-- no bytes are gained by a response without bytes

abbrev IsBytes : Got → Type 0
IsBytes (got.Bytes bytes) = Unit {0}
IsBytes other = ⊥

two_named : (a b : ServerId) (t : Bool) → nat_lt a.0 b.0 ≡ t → IsBytes (names_two a b) → ⊥
two_named a b true e h = let h2 : IsBytes (got.Unreachable a b) = rw e at h in h2
two_named a b false e h = let h2 : IsBytes (got.Unreachable b a) = rw e at h in h2

none_lost : (r : Reading) (k : ℕ) → IsBytes (two_lost r k) → ⊥
none_lost r k h = two_named _ _ (nat_lt _ _) refl h

own_none : (r : Reading) (t : Bool) → is_lost r (r.servers - 1) ≡ t → IsBytes (own_gone r).1 → ⊥
own_none r true e h = none_lost r (r.servers - 1) (rw e at h)
own_none r false e h = let h2 : IsBytes got.More = rw e at h in h2

ended_none : (response : Response) → IsBytes (ended_by response) → ⊥
ended_none told.Done h = h
ended_none (told.Bytes bytes) h = h
ended_none (told.Parity lengths bytes) h = h
ended_none (told.Ids ids) h = h
ended_none told.Down h = h
ended_none told.Blank h = h
ended_none (told.Refused fault.NoFragment) h = h
ended_none (told.Refused fault.Exists) h = h
ended_none (told.Refused (fault.Offset len)) h = h
ended_none (told.Refused (fault.Short len)) h = h
ended_none (told.Refused (fault.NoSlot free)) h = h
ended_none (told.Refused fault.Stopped) h = h
ended_none (told.Refused (fault.OldGeneration now)) h = h
ended_none (told.Refused fault.NoMemory) h = h

none_in : (r : Reading) (phase : Phase) (response : Response) → brings_bytes response ≡ false → IsBytes (fed_in r phase response).1 → ⊥
none_in r phase (told.Bytes bytes) e h = absurd (cc e)
none_in r phase (told.Parity lengths bytes) e h = absurd (cc e)
none_in r Direct told.Down e h = own_none r (is_lost r (r.servers - 1)) refl h
none_in r Direct told.Blank e h = own_none r (is_lost r (r.servers - 1)) refl h
none_in r Lengths told.Down e h = none_lost r (r.servers - 1) h
none_in r Lengths told.Blank e h = none_lost r (r.servers - 1) h
none_in r (Others lengths sum k) told.Down e h = none_lost r k h
none_in r (Others lengths sum k) told.Blank e h = none_lost r k h
none_in r Direct told.Done e h = ended_none told.Done h
none_in r Lengths told.Done e h = ended_none told.Done h
none_in r (Others lengths sum k) told.Done e h = ended_none told.Done h
none_in r Direct (told.Ids ids) e h = ended_none (told.Ids ids) h
none_in r Lengths (told.Ids ids) e h = ended_none (told.Ids ids) h
none_in r (Others lengths sum k) (told.Ids ids) e h = ended_none (told.Ids ids) h
none_in r Direct (told.Refused why) e h = ended_none (told.Refused why) h
none_in r Lengths (told.Refused why) e h = ended_none (told.Refused why) h
none_in r (Others lengths sum k) (told.Refused why) e h = ended_none (told.Refused why) h

pub no_bytes : (r : Reading) (response : Response) (bytes : List ℕ) → brings_bytes response ≡ false → got.Bytes bytes ≡ (fed r response).1 → ⊥
no_bytes r response bytes e h = none_in r r.phase response e (subst IsBytes h tt)

-- nor is memory wanted
pub no_want : (response : Response) → brings_bytes response ≡ false → HasMemory response → MayWant response → ⊥
no_want (told.Bytes bytes) e m w = absurd (cc e)
no_want (told.Parity lengths bytes) e m w = absurd (cc e)
no_want told.Done e m w = w
no_want (told.Ids ids) e m w = w
no_want told.Down e m w = w
no_want told.Blank e m w = w
no_want (told.Refused fault.NoFragment) e m w = w
no_want (told.Refused fault.Exists) e m w = w
no_want (told.Refused (fault.Offset len)) e m w = w
no_want (told.Refused (fault.Short len)) e m w = w
no_want (told.Refused (fault.NoSlot free)) e m w = w
no_want (told.Refused fault.Stopped) e m w = w
no_want (told.Refused (fault.OldGeneration now)) e m w = w
no_want (told.Refused fault.NoMemory) e m w = m
