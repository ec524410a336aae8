-- What a log has delivered, and what stands of its last flush.
use Rattle.std.specs.Prelude.{◌≡◌, ◌≢◌, ◌⊎◌, ℕ, ◌+◌, ◌<◌, ◌≤◌, List, [], ◌∷◌, ◌++◌, length, Option, Some, None}
use Rattle.zb_types.specs.declared.ids.LogId.{LogId}
use Rattle.zb_types.specs.declared.ids.ServerId.{ServerId}
use Rattle.zb_types.specs.declared.ids.FragId.{FragId}
use Rattle.zb_types.specs.declared.nodes.Class.{Class}
use Rattle.zb_types.specs.declared.requests.Request.{Request}
use Rattle.zb_types.specs.declared.requests.Request.TheVariants as ask
use Rattle.zb_types.specs.declared.tables.HeldUse.{HeldUse}
use Rattle.zb_holding.specs.Fragments.{Fragment, share_fragment, parity_fragment}
use Rattle.zb_holding.specs.Holding.{Maps}
use Rattle.zb_stripe.specs.declared.flush.Part.{Part}
use Rattle.zb_stripe.specs.declared.flush.Flush.{Flush}
use Rattle.zb_stripe.specs.Writing.{StripesRise, plan_requests}
use Rattle.zb_tables.specs.Tables.{Contents}
use Rattle.zb_tables.specs.Taking.{Sizes}
use Rattle.zb_recovery.specs.Missing.{Servers}
use Rattle.zb_sound.specs.Delivering.{Missing, FlushWorks, MayGoOn, after_asked}

-- no server has a fragment of a log's stripe `front`, nor of a later one
abbrev pub NothingFrom : Maps → LogId → ℕ → Type 0
NothingFrom maps log front = (server : ServerId) (id : FragId) → id.log.0 ≡ log.0 → front ≤ id.stripe → maps server id ≡ None

-- no server has a fragment of a log that isn't given yet
abbrev pub NothingOfNew : Maps → ℕ → Type 0
NothingOfNew maps next_log = (server : ServerId) (id : FragId) → next_log ≤ id.log.0 → maps server id ≡ None

-- what holds of the name of the fragment that a request may change
abbrev pub OfName : (FragId → Type 0) → Request → Type 0
OfName P (ask.Store id bytes class) = P id
OfName P (ask.Append id place bytes) = P id
OfName P (ask.Parity id lengths bytes class) = P id
OfName P (ask.Delete id) = P id
OfName P request = Unit {0}

-- the name is another log's, or one of a stripe below `front`
abbrev pub IsBefore : LogId → ℕ → FragId → Type 0
IsBefore log front id = (id.log.0 ≢ log.0) ⊎ (id.stripe < front)

-- the stripe of the fragment that a request changes, 0 where it changes none
abbrev pub stripe_of : Request → ℕ
stripe_of (ask.Store id bytes class) = id.stripe
stripe_of (ask.Append id place bytes) = id.stripe
stripe_of (ask.Parity id lengths bytes class) = id.stripe
stripe_of (ask.Delete id) = id.stripe
stripe_of request = 0

-- Where a log is: it goes on in a stripe of which nothing stands; or a flush has begun, of which these requests are left,
-- and whose commit isn't answered; or it goes on behind the last part of its last flush.
pub data Phase : Type 0 where
  anew : Phase
  flushing : Option ServerId → Class → Flush → List (ServerId × Request) → Phase
  behind : Part → Phase

-- the parts whose stripes have to stand
abbrev pub parts_in : Phase → List Part
parts_in anew = []
parts_in (flushing out class flush left) = flush.parts
parts_in (behind part) = part ∷ []

-- what stands of a flush that has begun, and of which these requests are left
pub record FlushStands (z : Sizes) (contents : Contents) (st : Servers) (held : List HeldUse) (who : Missing) (log : LogId)
    (out : Option ServerId) (class : Class) (flush : Flush) (left : List (ServerId × Request)) : Type 0 where
  pub log_is : flush.log ≡ log
  pub rise : StripesRise flush.parts
  pub done : List (ServerId × Request)
  pub all : plan_requests z.servers z.fragment out class flush ≡ done ++ left
  pub works : FlushWorks z contents st held who out class flush left

-- what stands of the last flush
abbrev pub PhaseStands : Sizes → Contents → Servers → List HeldUse → Missing → LogId → Phase → Type 0
PhaseStands z contents st held who log anew = Unit {0}
PhaseStands z contents st held who log (flushing out class flush left) = FlushStands z contents st held who log out class flush left
PhaseStands z contents st held who log (behind part) = MayGoOn z contents st held who log part

-- the last of some parts
abbrev pub IsLastOf : Part → List Part → Type 0
IsLastOf part parts = (before : List Part) × (parts ≡ before ++ part ∷ [])

-- Nothing was delivered for the log's stripe `front` nor for a later one, and nothing behind the last part of its last
-- flush; and so much stands of that flush, whichever of these servers may be missing.
pub record LastFlush (z : Sizes) (contents : Contents) (st : Servers) (held : List HeldUse) (who : Missing) (log : LogId) (front : ℕ) (phase : Phase) : Type 0 where
  pub nothing : NothingFrom st.maps log front
  pub reached : (part : Part) → IsLastOf part (parts_in phase) → front ≤ part.stripe + 1
  pub stands : PhaseStands z contents st held who log phase

-- a share of so many bytes stands
abbrev pub EndsAt : Option Fragment → ℕ → Type 0
EndsAt None place = ⊥
EndsAt (Some (share_fragment bytes)) place = length bytes ≡ place
EndsAt (Some (parity_fragment lengths bytes)) place = ⊥

-- what stands under the names of a server is such that a store finds its name free, and an append that its bytes go right
-- behind a share
abbrev pub FindsItsPlace : Request → (FragId → Option Fragment) → Type 0
FindsItsPlace (ask.Store id bytes class) stands = stands id ≡ None
FindsItsPlace (ask.Append id place bytes) stands = EndsAt (stands id) place
FindsItsPlace request stands = Unit {0}

-- the servers, once these requests were carried out one behind the other
abbrev pub after_all : Servers → List (ServerId × Request) → Servers
after_all st [] = st
after_all st (asked ∷ rest) = after_all (after_asked st asked) rest
