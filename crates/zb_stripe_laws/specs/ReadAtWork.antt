-- A read between two of its requests, while writers change what the servers keep.
use Rattle.std.specs.Prelude.{◌≡◌, ◌≢◌, ◌⊎◌, ℕ, ◌+◌, ◌-◌, ◌*◌, ◌/◌, ◌%◌, ◌<◌, ◌≤◌, min, Bool, true, false, ◌==◌, if◌then◌else◌, List, [], ◌∷◌, length, take, drop, slice_index, slice_index_or, bit_xor, Option, Some, None}
use Rattle.zb_types.specs.declared.ids.ServerId.{ServerId}
use Rattle.zb_types.specs.declared.ids.Ptr.{Ptr}
use Rattle.zb_types.specs.declared.requests.Request.{Request}
use Rattle.zb_types.specs.declared.requests.Request.TheVariants as ask
use Rattle.zb_types.specs.declared.requests.Response.{Response}
use Rattle.zb_types.specs.declared.requests.Response.TheVariants as told
use Rattle.zb_types.specs.declared.requests.StoreFault.TheVariants as fault
use Rattle.zb_holding.specs.Fragments.{Fragment, share_fragment, parity_fragment}
use Rattle.zb_holding.specs.Exclusive.{xor_at}
use Rattle.zb_holding.specs.Holding.{Maps, view_of, StripeRemains, covered, is_away, standing, away_at}
use Rattle.zb_holding.specs.Carrying.{found}
use Rattle.zb_stripe_laws.specs.PartAtWork.{IsOfOtherStripe}
use Rattle.zb_stripe.specs.declared.read_plan.Got.{Got}
use Rattle.zb_stripe.specs.declared.read_plan.Got.TheVariants as got
use Rattle.zb_stripe.specs.declared.progress.Phase.{Phase}
use Rattle.zb_stripe.specs.declared.progress.Phase.TheVariants.{Direct, Lengths, Others}
use Rattle.zb_stripe.specs.Reading.{Reading, server_at, is_lost, asked, blocked_in, fed, is_more, IsNotThere, DidNotAnswer, NamesLost}

-- some lists but one
abbrev pub all_but : (ℕ → List ℕ) → ℕ → ℕ → List ℕ
all_but lists j k = if k == j then [] else lists k

-- of n servers with room for f bytes in a share
module _ (n f : ℕ) (ptr : Ptr) where
  -- where the next range begins in the stripe, behind what is read
  abbrev pub next_pos : List ℕ → ℕ
  next_pos read = ptr.offset + length read

  -- where the last range ends
  abbrev pub last_pos : ℕ
  last_pos = ptr.offset + ptr.len

  -- the share of the next range
  abbrev pub next_index : List ℕ → ℕ
  next_index read = next_pos read / f

  -- its place in that share
  abbrev pub next_place : List ℕ → ℕ
  next_place read = next_pos read % f

  -- its length
  abbrev pub next_len : List ℕ → ℕ
  next_len read = min (last_pos - next_pos read) (f - next_place read)

  -- what is read so far are the pointer's first bytes, and of each server it is known whether it is lost
  pub record SoFar (bytes : List ℕ) (lost : List Bool) (read : List ℕ) : Type 0 where
    pub count : length lost ≡ n
    pub within : length read ≤ ptr.len
    pub begins : read ≡ take (length read) (drop ptr.offset bytes)

  -- there is a next range, and its own server is lost
  pub record Missing (lost : List Bool) (read : List ℕ) : Type 0 where
    pub below : next_pos read < last_pos
    pub gone : slice_index_or lost (next_index read) false ≡ true

  -- the parity's range, into which the covered bytes of the shares below j were put, but the range's own
  pub record Summed (bytes read lengths parity sum : List ℕ) (j : ℕ) : Type 0 where
    pub long : length sum ≡ next_len read
    pub sums : (y : ℕ) → y < next_len read
        → slice_index sum y
        ≡ bit_xor (slice_index parity (next_place read + y)) (xor_at (all_but (covered f bytes lengths) (next_index read)) j (next_place read + y))

  -- Share j is asked, since the parity that stands in these maps covers it into the range.
  pub record Asks (maps : Maps) (x : Option ServerId) (lost : List Bool) (bytes read lengths parity sum : List ℕ) (j : ℕ) : Type 0 where
    pub missing : Missing lost read
    pub index : j < n - 1
    pub other : j ≢ next_index read
    pub reached : next_place read < slice_index lengths j
    pub stands : standing n maps ptr.log ptr.stripe (n - 1) ≡ Some (parity_fragment lengths parity)
    pub looked : away_at n x ptr.log ptr.stripe (n - 1) ≡ false
    pub summed : Summed bytes read lengths parity sum j

  -- what is asked fits what the maps hold
  abbrev pub PhaseFits : Maps → Option ServerId → List ℕ → List Bool → List ℕ → Phase → Type 0
  PhaseFits maps x bytes lost read Direct = next_pos read < last_pos
      → slice_index_or lost (next_index read) false ≡ false
  PhaseFits maps x bytes lost read Lengths = Missing lost read
  PhaseFits maps x bytes lost read (Others lengths sum j) = (parity : List ℕ)
      × Asks maps x lost bytes read lengths parity sum j

  -- at most so many answers are wanted for the next range
  abbrev pub answers_for : Phase → ℕ
  answers_for Direct = n + 1
  answers_for Lengths = n
  answers_for (Others lengths sum j) = n - 1 - j

  -- at most so many answers are wanted still
  abbrev pub answers_left : List ℕ → Phase → ℕ
  answers_left read phase = (last_pos - next_pos read) * (n + 2) + answers_for phase

-- a server that is left away is the one that may be down
abbrev pub IsOutOf : Option ServerId → Option ServerId → Type 0
IsOutOf None z = Unit {0}
IsOutOf (Some a) z = z ≡ Some a

-- a share is gone now, or its first bytes are what they were
abbrev pub IsGoneOrSame : Option Fragment → Option Fragment → ℕ → Type 0
IsGoneOrSame None seen limit = Unit {0}
IsGoneOrSame (Some (share_fragment now)) (Some (share_fragment seen)) limit = take limit now ≡ take limit seen
IsGoneOrSame now seen limit = ⊥

-- a share is gone now, or has what it had before and perhaps more
abbrev pub IsGoneOrLonger : Option Fragment → Option Fragment → Type 0
IsGoneOrLonger None before = Unit {0}
IsGoneOrLonger (Some (share_fragment now)) (Some (share_fragment before)) = before ≡ take (length before) now
IsGoneOrLonger now before = ⊥

-- each share that was looked at, and of which the parity covered bytes, is gone now or still begins with these
abbrev pub StillStand : ℕ → Ptr → Maps → Maps → Option ServerId → Phase → Type 0
StillStand n ptr now seen y Direct = Unit {0}
StillStand n ptr now seen y Lengths = Unit {0}
StillStand n ptr now seen y (Others lengths sum k) = (j : ℕ) → j < n - 1 → 0 < slice_index lengths j
    → away_at n y ptr.log ptr.stripe j ≡ false
    → IsGoneOrSame (standing n now ptr.log ptr.stripe j) (standing n seen ptr.log ptr.stripe j) (slice_index lengths j)

-- from old maps to new ones each share that a read may still ask for is gone, or has what it had and perhaps more, or was
-- put back as it was when the parity was seen
abbrev pub StillGrow : ℕ → Ptr → Maps → Maps → Maps → Option ServerId → Phase → Type 0
StillGrow n ptr old new seen y Direct = Unit {0}
StillGrow n ptr old new seen y Lengths = Unit {0}
StillGrow n ptr old new seen y (Others lengths sum k) = (j : ℕ) → j < n - 1 → 0 < slice_index lengths j
    → away_at n y ptr.log ptr.stripe j ≡ false
    → IsGoneOrLonger (standing n new ptr.log ptr.stripe j) (standing n old ptr.log ptr.stripe j)
    ⊎ IsGoneOrSame (standing n new ptr.log ptr.stripe j) (standing n seen ptr.log ptr.stripe j) (slice_index lengths j)

-- the lengths that the parity covered, none where it isn't seen yet
abbrev pub lengths_seen : Phase → List ℕ
lengths_seen Direct = []
lengths_seen Lengths = []
lengths_seen (Others lengths sum k) = lengths

-- a request that puts nothing in the place of a share that a read may still ask for: it stores or replaces a fragment of
-- another stripe, a share of which the parity covered nothing, or the parity; or it adds to a share, deletes, or only asks
abbrev pub LetsRead : Reading → Request → Type 0
LetsRead r (ask.Store id bytes class) =
    IsOfOtherStripe id r.ptr.log r.ptr.stripe ⊎ (slice_index (lengths_seen r.phase) id.index ≡ 0)
LetsRead r (ask.Parity id lengths bytes class) = IsOfOtherStripe id r.ptr.log r.ptr.stripe ⊎ (id.index ≡ r.servers - 1)
LetsRead r request = Unit {0}

-- A read at work, whose stripe is committed up to `end` with the same bytes throughout: what remained of the stripe in
-- the maps in which its range's parity was seen, where server y wasn't looked at, is of these bytes, what it has is
-- theirs, and what it still asks for is gone or the same. It asks no server that is lost in place of the range's own.
pub record ReadAtWork (now seen : Maps) (y : Option ServerId) (end : ℕ) (bytes : List ℕ) (r : Reading) : Type 0 where
  pub then_bytes : List ℕ
  pub remained : StripeRemains (view_of r.servers r.fragment seen y) r.ptr.log r.ptr.stripe end then_bytes
  pub same : take end then_bytes ≡ take end bytes
  pub so_far : SoFar r.servers r.fragment r.ptr then_bytes r.lost r.read
  pub fits : PhaseFits r.servers r.fragment r.ptr seen y then_bytes r.lost r.read r.phase
  pub still : StillStand r.servers r.ptr now seen y r.phase
  pub clear : blocked_in r r.phase ≡ None

-- The share that is asked was looked at when the parity was seen. A server that wasn't tells of no fragment later: the
-- plan has it as lost, or a fence refuses the read.
abbrev pub WasLooked : ℕ → Ptr → Option ServerId → Phase → Type 0
WasLooked n ptr y Direct = Unit {0}
WasLooked n ptr y Lengths = Unit {0}
WasLooked n ptr y (Others lengths sum j) = away_at n y ptr.log ptr.stripe j ≡ false

-- an answer that tells of a fragment that is there
abbrev pub TellsOfFragment : Response → Type 0
TellsOfFragment (told.Bytes bytes) = Unit {0}
TellsOfFragment (told.Parity lengths bytes) = Unit {0}
TellsOfFragment (told.Refused (fault.Short len)) = Unit {0}
TellsOfFragment response = ⊥

-- each server that may be down may answer that it is, and each that is looked at answers from these maps
abbrev pub AnswersWith : (ServerId → Type 0) → Maps → Option ServerId → Option (ServerId × Request)
    → Response → Type 0
AnswersWith MayBeDown maps x (Some (server, ask.Retrieve id place len)) response =
    (MayBeDown server × IsNotThere response) ⊎ ((is_away x server ≡ false) × (response
    ≡ found (maps server id) place len))
AnswersWith MayBeDown maps x request response = ⊥

-- server z alone may be down
abbrev pub AnswersFrom : Maps → Option ServerId → Option ServerId → Option (ServerId × Request) → Response
    → Type 0
AnswersFrom maps x z = AnswersWith (λ server. is_away z server ≡ true) maps x

-- so is each of these answers, up to the first that ends the read
abbrev pub AllAnswer : Maps → Option ServerId → Option ServerId → Reading → List Response → Type 0
AllAnswer maps x z r [] = Unit {0}
AllAnswer maps x z r (t ∷ ts) = AnswersFrom maps x z (asked r) t × (is_more (fed r t).1 ≡ true
    → AllAnswer maps x z (fed r t).0 ts)

-- any server may be down or have a newer fence
abbrev pub MayTell : Maps → Option ServerId → Option (ServerId × Request) → Response → Type 0
MayTell maps x request response =
    AnswersWith (λ server. Unit {0}) maps x request response ⊎ ((generation : ℕ) × (response
    ≡ told.Refused (fault.OldGeneration generation)))

-- the fragment that is asked for isn't there
abbrev pub LacksAsked : Maps → Option (ServerId × Request) → Type 0
LacksAsked maps (Some (server, ask.Retrieve id place len)) = maps server id ≡ None
LacksAsked maps request = ⊥

-- a read knows no server as lost but those that were known before, and the one that was asked and is down or blank
abbrev pub LosesAsked : Reading → Response → Reading → Type 0
LosesAsked before response r = (k : ℕ) → k < before.servers → is_lost r k ≡ true
    → (is_lost before k ≡ true) ⊎ DidNotAnswer (asked before) response (server_at before k)

-- what is so now; while another share is asked for, what was so when the parity was seen
abbrev pub as_seen : {A : Type 0} → Phase → A → A → A
as_seen Direct now seen = now
as_seen Lengths now seen = now
as_seen (Others lengths sum j) now seen = seen

-- The same read goes on at work, with fewer answers to come: over the maps that answered, which do without server x,
-- but where another share was asked for over those in which the parity was seen, which did without y.
pub record LeadsOn (now seen : Maps) (x y : Option ServerId) (end : ℕ) (bytes : List ℕ) (before : Reading) (response : Response) (r : Reading) : Type 0 where
  pub servers : r.servers ≡ before.servers
  pub fragment : r.fragment ≡ before.fragment
  pub ptr : r.ptr ≡ before.ptr
  pub work : ReadAtWork now (as_seen before.phase now seen) (as_seen before.phase x y) end bytes r
  pub fewer : answers_left before.servers before.fragment before.ptr r.read r.phase
      < answers_left before.servers before.fragment before.ptr before.read before.phase
  pub loses : LosesAsked before response r
  pub keeps : (k : ℕ) → is_lost before k ≡ true → is_lost r k ≡ true

-- what an answer leads to: the read goes on, or it ends with the stripe's bytes, with two servers that are lost, with a
-- fragment that isn't there, or with a newer fence
abbrev pub LeadsTo : Maps → Maps → Option ServerId → Option ServerId → ℕ → List ℕ → Reading → Response → Reading
    → Got → Type 0
LeadsTo now seen x y end bytes before response r got.More = LeadsOn now seen x y end bytes before response r
LeadsTo now seen x y end bytes before response r (got.Bytes found) = found ≡ take before.ptr.len (drop before.ptr.offset bytes)
LeadsTo now seen x y end bytes before response r (got.Unreachable a b) = NamesLost before (asked before) response (got.Unreachable a b)
LeadsTo now seen x y end bytes before response r got.Gone = LacksAsked now (asked before)
LeadsTo now seen x y end bytes before response r (got.Old generation) = response ≡ told.Refused (fault.OldGeneration generation)

-- another share is asked for, since the parity covers it into the range
abbrev pub AsksOther : Phase → Type 0
AsksOther Direct = ⊥
AsksOther Lengths = ⊥
AsksOther (Others lengths sum j) = Unit {0}
