-- A part of a flush between two of its requests.
use Rattle.std.specs.Prelude.{◌≡◌, ◌≢◌, ◌⊎◌, ℕ, ◌-◌, ◌<◌, ◌≤◌, Bool, false, List, [], ◌∷◌, length, take, Option, Some, None}
use Rattle.zb_types.specs.declared.ids.LogId.{LogId}
use Rattle.zb_types.specs.declared.ids.ServerId.{ServerId}
use Rattle.zb_types.specs.declared.ids.FragId.{FragId}
use Rattle.zb_types.specs.declared.nodes.Class.{Class}
use Rattle.zb_holding.specs.Fragments.{Fragment, share_fragment, parity_fragment}
use Rattle.zb_holding.specs.Placing.{share_length, share_of}
use Rattle.zb_holding.specs.Holding.{Maps, View, with_maps, StripeHolds, standing, away_at}
use Rattle.zb_holding.specs.Carrying.{carried_all}
use Rattle.zb_stripe.specs.declared.flush.Part.{Part}
use Rattle.zb_stripe.specs.Writing.{part_requests}

-- a server that is left away is the one that isn't looked at
abbrev pub IsSpared : Option ServerId → Option ServerId → Type 0
IsSpared None x = Unit {0}
IsSpared (Some a) x = x ≡ Some a

-- exactly so many bytes of a share stand, and no fragment where these are none
abbrev pub HasBytes : Option Fragment → ℕ → Type 0
HasBytes None n = n ≡ 0
HasBytes (Some (share_fragment bytes)) n = (0 < n) × (length bytes ≡ n)
HasBytes (Some (parity_fragment lengths bytes)) n = ⊥

-- each share in view ends where the stripe's first bytes end
abbrev pub StandsUpTo : View → LogId → ℕ → ℕ → Type 0
StandsUpTo v log stripe begin =
    (k : ℕ) → k < v.servers - 1 → away_at v.servers v.away log stripe k ≡ false
    → HasBytes (standing v.servers v.maps log stripe k) (share_length v.fragment begin k)

-- no fragment of the stripe stands in view
abbrev pub IsUnwritten : View → LogId → ℕ → Type 0
IsUnwritten v log stripe = (k : ℕ) → k < v.servers → away_at v.servers v.away log stripe k ≡ false
    → standing v.servers v.maps log stripe k ≡ None

-- the name is one of another stripe
abbrev pub IsOfOtherStripe : FragId → LogId → ℕ → Type 0
IsOfOtherStripe id log stripe = (id.log.0 ≢ log.0) ⊎ (id.stripe ≢ stripe)

-- all of a share's bytes stand, and nothing where it has none
abbrev pub IsWhole : Option Fragment → List ℕ → Type 0
IsWhole None bytes = length bytes ≡ 0
IsWhole (Some (share_fragment stands)) bytes = (0 < length stands) × (stands ≡ bytes)
IsWhole (Some (parity_fragment lengths parity)) bytes = ⊥

-- A stripe at work, which stood as `old`: its shares below j are whole, and what is from j on, the parity too, is as
-- it was.
pub record StripeAtWork (f : ℕ) (bytes : List ℕ) (away : ℕ → Bool) (old new : ℕ
    → Option Fragment) (j : ℕ) : Type 0 where
  pub done : (k : ℕ) → k < j → away k ≡ false → IsWhole (new k) (share_of f bytes k)
  pub left : (k : ℕ) → j ≤ k → away k ≡ false → new k ≡ old k

-- a part begins behind bytes that stand exactly
pub record GoesOn (v : View) (log : LogId) (part : Part) : Type 0 where
  pub holds : StripeHolds v log part.stripe part.begin (take part.begin part.bytes)
  pub stands : StandsUpTo v log part.stripe part.begin

-- a part is the first of its stripe, of which nothing stands
pub record IsFirst (v : View) (log : LogId) (part : Part) : Type 0 where
  pub begin : part.begin ≡ 0
  pub unwritten : IsUnwritten v log part.stripe

-- where a part may begin
abbrev pub MayBegin : View → LogId → Part → Type 0
MayBegin v log part = GoesOn v log part ⊎ IsFirst v log part

-- the fragments of a stripe that are looked at stand as in these other maps
abbrev pub StandsAsIn : View → Maps → LogId → ℕ → Type 0
StandsAsIn v maps log stripe = (k : ℕ) → away_at v.servers v.away log stripe k ≡ false
    → standing v.servers v.maps log stripe k ≡ standing v.servers maps log stripe k

-- the part's stripe is as its first i requests left it, since the part began
pub record PartAtWork (v : View) (out : Option ServerId) (class : Class) (log : LogId) (part : Part) (i : ℕ) : Type 0 where
  pub start : Maps
  pub begins : MayBegin (with_maps v start) log part
  pub now : StandsAsIn v (carried_all start (take i (part_requests v.servers v.fragment out class log part))) log part.stripe

-- none of these parts is of this stripe
abbrev pub AreElsewhere : ℕ → List Part → Type 0
AreElsewhere stripe [] = Unit {0}
AreElsewhere stripe (part ∷ parts) = (part.stripe ≢ stripe) × AreElsewhere stripe parts

-- each part is of a stripe of its own
abbrev pub StripesDiffer : List Part → Type 0
StripesDiffer [] = Unit {0}
StripesDiffer (part ∷ parts) = AreElsewhere part.stripe parts × StripesDiffer parts

-- what stands isn't a share without bytes
abbrev pub IsNotEmpty : Option Fragment → Type 0
IsNotEmpty None = Unit {0}
IsNotEmpty (Some (share_fragment bytes)) = 0 < length bytes
IsNotEmpty (Some (parity_fragment lengths bytes)) = Unit {0}

-- no share that stands on any server is empty
abbrev pub HasNoEmptyShare : Maps → Type 0
HasNoEmptyShare maps = (server : ServerId) (id : FragId) → IsNotEmpty (maps server id)
