-- A plan of several parts between two of its requests.
use Rattle.std.specs.Prelude.{◌≡◌, ℕ, ◌<◌, List, ◌++◌, length, All, Option}
use Rattle.zb_types.specs.declared.ids.LogId.{LogId}
use Rattle.zb_types.specs.declared.ids.ServerId.{ServerId}
use Rattle.zb_types.specs.declared.nodes.Class.{Class}
use Rattle.zb_types.specs.declared.requests.Request.{Request}
use Rattle.zb_types.specs.declared.requests.Request.TheVariants as ask
use Rattle.zb_holding.specs.Holding.{Maps, View, with_maps}
use Rattle.zb_holding.specs.Carrying.{carried_all}
use Rattle.zb_stripe.specs.declared.flush.Part.{Part}
use Rattle.zb_stripe.specs.declared.flush.Flush.{Flush}
use Rattle.zb_stripe.specs.Writing.{plan_requests}
use Rattle.zb_stripe_laws.specs.PartAtWork.{IsOfOtherStripe, StandsAsIn, MayBegin, StripesDiffer}

-- the request changes no fragment of this stripe
abbrev pub IsBeside : Request → LogId → ℕ → Type 0
IsBeside (ask.Store id bytes class) log stripe = IsOfOtherStripe id log stripe
IsBeside (ask.Append id place bytes) log stripe = IsOfOtherStripe id log stripe
IsBeside (ask.Parity id lengths bytes class) log stripe = IsOfOtherStripe id log stripe
IsBeside (ask.Delete id) log stripe = IsOfOtherStripe id log stripe
IsBeside request log stripe = Unit {0}

-- the request changes no fragment of the parts' stripes
abbrev pub IsBesideEach : Request → LogId → List Part → Type 0
IsBesideEach request log parts = All (λ (part : Part). IsBeside request log part.stripe) parts

-- the stripes of the parts, where they are looked at, stand as in these other maps
abbrev pub EachStandsAsIn : View → Maps → LogId → List Part → Type 0
EachStandsAsIn v maps log parts = All (λ (part : Part). StandsAsIn v maps log part.stripe) parts

-- A plan of which these requests are left: the others were carried out, one behind the other, since it began, and the
-- stripe of each of its parts is as they left it.
pub record PlanAtWork (v : View) (out : Option ServerId) (class : Class) (flush : Flush) (left : List (ServerId × Request)) : Type 0 where
  pub start : Maps
  pub done : List (ServerId × Request)
  pub all : plan_requests v.servers v.fragment out class flush ≡ done ++ left
  pub differ : StripesDiffer flush.parts
  pub begins : All (MayBegin (with_maps v start) flush.log) flush.parts
  pub now : EachStandsAsIn v (carried_all start done) flush.log flush.parts

-- a request that stores a share brings bytes
abbrev pub StoresBytes : Request → Type 0
StoresBytes (ask.Store id bytes class) = 0 < length bytes
StoresBytes request = Unit {0}
