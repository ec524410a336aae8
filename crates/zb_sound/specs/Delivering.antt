-- A flush while its requests are carried out, and once they all were, whichever server may be missing.
use Rattle.std.specs.Prelude.{◌≡◌, ℕ, ◌≤◌, ◌==◌, ◌&&◌, if◌then◌else◌, All, List, [], ◌∷◌, length, take, Option, Some, IfSome}
use Rattle.zb_types.specs.declared.ids.LogId.{LogId}
use Rattle.zb_types.specs.declared.ids.ServerId.{ServerId}
use Rattle.zb_types.specs.declared.nodes.Class.{Class}
use Rattle.zb_types.specs.declared.nodes.Members.{Members}
use Rattle.zb_types.specs.declared.requests.Request.{Request}
use Rattle.zb_types.specs.declared.tables.HeldUse.{HeldUse}
use Rattle.zb_holding.specs.Holding.{View, StripeHolds}
use Rattle.zb_holding.specs.Carrying.{carried}
use Rattle.zb_stripe.specs.declared.flush.Part.{Part}
use Rattle.zb_stripe.specs.declared.flush.Flush.{Flush}
use Rattle.zb_stripe.specs.Writing.{IsWritable}
use Rattle.zb_stripe_laws.specs.PartAtWork.{IsSpared, MayBegin, StripesDiffer}
use Rattle.zb_stripe_laws.specs.PlanAtWork.{PlanAtWork}
use Rattle.zb_tables.specs.Tables.{held_at, Contents}
use Rattle.zb_tables.specs.Taking.{Sizes, IsServer, stripe_room}
use Rattle.zb_recovery.specs.Missing.{Servers, MayMiss}
use Rattle.zb_sound.specs.Standing.{seen}

-- the servers, once one has carried out a request
abbrev pub after_asked : Servers → ServerId × Request → Servers
after_asked st asked = record { maps = carried st.maps asked; blank = st.blank }

-- which servers may be missing: those that the members allow, or any one
pub data Missing : Type 0 where
  allowed : Members → Missing
  any_one : Missing

-- this server, or none, may be missing
abbrev pub Misses : ℕ → Servers → Missing → Option ServerId → Type 0
Misses n st (allowed members) x = MayMiss n members st.blank x
Misses n st any_one x = IfSome x (IsServer n)

-- what is said of the servers whichever of them may be missing
abbrev pub ForEach : ℕ → Servers → Missing → (Option ServerId → Type 0) → Type 0
ForEach n st who P = (x : Option ServerId) → Misses n st who x → P x

-- what is committed of a part's stripe is the beginning of the part's bytes
abbrev pub BeginsAsHeld : Contents → List HeldUse → LogId → Part → Type 0
BeginsAsHeld contents held log part = (h : HeldUse) → held_at log part.stripe held ≡ Some h → take h.end part.bytes ≡ take h.end (contents log part.stripe)

-- A part fits into its stripe. What is committed of the stripe lies before the part, and is the beginning of its bytes.
pub record PartFits (z : Sizes) (contents : Contents) (held : List HeldUse) (log : LogId) (part : Part) : Type 0 where
  pub writable : IsWritable (stripe_room z) part
  pub before : (h : HeldUse) → held_at log part.stripe held ≡ Some h → h.end ≤ part.begin
  pub same : BeginsAsHeld contents held log part

-- what is committed of a part's stripe lies within the part's bytes, and is their beginning
pub record CoversHeld (contents : Contents) (held : List HeldUse) (log : LogId) (part : Part) : Type 0 where
  pub within : (h : HeldUse) → held_at log part.stripe held ≡ Some h → h.end ≤ length part.bytes
  pub same : BeginsAsHeld contents held log part

-- in this view each part may begin, and a server that is left away isn't looked at
pub record MayBeginIn (v : View) (out : Option ServerId) (flush : Flush) : Type 0 where
  pub spared : IsSpared out v.away
  pub begin : All (MayBegin v flush.log) flush.parts

-- a flush may begin: each part is of a stripe of its own, and fits
pub record FlushBegins (z : Sizes) (contents : Contents) (st : Servers) (held : List HeldUse) (who : Missing) (out : Option ServerId) (flush : Flush) : Type 0 where
  pub differ : StripesDiffer flush.parts
  pub fits : All (PartFits z contents held flush.log) flush.parts
  pub each : ForEach z.servers st who (λ x. MayBeginIn (seen z st x) out flush)

-- in this view a plan is at work, and a server that is left away isn't looked at
pub record WorksIn (v : View) (out : Option ServerId) (class : Class) (flush : Flush) (left : List (ServerId × Request)) : Type 0 where
  pub spared : IsSpared out v.away
  pub work : PlanAtWork v out class flush left

-- a flush is at work, and these of its requests are left
pub record FlushWorks (z : Sizes) (contents : Contents) (st : Servers) (held : List HeldUse) (who : Missing) (out : Option ServerId) (class : Class) (flush : Flush) (left : List (ServerId × Request)) : Type 0 where
  pub fits : All (PartFits z contents held flush.log) flush.parts
  pub each : ForEach z.servers st who (λ x. WorksIn (seen z st x) out class flush left)

-- the stripe of a part holds the part's bytes to their end
abbrev pub PartStands : View → LogId → Part → Type 0
PartStands v log part = StripeHolds v log part.stripe (length part.bytes) part.bytes

-- parts whose requests were all carried out stand
abbrev pub PartsStand : Sizes → Servers → Missing → LogId → List Part → Type 0
PartsStand z st who log parts = ForEach z.servers st who (λ x. All (PartStands (seen z st x) log) parts)

-- a part stands, and has what is committed of its stripe: its log may go on behind it
pub record MayGoOn (z : Sizes) (contents : Contents) (st : Servers) (held : List HeldUse) (who : Missing) (log : LogId) (part : Part) : Type 0 where
  pub stands : ForEach z.servers st who (λ x. PartStands (seen z st x) log part)
  pub covers : CoversHeld contents held log part

-- the part has the bytes of a former one of its stripe, and more behind them
pub record IsNext (former part : Part) : Type 0 where
  pub stripe : part.stripe ≡ former.stripe
  pub begin : part.begin ≡ length former.bytes
  pub bytes : take part.begin part.bytes ≡ former.bytes

-- the contents with the bytes of some parts of a log
abbrev pub with_parts : Contents → LogId → List Part → Contents
with_parts contents log [] l s = contents l s
with_parts contents log (part ∷ parts) l s = if l.0 == log.0 && s == part.stripe then part.bytes else with_parts contents log parts l s
