-- Where the bytes of the held stripes are those that the servers hold, up to their committed ends.
use Rattle.std.specs.Prelude.{◌≡◌, ℕ, List, [], take, Option, Some, None}
use Rattle.zb_types.specs.declared.ids.LogId.{LogId}
use Rattle.zb_types.specs.declared.ids.ServerId.{ServerId}
use Rattle.zb_types.specs.declared.nodes.Members.{Members}
use Rattle.zb_types.specs.declared.tables.HeldUse.{HeldUse}
use Rattle.zb_holding.specs.Holding.{View, view_of, AreBytesOfStripe}
use Rattle.zb_tables.specs.Tables.{Contents, held_at, end_at}
use Rattle.zb_recovery.specs.Missing.{Servers, MayMiss, OneUnfit}

-- the committed bytes of the held stripes, and of others none
abbrev pub cut_to : List HeldUse → Contents → Contents
cut_to held contents log stripe = take (end_at held log stripe) (contents log stripe)

-- the servers in view hold these bytes of a stripe up to an end
abbrev pub StripeAgrees : View → Contents → LogId → ℕ → ℕ → Type 0
StripeAgrees v contents log stripe end = AreBytesOfStripe v log stripe end (take end (contents log stripe))

-- each held stripe does up to its committed end
abbrev pub ViewAgrees : View → Contents → List HeldUse → Type 0
ViewAgrees v contents held = (log : LogId) (stripe : ℕ) (h : HeldUse) → held_at log stripe held ≡ Some h → StripeAgrees v contents log stripe h.end

-- at most one server isn't fit, and whichever may be missing, the others hold the committed bytes
pub record ServersAgree (n f : ℕ) (servers : Servers) (members : Members) (contents : Contents) (held : List HeldUse) : Type 0 where
  pub one_unfit : OneUnfit n members servers.blank
  pub agree : (x : Option ServerId) → MayMiss n members servers.blank x → ViewAgrees (view_of n f servers.maps x) contents held

-- the contents are what the servers in view hold of the held stripes, and nothing else
pub record AreContents (v : View) (held : List HeldUse) (contents : Contents) : Type 0 where
  pub there : (log : LogId) (stripe : ℕ) (h : HeldUse) → held_at log stripe held ≡ Some h → AreBytesOfStripe v log stripe h.end (contents log stripe)
  pub nowhere : (log : LogId) (stripe : ℕ) → held_at log stripe held ≡ None → contents log stripe ≡ []
