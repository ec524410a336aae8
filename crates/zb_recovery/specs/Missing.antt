-- Which servers may be missing, by the members and by the word of their super cells.
use Rattle.std.specs.Prelude.{◌≡◌, ℕ, Bool, true, false, ◌==◌, ◌||◌, Option, Some, IfSome}
use Rattle.zb_types.specs.declared.ids.ServerId.{ServerId}
use Rattle.zb_types.specs.declared.nodes.State.{State}
use Rattle.zb_types.specs.declared.nodes.State.TheVariants.{Whole, Out, Mending}
use Rattle.zb_types.specs.declared.nodes.Members.{Members}
use Rattle.zb_holding.specs.Holding.{Maps}
use Rattle.zb_tables.specs.Taking.{IsServer}

-- What the servers' platters say: what each keeps under each name, and which of them have no super cell of their own.
pub record Servers : Type 0 where
  pub maps : Maps
  pub blank : ServerId → Bool

-- is this the server that is out or mending?
abbrev pub names_server : State → ServerId → Bool
names_server Whole s = false
names_server (Out a) s = a.0 == s.0
names_server (Mending a) s = a.0 == s.0

-- a server whose super cell isn't its own, or that is out or mending
abbrev pub is_unfit : Members → (ServerId → Bool) → ServerId → Bool
is_unfit members blank s = blank s || names_server members.state s

-- the servers that may be missing: the one that isn't fit, and where all are fit, each and none
pub record MayMiss (n : ℕ) (members : Members) (blank : ServerId → Bool) (x : Option ServerId) : Type 0 where
  pub covers : (s : ServerId) → IsServer n s → is_unfit members blank s ≡ true → x ≡ Some s
  pub among : IfSome x (IsServer n)

-- at most one isn't fit
abbrev pub OneUnfit : ℕ → Members → (ServerId → Bool) → Type 0
OneUnfit n members blank =
    (s t : ServerId) → IsServer n s → IsServer n t → is_unfit members blank s ≡ true → is_unfit members blank t ≡ true → s ≡ t
