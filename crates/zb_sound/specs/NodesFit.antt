-- What the nodes of the servers know of their platters.
use Rattle.std.specs.Prelude.{◌≡◌, ◌≢◌, ◌⊎◌, ℕ, Bool, true, false}
use Rattle.zb_types.specs.declared.ids.ServerId.{ServerId}
use Rattle.zb_types.specs.declared.nodes.Members.{Members}
use Rattle.zb_tables.specs.Taking.{IsServer}
use Rattle.zb_recovery.specs.Missing.{is_unfit, names_server}

-- which servers serve, up and not mending, and which are known to be blank
pub record Nodes : Type 0 where
  pub serves : ServerId → Bool
  pub blank : ServerId → Bool

-- A server that serves is fit; one whose super cell isn't its own is known to be blank, or is the one that is out or mending.
pub record NodesAreFit (n : ℕ) (members : Members) (blank : ServerId → Bool) (nodes : Nodes) : Type 0 where
  pub serving : (s : ServerId) → IsServer n s → nodes.serves s ≡ true → is_unfit members blank s ≡ false
  pub known : (s : ServerId) → IsServer n s → blank s ≡ true → (nodes.blank s ≡ true) ⊎ (names_server members.state s ≡ true)

-- each other server serves
abbrev pub OthersServe : ℕ → Nodes → ServerId → Type 0
OthersServe n nodes a = (s : ServerId) → IsServer n s → s.0 ≢ a.0 → nodes.serves s ≡ true

-- no other server is known to be blank, or is out or mending
abbrev pub NoOtherLost : ℕ → Members → Nodes → ServerId → Type 0
NoOtherLost n members nodes a = (s : ServerId) → IsServer n s → s.0 ≢ a.0 → (nodes.blank s ≡ false) × (names_server members.state s ≡ false)

-- the other servers' nodes, and the words of their super cells, are as before
pub record OthersStay (old new : Nodes) (blank later : ServerId → Bool) (a : ServerId) : Type 0 where
  pub serves : (s : ServerId) → s.0 ≢ a.0 → new.serves s ≡ old.serves s
  pub nodes : (s : ServerId) → s.0 ≢ a.0 → new.blank s ≡ old.blank s
  pub blank_is : (s : ServerId) → s.0 ≢ a.0 → later s ≡ blank s

-- servers serve no more than before, and no fewer are known to be blank
pub record NodesStop (old new : Nodes) : Type 0 where
  pub serves : (s : ServerId) → new.serves s ≡ true → old.serves s ≡ true
  pub blank : (s : ServerId) → old.blank s ≡ true → new.blank s ≡ true
