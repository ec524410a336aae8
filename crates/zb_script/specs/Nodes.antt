-- Nodes by their names.
use Rattle.std.specs.Prelude.{ℕ, ◌<◌, List, ◌∷◌, IsTrue}
use Rattle.std.specs.Fmt.{decimal}
use Rattle.zb_types.specs.declared.ids.ServerId.{ServerId}
use Rattle.zb_types.specs.declared.geometry.Geometry.{Geometry}
use Rattle.zb_types.specs.declared.nodes.Node.{Node}
use Rattle.zb_types.specs.declared.nodes.Node.TheVariants.{Server, Client, Manager, Cleaner, Mender}
use Rattle.zb_types.specs.declared.lines.Kind.{Kind}
use Rattle.zb_types.specs.Limits.{within}
use Rattle.zb_claims.specs.Text.{is_node, is_actor, is_disk}

-- its number is a byte
abbrev pub IsByte : ℕ → Type 0
IsByte n = n < 256

-- a letter, and a number
abbrev pub numbered_text : ℕ → ℕ → List ℕ
numbered_text letter n = letter ∷ decimal n

-- the number in a node's name is a byte
abbrev pub IsNamed : Node → Type 0
IsNamed (Server i) = IsByte i
IsNamed (Client i) = IsByte i
IsNamed Manager = Unit {0}
IsNamed Cleaner = Unit {0}
IsNamed Mender = Unit {0}

-- a node of the system
abbrev pub IsMember : Geometry → Node → Type 0
IsMember geo node = IsTrue (is_node geo node)

-- a node of the system that takes steps
abbrev pub IsActor : Geometry → Node → Type 0
IsActor geo node = IsTrue (is_actor geo node)

-- a node of the system that has a disk
abbrev pub IsDisk : Geometry → Node → Type 0
IsDisk geo node = IsTrue (is_disk geo node)

-- a server of the system
abbrev pub IsServer : Geometry → ServerId → Type 0
IsServer geo server = IsTrue (within 1 geo.servers server.0)

-- any kind of step
abbrev pub IsKind : Kind → Type 0
IsKind kind = Unit {0}
