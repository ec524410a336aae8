-- Which bytes are a checkpoint's.
use Rattle.std.specs.Prelude.{◌≡◌, ℕ, ◌^◌, ◌<◌, List, Option, Some, None}
use Rattle.zb_types.specs.declared.geometry.Geometry.{Geometry}
use Rattle.zb_tables.specs.Tables.{Tables}
use Rattle.zb_tables.specs.Taking.{Sizes, stripe_room}
use Rattle.zb_tables.specs.Checkpoint.{AreTables, CountsFit}
use Rattle.zb_spelling.specs.Spelling.{spelling_of_tables}

-- the sizes of a system as plain numbers
abbrev pub sizes_of : Geometry → Sizes
sizes_of geo = record { servers = geo.servers; clients = geo.clients; fragment = geo.fragment; block = geo.block }

-- each place in a stripe has four bytes, as in every system
abbrev pub HasFewBytes : Sizes → Type 0
HasFewBytes z = stripe_room z < 2 ^ 32

-- the tables of a checkpoint in a system of these sizes: each list's count has four bytes
pub record IsCheckpoint (z : Sizes) (t : Tables) : Type 0 where
  pub tables : AreTables z t
  pub counts : CountsFit t

-- the tables that the bytes spell, or that they are no checkpoint
abbrev pub Unspells : Sizes → List ℕ → Option Tables → Type 0
Unspells z bytes (Some t) = IsCheckpoint z t × (spelling_of_tables t ≡ bytes)
Unspells z bytes None = (t : Tables) → IsCheckpoint z t → spelling_of_tables t ≡ bytes → ⊥
