-- What a server's node may be asked.
use Rattle.std.specs.Prelude.{◌≡◌, ℕ, ◌+◌, ◌<◌, ◌≤◌, length}
use Rattle.zb_types.specs.declared.geometry.Geometry.{Geometry}
use Rattle.zb_types.specs.declared.requests.Request.{Request}
use Rattle.zb_types.specs.declared.requests.Request.TheVariants as ask

-- a share or a parity goes to an index of its kind, and bytes lie within a fragment
abbrev pub FitsSystem : Geometry → Request → Type 0
FitsSystem geo (ask.Store id bytes class) = (id.index + 1 < geo.servers) × (length bytes ≤ geo.fragment)
FitsSystem geo (ask.Append id place bytes) = place + length bytes ≤ geo.fragment
FitsSystem geo (ask.Parity id lengths bytes class) =
    (id.index + 1 ≡ geo.servers) × ((length lengths + 1 ≡ geo.servers) × (length bytes ≤ geo.fragment))
FitsSystem geo (ask.Retrieve id place len) = place + len ≤ geo.fragment
FitsSystem geo (ask.Delete id) = Unit {0}
FitsSystem geo (ask.Identify after) = Unit {0}
FitsSystem geo (ask.Fence generation) = Unit {0}

-- how many writes a request makes, at most
abbrev pub most_writes : Request → ℕ
most_writes (ask.Store id bytes class) = 4
most_writes (ask.Append id place bytes) = 4
most_writes (ask.Parity id lengths bytes class) = 7
most_writes (ask.Retrieve id place len) = 0
most_writes (ask.Delete id) = 3
most_writes (ask.Identify after) = 0
most_writes (ask.Fence generation) = 3
