-- The nodes of a system, and what the steps of clients meet among them.
use Rattle.std.specs.Prelude.{◌≡◌, ℕ, List, slice_get, slice_set, Some, true, false}
use Rattle.zb_types.specs.Tree.{Tree}
use Rattle.zb_tables.specs.Tables.{Contents}
use Rattle.zb_recovery.specs.Missing.{Servers}
use Rattle.zb_manager.specs.Managers.{SeenManager}
use Rattle.zb_servers.specs.Standing.{SeenServers, maps_of}
use Rattle.zb_client.specs.Seen.{SeenClient}
use Rattle.zb_client_laws.specs.Around.{Around}

-- the clients, by their numbers, the file manager, and the servers
pub record SeenNodes : Type 0 where
  pub clients : List SeenClient
  pub manager : SeenManager
  pub servers : SeenServers

-- what the servers have, of which none is blank
abbrev pub stand_of : SeenServers → Servers
stand_of servers = record { maps = maps_of servers; blank = λ server. false }

-- what the steps of clients meet, where stripes have these bytes, and this is the tree of the history
abbrev pub around : SeenNodes → Contents → Tree → Around
around n contents tree = record { z = n.manager.sizes; contents = contents; st = stand_of n.servers; tables = n.manager.tables; tree = tree }

-- the client of number i + 1
abbrev pub IsClient : SeenNodes → ℕ → SeenClient → Type 0
IsClient n i c = slice_get n.clients i ≡ Some c

-- a client that has taken the memory for its next step
abbrev pub readied : SeenClient → SeenClient
readied c = record c { is_ready = true }

-- client i + 1 is another now
abbrev pub with_client : SeenNodes → ℕ → SeenClient → SeenNodes
with_client n i c = record n { clients = slice_set n.clients i c }
