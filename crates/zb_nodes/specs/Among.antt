-- One client of a sound system, beside the file manager and the servers.
use Rattle.std.specs.Prelude.{◌≡◌, true, List, []}
use Rattle.zb_types.specs.Tree.{Tree}
use Rattle.zb_tables.specs.Tables.{Contents}
use Rattle.zb_manager.specs.Managers.{SeenManager}
use Rattle.zb_servers.specs.Standing.{SeenServers}
use Rattle.zb_client.specs.Seen.{SeenClient}
use Rattle.zb_client_laws.specs.Around.{Around, IsAround}
use Rattle.zb_client_laws.specs.Known.{IsKnown}
use Rattle.zb_client_laws.specs.Sound.{ClientIsSound}
use Rattle.zb_system.specs.Nodes.{SeenNodes, around}
use Rattle.zb_system.specs.Sound.{ServersAreSound}

-- these clients, with file manager and servers
abbrev pub nodes : List SeenClient → SeenManager → SeenServers → SeenNodes
nodes clients m s = record { clients = clients; manager = m; servers = s }

-- what the steps of a client meet among them
abbrev pub met : SeenManager → SeenServers → Contents → Tree → Around
met m s contents tree = around (nodes [] m s) contents tree

-- A sound client among file manager and servers that stand for a tree.
pub record IsAmong (m : SeenManager) (s : SeenServers) (c : SeenClient) : Type 0 where
  pub contents : Contents
  pub tree : Tree
  pub seen : Tree
  pub stands : IsAround s.slots (met m s contents tree)
  pub sound : ClientIsSound (met m s contents tree) seen c
  pub servers : ServersAreSound (nodes [] m s)

-- it may make a step: it has the memory, and its machine's own invariant
pub record MayStep (m : SeenManager) (s : SeenServers) (c : SeenClient) : Type 0 where
  pub among : IsAmong m s c
  pub known : IsKnown c
  pub ready : c.is_ready ≡ true
