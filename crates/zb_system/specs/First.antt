-- The first nodes of a system.
use Rattle.std.specs.Prelude.{◌≡◌, ℕ, zero, suc, ◌+◌, length, replicate, None}
use Rattle.zb_types.specs.declared.ids.LogId.{LogId}
use Rattle.zb_types.specs.Limits.{InLimits}
use Rattle.zb_tables.specs.Tables.{Tables, first_tables}
use Rattle.zb_tables.specs.Fold.{attached}
use Rattle.zb_servers.specs.Standing.{empty_server}
use Rattle.zb_client.specs.Seen.{SeenClient, first_client}
use Rattle.zb_system.specs.Nodes.{IsClient, SeenNodes}

-- the log of this number
abbrev pub log : ℕ → LogId
log number = record { 0 = number }

-- the tables once clients 1 to n have logs 1 to n
abbrev pub attached_to : ℕ → Tables
attached_to zero = first_tables
attached_to (suc n) = attached (attached_to n) (n + 1) (log (n + 1))

-- and the cleaner the next one
abbrev pub all_attached : ℕ → Tables
all_attached n = attached (attached_to n) 0 (log (n + 1))

-- Servers that keep nothing; a file manager whose tables have a log for each client, and one for the cleaner; and clients
-- that were given nothing.
pub record AreFirst (n : SeenNodes) : Type 0 where
  pub limits : InLimits n.manager.sizes.servers n.manager.sizes.clients n.manager.sizes.fragment n.manager.sizes.block n.servers.slots
  pub servers : n.servers.servers ≡ replicate n.manager.sizes.servers empty_server
  pub tables : n.manager.tables ≡ all_attached n.manager.sizes.clients
  pub holder : n.manager.holder ≡ None
  pub count : length n.clients ≡ n.manager.sizes.clients
  pub clients : (i : ℕ) (c : SeenClient) → IsClient n i c → c ≡ first_client n.manager.sizes.servers n.manager.sizes.fragment n.manager.sizes.block (i + 1) (log (i + 1))
