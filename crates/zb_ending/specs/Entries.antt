-- How many entries of the file manager's journal there may be once all calls have ended.
use Rattle.std.specs.Prelude.{ℕ, ◌+◌, length}
use Rattle.std.specs.List.{sum_by}
use Rattle.zb_client.specs.Seen.{SeenClient}
use Rattle.zb_system.specs.Nodes.{SeenNodes}

-- the calls of a client that haven't ended: the queued ones, and the kept ones
abbrev pub calls_ahead : SeenClient → ℕ
calls_ahead c = length c.queue + length c.kept

-- the number of the next entry, once each of these calls has made one
abbrev pub entries_ahead : SeenNodes → ℕ
entries_ahead n = n.manager.tables.next_entry + sum_by calls_ahead n.clients
