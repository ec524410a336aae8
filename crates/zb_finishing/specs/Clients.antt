-- A client that commits all that it keeps, and is idle then.
use Rattle.std.specs.Prelude.{◌≡◌, ◌≢◌, ◌⊎◌, ℕ, [], length, slice_get, Some}
use Rattle.zb_types.specs.declared.lines.Kind.TheVariants.{Idle}
use Rattle.zb_work.specs.declared.work.Aim.TheVariants.{Finish}
use Rattle.zb_work.specs.Steps.{aim_of}
use Rattle.zb_client.specs.Seen.{SeenClient, kind_of}
use Rattle.zb_system.specs.Nodes.{IsClient, SeenNodes}

-- No call is queued, and the client's work is to commit all that it keeps, or it keeps nothing.
pub record Finishes (c : SeenClient) : Type 0 where
  pub none_queued : c.queue ≡ []
  pub ends : (aim_of c.task ≡ Some Finish) ⊎ (c.kept ≡ [])

-- so it is with client i + 1, if there is one
abbrev pub FinishesAt : SeenNodes → ℕ → Type 0
FinishesAt n i = (c : SeenClient) → IsClient n i c → Finishes c

-- client i + 1 is idle, if there is one
abbrev pub IsIdleAt : SeenNodes → ℕ → Type 0
IsIdleAt n i = (c : SeenClient) → IsClient n i c → kind_of c ≡ Idle

-- it keeps no call
abbrev pub KeepsNoneAt : SeenNodes → ℕ → Type 0
KeepsNoneAt n i = (c : SeenClient) → IsClient n i c → c.kept ≡ []

-- each client is idle
abbrev pub AllIdle : SeenNodes → Type 0
AllIdle n = (i : ℕ) → IsIdleAt n i

-- each keeps nothing
abbrev pub AllKeepNone : SeenNodes → Type 0
AllKeepNone n = (i : ℕ) → KeepsNoneAt n i

-- the clients but this one are as they were
abbrev pub OthersStay : SeenNodes → SeenNodes → ℕ → Type 0
OthersStay old new i = (j : ℕ) → j ≢ i → slice_get new.clients j ≡ slice_get old.clients j

-- there are as many clients as before, servers of as many slots, and the system's sizes are the same
pub record SizesStay (old new : SeenNodes) : Type 0 where
  pub sizes : new.manager.sizes ≡ old.manager.sizes
  pub slots : new.servers.slots ≡ old.servers.slots
  pub clients : length new.clients ≡ length old.clients
