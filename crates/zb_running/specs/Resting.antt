-- What steps leave of clients that have come to rest.
use Rattle.std.specs.Prelude.{◌≡◌, ℕ, length}
use Rattle.zb_system.specs.Nodes.{SeenNodes}
use Rattle.zb_finishing.specs.Clients.{FinishesAt, IsIdleAt, KeepsNoneAt}

-- the clients are as many; those that are idle stay so, and keep no more; those that finish go on to do so
pub record LeavesRest (old new : SeenNodes) : Type 0 where
  pub count : length new.clients ≡ length old.clients
  pub idle : (j : ℕ) → IsIdleAt old j → IsIdleAt new j
  pub none_kept : (j : ℕ) → IsIdleAt old j → KeepsNoneAt old j → KeepsNoneAt new j
  pub finishes : (j : ℕ) → FinishesAt old j → FinishesAt new j
