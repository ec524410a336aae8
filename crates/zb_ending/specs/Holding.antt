-- What is true of a client that holds the file manager.
use Rattle.std.specs.Prelude.{◌≡◌, ◌≢◌, ℕ, ◌+◌, ◌<◌, true, length, is_some, None, IfSome}
use Rattle.zb_types.specs.declared.lines.Kind.TheVariants.{Idle}
use Rattle.zb_turns.specs.Turns.{other_holder}
use Rattle.zb_client.specs.Seen.{SeenClient, kind_of}
use Rattle.zb_system.specs.Nodes.{IsClient, SeenNodes}

-- a client keeps calls, and has work
pub record IsAtWork (c : SeenClient) : Type 0 where
  pub keeps : 0 < length c.kept
  pub works : is_some c.task ≡ true

-- one of the clients has this number, and is at work
pub record ClientWorks (n : SeenNodes) (number : ℕ) : Type 0 where
  pub place : ℕ
  pub numbered : number ≡ place + 1
  pub client : SeenClient
  pub is : IsClient n place client
  pub works : IsAtWork client

-- where a client holds the file manager, it is one of the clients, and at work
abbrev pub HolderWorks : SeenNodes → Type 0
HolderWorks n = IfSome n.manager.holder (ClientWorks n)

-- some client isn't idle, and no other holds the file manager
pub record SomeGoesOn (n : SeenNodes) : Type 0 where
  pub place : ℕ
  pub client : SeenClient
  pub is : IsClient n place client
  pub goes : kind_of client ≢ Idle
  pub unblocked : other_holder client.client n.manager.holder ≡ None
