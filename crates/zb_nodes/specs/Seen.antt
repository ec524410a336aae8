-- What is seen of the clients among the nodes.
use Rattle.std.specs.Prelude.{◌≡◌, ℕ, ◌<◌, ◌++◌, List, [], ◌∷◌, length, option_map, slice_get, Option, Some, None}
use Rattle.zb_types.specs.declared.calls.Call.{Call}
use Rattle.zb_types.specs.declared.lines.Kind.{Kind}
use Rattle.zb_types.specs.declared.lines.Outcome.{Outcome}
use Rattle.zb_given.specs.Given.{Given}
use Rattle.zb_work.specs.declared.work.Aim.TheVariants.{Finish}
use Rattle.zb_work.specs.Steps.{new_task}
use Rattle.zb_client.specs.declared.steps.Told.{Told}
use Rattle.zb_client.specs.Seen.{SeenClient, kind_of, unready}
use Rattle.zb_client.specs.Wishing.{wish_of}
use Rattle.zb_system.specs.Nodes.{IsClient, SeenNodes, with_client}
use Rattle.zb_system.specs.Sound.{AreSound}
use Rattle.zb_nodes.specs.declared.answers.Moved.{Moved}
use Rattle.zb_nodes.specs.declared.answers.Moved.TheVariants as moved
use Rattle.zb_nodes.specs.Wished.{blocker_in}

-- the nodes are sound, for something that they were given and some lines
pub record IsSound (n : SeenNodes) : Type 0 where
  pub given : Given
  pub lines : List Outcome
  pub sound : AreSound given lines n

-- the kind of the next step of client i + 1
abbrev pub kind_at : SeenNodes → ℕ → Option Kind
kind_at n i = option_map kind_of (slice_get n.clients i)

-- client i + 1 keeps a call
pub record Keeps (n : SeenNodes) (i : ℕ) : Type 0 where
  pub client : SeenClient
  pub is : IsClient n i client
  pub keeps : 0 < length client.kept

-- the other client that holds, if this one waits for it
abbrev pub blocker_of : Option ℕ → Option SeenClient → Option ℕ
blocker_of holder None = None
blocker_of holder (Some c) = blocker_in holder c.client (wish_of c)

-- the other client that holds, if the next step of client i + 1 waits for it
abbrev pub blocker_at : SeenNodes → ℕ → Option ℕ
blocker_at n i = blocker_of n.manager.holder (slice_get n.clients i)

-- client i + 1 has one call more in its queue
pub record Pushes (old new : SeenNodes) (i : ℕ) (number : ℕ) (call : Call) : Type 0 where
  pub client : SeenClient
  pub is : IsClient old i client
  pub new_is : new ≡ with_client old i (record (unready client) { queue = client.queue ++ record { number = number; call = call } ∷ [] })

-- client i + 1 begins to commit all that it keeps
pub record Flushes (old new : SeenNodes) (i : ℕ) : Type 0 where
  pub client : SeenClient
  pub is : IsClient old i client
  pub new_is : new ≡ with_client old i (record (unready client) { task = new_task Finish })

-- so it is with what a step told, if it was made
abbrev pub IfTold : (Told → Type 0) → Moved → Type 0
IfTold P moved.Idle = Unit {0}
IfTold P (moved.Blocked holder) = Unit {0}
IfTold P (moved.Told told) = P told

-- so it is, unless a step was made
abbrev pub IfStill : Type 0 → Moved → Type 0
IfStill P moved.Idle = P
IfStill P (moved.Blocked holder) = P
IfStill P (moved.Told told) = Unit {0}
