-- What a client wishes, by the step that it has come to.
use Rattle.std.specs.Prelude.{◌≡◌, ℕ, ◌<◌, Bool, true, false, if◌then◌else◌, List, length, Option, Some, None}
use Rattle.zb_types.specs.declared.ids.Piece.{Piece}
use Rattle.zb_types.specs.declared.ids.Ptr.{Ptr}
use Rattle.zb_types.specs.declared.ids.ServerId.{ServerId}
use Rattle.zb_types.specs.declared.requests.Request.{Request}
use Rattle.zb_types.specs.declared.requests.Request.TheVariants as ask
use Rattle.zb_batch.specs.declared.batch.Batch.{Batch}
use Rattle.zb_stripe.specs.Reading.{Reading, asked}
use Rattle.zb_basis.specs.declared.basis.Basis.{Basis}
use Rattle.zb_basis.specs.declared.basis.Formed.{Formed}
use Rattle.zb_basis.specs.declared.basis.Sealed.{Sealed}
use Rattle.zb_turns.specs.Turns.{other_holder}
use Rattle.zb_work.specs.declared.work.Task.{Task}
use Rattle.zb_work.specs.declared.work.Step.TheVariants as step
use Rattle.zb_work.specs.Steps.{first_members}
use Rattle.zb_client.specs.declared.steps.Lookup.{Lookup}
use Rattle.zb_client.specs.declared.steps.Lookup.TheVariants.{Files, Names}
use Rattle.zb_client.specs.declared.steps.Turn.TheVariants as turn
use Rattle.zb_client.specs.declared.steps.Wish.{Wish}
use Rattle.zb_client.specs.declared.steps.Wish.TheVariants.{Idle, Inside, Server, Turn}
use Rattle.zb_client.specs.Seen.{SeenClient}
use Rattle.zb_client.specs.Wishing.{head_of, lookup_of}
use Rattle.zb_nodes.specs.declared.answers.Moved.{Moved}
use Rattle.zb_nodes.specs.declared.answers.Moved.TheVariants as moved

-- this is to be looked up
pub record IsAtLookup (c : SeenClient) (lookup : Lookup) : Type 0 where
  pub task : Task
  pub is : c.task ≡ Some task
  pub at : task.step ≡ step.Lookup
  pub looks : lookup_of c task.tries c.kept ≡ lookup

-- a read is to be asked with this, of this generation
pub record IsAtFetch (c : SeenClient) (generation : ℕ) (wanted : ServerId × Request) : Type 0 where
  pub task : Task
  pub is : c.task ≡ Some task
  pub basis : Basis
  pub place : ℕ
  pub ptr : Ptr
  pub plan : Reading
  pub at : task.step ≡ step.Fetch basis place ptr plan
  pub wants : asked plan ≡ Some wanted
  pub generation_is : generation ≡ (first_members basis.found).generation

-- this is to be made next of a batch that is stored, of this generation
pub record IsAtStore (c : SeenClient) (generation : ℕ) (wanted : ServerId × Request) : Type 0 where
  pub task : Task
  pub is : c.task ≡ Some task
  pub basis : Basis
  pub formed : Formed
  pub at : task.step ≡ step.Store basis formed
  pub wants : head_of formed.plan ≡ Some wanted
  pub generation_is : generation ≡ formed.sealed.members.generation

-- this batch is to be committed
pub record IsAtCommit (c : SeenClient) (batch : Batch) (pieces : List Piece) (generation : ℕ) : Type 0 where
  pub task : Task
  pub is : c.task ≡ Some task
  pub basis : Basis
  pub sealed : Sealed
  pub at : task.step ≡ step.Commit basis sealed
  pub batch_is : batch ≡ sealed.batch
  pub pieces_are : pieces ≡ sealed.placed.pieces
  pub generation_is : generation ≡ sealed.members.generation

-- is it a retrieve?
abbrev pub is_read : Request → Bool
is_read (ask.Retrieve id place len) = true
is_read request = false

-- does it wait for another holder of the file manager? A lookup that is to hold does, and a commit
abbrev pub waits : Wish → Bool
waits (Turn (turn.Lookup (Files hold asks))) = hold
waits (Turn (turn.Lookup (Names call))) = false
waits (Turn (turn.Mark server generation)) = false
waits (Turn (turn.Commit batch pieces generation)) = true
waits Idle = false
waits Inside = false
waits (Server server generation request) = false

-- the other client that holds, if this one waits for it
abbrev pub blocker_in : (holder : Option ℕ) → (client : ℕ) → Wish → Option ℕ
blocker_in holder client wish = if waits wish then other_holder client holder else None

-- the holder by which a step was blocked, if it was
abbrev pub holder_in : Moved → Option ℕ
holder_in moved.Idle = None
holder_in (moved.Blocked holder) = Some holder
holder_in (moved.Told told) = None
