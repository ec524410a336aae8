-- What a step of a client does around it.
use Rattle.std.specs.Prelude.{◌≡◌, ◌⊎◌, ℕ, List, [], ◌∷◌, All, Ok, false, map}
use Rattle.std.specs.List.{AllByRecursion}
use Rattle.zb_types.specs.declared.calls.Reply.{Reply}
use Rattle.zb_types.specs.declared.ids.Piece.{Piece}
use Rattle.zb_types.specs.declared.ids.ServerId.{ServerId}
use Rattle.zb_types.specs.declared.lines.Said.TheVariants as said
use Rattle.zb_types.specs.declared.nodes.Cause.{Cause}
use Rattle.zb_types.specs.declared.requests.Request.{Request}
use Rattle.zb_types.specs.declared.tables.Found.{Found}
use Rattle.zb_types.specs.Apply.{reply_to}
use Rattle.zb_types.specs.Tree.{Tree}
use Rattle.zb_stripe.specs.declared.flush.Flush.{Flush}
use Rattle.zb_batch.specs.declared.batch.Batch.{Batch}
use Rattle.zb_tables.specs.Tables.{Tables}
use Rattle.zb_tables.specs.Finding.{found}
use Rattle.zb_tables.specs.Fold.{Shelf, committed, done_ops, shelf_of}
use Rattle.zb_tables.specs.Leaving.{IsOfUpdate}
use Rattle.zb_tables.specs.Taking.{any_wears}
use Rattle.zb_stripe_laws.specs.PartAtWork.{StripesDiffer}
use Rattle.zb_sound.specs.Committing.{AreInFlush}
use Rattle.zb_sound.specs.Delivering.{PartFits, after_asked, with_parts}
use Rattle.zb_basis.specs.declared.asks.Ask.{Ask}
use Rattle.zb_basis.specs.declared.calls.Numbered.{Numbered}
use Rattle.zb_work.specs.Steps.{aim_of}
use Rattle.zb_client.specs.Seen.{SeenClient}
use Rattle.zb_client.specs.declared.steps.Told.TheVariants as told
use Rattle.zb_client.specs.Telling.{Heard, answers_read, gives_up}
use Rattle.zb_client_laws.specs.Around.{Around}

-- one server has carried out a request
abbrev pub after_request : Around → ServerId × Request → Around
after_request w asked = record w { st = after_asked w.st asked }

-- a flush's batch was committed, which leaves this tree
abbrev pub after_commit : Around → Flush → ℕ → List Piece → Shelf → Tree → Around
after_commit w flush number pieces after tree = record w {
  contents = with_parts w.contents flush.log flush.parts;
  tables = committed w.tables flush.log number pieces after;
  tree = tree;
}

-- such a commit: the flush fits what is held, its parts have the pieces, and the operations are those of updates, none of
-- which is stale or wears a version out
pub record IsCommit (w : Around) (flush : Flush) (pieces : List Piece) (batch : Batch) (after : Shelf) : Type 0 where
  pub differ : StripesDiffer flush.parts
  pub fits : All (PartFits w.z w.contents w.tables.held flush.log) flush.parts
  pub pieces_lie : AreInFlush flush pieces
  pub updates : AllByRecursion IsOfUpdate batch.ops
  pub done : done_ops w.z.block batch.ops (shelf_of w.tables) ≡ Ok after
  pub fresh : any_wears w.z.block batch.ops (shelf_of w.tables) ≡ false

-- what the tables have of each that is asked
abbrev pub founds : Tables → List Ask → List Found
founds tables asks = map (λ ask. found tables (ask.fid).0 ask.first ask.count) asks

-- the first of these calls has this reply in a tree
abbrev pub IsReplyIn : Tree → List Numbered → Reply → Type 0
IsReplyIn seen [] reply = ⊥
IsReplyIn seen (read ∷ rest) reply = reply ≡ reply_to seen read.call

-- a step leaves the client's number, its calls, and what its work is for
pub record SameCalls (old new : SeenClient) : Type 0 where
  pub client : new.client ≡ old.client
  pub kept : new.kept ≡ old.kept
  pub queue : new.queue ≡ old.queue
  pub aim : aim_of new.task ≡ aim_of old.task

-- the read at work was answered, as this tree answers it; nothing was kept before it
pub record AnswersRead (seen : Tree) (c before : SeenClient) (heard : Heard) : Type 0 where
  pub reply : Reply
  pub right : IsReplyIn seen before.queue reply
  pub none_kept : before.kept ≡ []
  pub same : SameCalls before c
  pub is : heard ≡ answers_read c (said.Reply reply)

-- a step tells nothing, and leaves the calls
pub record TellsNothing (before : SeenClient) (heard : Heard) : Type 0 where
  pub told : heard.told ≡ told.Nothing
  pub same : SameCalls before heard.client

-- A step tells nothing, or the reply of this tree to the first queued call.
abbrev pub TellsRight : Tree → SeenClient → Heard → Type 0
TellsRight seen before heard = TellsNothing before heard ⊎ ((c : SeenClient) × AnswersRead seen c before heard)

-- a step gives the client's work up for this cause: the client, which has noted what it heard, has its calls and its task
pub record GivesUp (c : SeenClient) (cause : Cause) (heard : Heard) : Type 0 where
  pub noted : SeenClient
  pub same : SameCalls c noted
  pub task : noted.task ≡ c.task
  pub is : heard ≡ gives_up noted cause
