-- A batch that may be committed.
use Rattle.std.specs.Prelude.{◌≡◌, ℕ, ◌+◌, ◌≤◌, ◌++◌, ◌∷◌, All, List, length, None}
use Rattle.zb_types.specs.declared.ids.LogId.{LogId}
use Rattle.zb_types.specs.declared.ids.Piece.{Piece}
use Rattle.zb_types.specs.declared.calls.Call.{Call}
use Rattle.zb_stripe.specs.declared.flush.Part.{Part}
use Rattle.zb_stripe.specs.declared.flush.Flush.{Flush}
use Rattle.zb_batch.specs.declared.batch.Batch.{Batch}
use Rattle.zb_entries.specs.declared.entry.Entry.TheVariants.{Commit}
use Rattle.zb_tables.specs.Tables.{Tables, Contents, SameIn}
use Rattle.zb_tables.specs.Fold.{held_with_all, shelf_of}
use Rattle.zb_tables.specs.Spelled.{OpsAre}
use Rattle.zb_tables.specs.Pointing.{OpsLie}
use Rattle.zb_tables.specs.Replay.{IsBatchOf}
use Rattle.zb_tables.specs.Taking.{Sizes, MayCommit, commit_refusal}
use Rattle.zb_recovery.specs.Missing.{Servers}
use Rattle.zb_recovery.specs.Agreeing.{ViewAgrees}
use Rattle.zb_sound.specs.Standing.{seen}
use Rattle.zb_sound.specs.Delivering.{ForEach, allowed}

-- The batch's bytes stand on the servers, `new` being the contents of the stripes with it, and nothing refuses it.
pub record IsFlushed (z : Sizes) (contents new : Contents) (st : Servers) (tables : Tables) (log : LogId) (number generation : ℕ) (pieces : List Piece) (batch : Batch) : Type 0 where
  -- what was committed before stays
  pub same : SameIn tables.held contents new
  -- the pieces spell the batch
  pub spells : IsBatchOf new (Commit log number generation pieces) batch
  -- the tables can take it
  pub may : MayCommit z tables batch pieces
  pub taken : commit_refusal z.block tables batch pieces generation ≡ None
  -- each stripe stands up to the end that it then has
  pub stand : ForEach z.servers st (allowed tables.members) (λ x. ViewAgrees (seen z st x) new (held_with_all log tables.next_entry pieces tables.held))
  -- the new pointers lie in what is then held
  pub lie : OpsLie (held_with_all log tables.next_entry pieces tables.held) batch.ops

-- the batch is of these updates, at the tables' versions and with the merged blocks
abbrev pub IsOfUpdates : Sizes → Contents → Tables → Batch → List Call → Type 0
IsOfUpdates z new tables batch updates = OpsAre z.block new batch.ops updates (shelf_of tables)

-- a piece lies in the bytes of a part of the flush
pub record IsInFlush (flush : Flush) (p : Piece) : Type 0 where
  pub before : List Part
  pub after : List Part
  pub part : Part
  pub is : flush.parts ≡ before ++ part ∷ after
  pub stripe_is : p.stripe ≡ part.stripe
  pub within : p.offset + p.len ≤ length part.bytes

-- so do all of some pieces
abbrev pub AreInFlush : Flush → List Piece → Type 0
AreInFlush flush pieces = All (IsInFlush flush) pieces
