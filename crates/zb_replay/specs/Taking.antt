-- What is done where an entry that was read is taken into the tables.
use Rattle.std.specs.Prelude.{◌≡◌, ℕ, List, Some, None}
use Rattle.zb_types.specs.declared.ids.Piece.{Piece}
use Rattle.zb_batch.specs.declared.batch.Batch.{Batch}
use Rattle.zb_entries.specs.declared.entry.Entry.TheVariants.{Commit}
use Rattle.zb_tables.specs.Fold.{folded}
use Rattle.zb_tables.specs.Taking.{MayCommit, commit_refusal}
use Rattle.zb_manager.specs.Managers.{SeenManager}

-- sizes and holder are as before
pub record SameOwner (old new : SeenManager) : Type 0 where
  pub sizes : new.sizes ≡ old.sizes
  pub holder : new.holder ≡ old.holder

-- the batch may be committed at these tables, and isn't refused
pub record MayTake (m : SeenManager) (batch : Batch) (pieces : List Piece) (generation : ℕ) : Type 0 where
  pub may : MayCommit m.sizes m.tables batch pieces
  pub free : commit_refusal m.sizes.block m.tables batch pieces generation ≡ None

-- it may, and its entry makes the new tables
pub record TakesBatch (old : SeenManager) (batch : Batch) (pieces : List Piece) (generation : ℕ) (new : SeenManager) : Type 0 where
  pub may : MayTake old batch pieces generation
  pub folds : folded old.sizes.block old.tables (Commit batch.log batch.number generation pieces) batch ≡ Some new.tables
