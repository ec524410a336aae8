-- What a change does, moment by moment.
use Rattle.std.specs.Prelude.{◌≡◌, ℕ, ◌+◌, ◌≤◌, List, [], ◌∷◌, ◌++◌, Result, OnOk, Some}
use Rattle.zb_batch.specs.declared.batch.Batch.{Batch}
use Rattle.zb_entries.specs.declared.entry.Entry.{Entry}
use Rattle.zb_outside.specs.Meaning.{Meaning}
use Rattle.zb_outside.specs.Runs.{Run}
use Rattle.zb_ckpt.specs.Write.{next_root}
use Rattle.zb_journal.specs.Spelling.{size_of}
use Rattle.zb_tables.specs.Tables.{Tables, Contents}
use Rattle.zb_tables.specs.Fold.{folded}
use Rattle.zb_tables.specs.Replay.{IsBatchOf}
use Rattle.zb_tables.specs.Taking.{IsTaken}
use Rattle.zb_spelling.specs.Unspelling.{sizes_of}
use Rattle.zb_platter.specs.Says.{SaysEither}
use Rattle.zb_platter.specs.Standing.{SeenPlatter, Stands}

-- on the way platter 0 says the tables before or those after; after Ok it says those after, and stands as is known
pub record ChangeTold {T E : Type 0} (p : SeenPlatter) (contents : Contents) (before after : Tables) (result : Result T E) (old new : Meaning) : Type 0 where
  pub run : Run 0 (SaysEither p.root.geo contents before after) old new
  pub stands : OnOk result (Stands p contents after new.now)

-- these tables can take the entry, for a Commit with this batch, which makes those of them
pub record Leads (p : SeenPlatter) (contents : Contents) (before : Tables) (entry : Entry) (batch : Batch) (after : Tables) : Type 0 where
  pub batch_is : IsBatchOf contents entry batch
  pub taken : IsTaken (sizes_of p.root.geo) p.entries before entry batch
  pub folds : folded p.root.geo.block before entry batch ≡ Some after

-- an entry of this size, and a byte behind it, have room
abbrev pub HasPlace : SeenPlatter → ℕ → Type 0
HasPlace p size = p.journal.place + size + 1 ≤ 65536

-- with one more entry
abbrev pub with_entry : SeenPlatter → Entry → SeenPlatter
with_entry p entry = record {
  root = p.root;
  journal = record { place = p.journal.place + size_of entry; number = p.journal.number + 1 };
  entries = p.entries ++ entry ∷ [];
}

-- with these bytes as the checkpoint, and no entry behind it
abbrev pub with_checkpoint : SeenPlatter → List ℕ → SeenPlatter
with_checkpoint p bytes = record {
  root = next_root (record p.root { first = p.journal.number }) bytes;
  journal = record { place = 0; number = p.journal.number };
  entries = [];
}
