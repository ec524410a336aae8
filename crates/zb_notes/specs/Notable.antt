-- What a batch's deltas must not be, so that its notes tell the use of stripes; and what notes come to.
use Rattle.std.specs.Prelude.{◌≡◌, ℕ, ◌+◌, false, List, [], ◌∷◌, Option, Some, None, Result, Ok, Err}
use Rattle.zb_types.specs.declared.ids.LogId.{LogId}
use Rattle.zb_types.specs.declared.ids.Ptr.{Ptr}
use Rattle.zb_types.specs.Keyed.{look, put}
use Rattle.zb_delta.specs.declared.delta.Delta.{Delta}
use Rattle.zb_delta.specs.Spelling.{body_of}
use Rattle.zb_batch.specs.declared.batch.Op.{Op}
use Rattle.zb_batch.specs.declared.batch.Op.TheVariants.{Name, Write, Cut, Sync, Clean}
use Rattle.zb_tables.specs.Tables.{FileState}
use Rattle.zb_tables.specs.Fold.{Files, Shelf, Stale, cut, done_op, moved, same_place}
use Rattle.zb_pointers.specs.Seen.{blocks_of}
use Rattle.zb_usage.specs.Uses.{bytes_in}
use Rattle.zb_usage.specs.Noting.{come, gone}

-- Where the tables have this pointer, a delta is made of no other one where they have none, and its new pointer is another one.
pub record IsNotable (d : Delta) (table : Option Ptr) : Type 0 where
  pub old : table ≡ None → (body_of d).was ≡ None
  pub fresh : same_place table (Some (body_of d).now) ≡ false

-- so is each of some deltas that are set one behind the other
abbrev pub AreNotable : List Delta → List (ℕ × Ptr) → Type 0
AreNotable [] blocks = Unit {0}
AreNotable (d ∷ ds) blocks = IsNotable d (look (body_of d).block blocks) × AreNotable ds (put (body_of d).block (body_of d).now blocks)

-- and each move by the cleaner
abbrev pub MovesNotable : List Delta → Files → Type 0
MovesNotable [] files = Unit {0}
MovesNotable (d ∷ ds) files = IsNotable d (look (body_of d).block (blocks_of (look (body_of d).fid.0 files))) × MovesNotable ds (moved (body_of d) files)

-- the blocks that a truncation to n bytes leaves of a file that was found
abbrev pub left_by : ℕ → ℕ → Option FileState → List (ℕ × Ptr)
left_by b n None = []
left_by b n (Some file) = (cut b n file).blocks

-- and each delta of an operation, on what the earlier ones left
abbrev pub OpNotable : ℕ → Shelf → Op → Type 0
OpNotable b s (Name call what) = Unit {0}
OpNotable b s (Write call fid version offset len deltas) = AreNotable deltas (blocks_of (look fid.0 s.files))
OpNotable b s (Cut call fid version size deltas) = AreNotable deltas (left_by b size (look fid.0 s.files))
OpNotable b s (Sync call) = Unit {0}
OpNotable b s (Clean deltas) = MovesNotable deltas s.files

-- what follows, where an operation wasn't stale
abbrev pub ThenNotable : Result Shelf Stale → (Shelf → Type 0) → Type 0
ThenNotable (Ok s) Next = Next s
ThenNotable (Err stale) Next = Unit {0}

-- and each of a batch's operations
abbrev pub OpsNotable : ℕ → List Op → Shelf → Type 0
OpsNotable b [] s = Unit {0}
OpsNotable b (o ∷ os) s = OpNotable b s o × ThenNotable (done_op b s o) (OpsNotable b os)

-- Sums.

-- how many bytes of a stripe come to be named by notes
abbrev pub all_come : LogId → ℕ → List Delta → ℕ
all_come log stripe [] = 0
all_come log stripe (d ∷ ds) = bytes_in log stripe (come d) + all_come log stripe ds

-- and how many go
abbrev pub all_gone : LogId → ℕ → List Delta → ℕ
all_gone log stripe [] = 0
all_gone log stripe (d ∷ ds) = bytes_in log stripe (gone d) + all_gone log stripe ds
