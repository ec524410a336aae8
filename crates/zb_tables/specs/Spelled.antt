-- Batches that are made of updates, at the versions and with the merged blocks that the tables have.
use Rattle.std.specs.Prelude.{◌≡◌, ℕ, ◌+◌, ◌*◌, ◌/◌, ◌≤◌, ◌<◌, nat_lt, List, [], ◌∷◌, length, slice_index, Option, Some, None, IsSome, IfOk}
use Rattle.std.specs.Bool.{MatchBool}
use Rattle.zb_types.specs.declared.ids.Ptr.{Ptr}
use Rattle.zb_types.specs.declared.calls.Call.{Call}
use Rattle.zb_types.specs.declared.calls.Call.TheVariants.{Create, Mkdir, Remove, Rename, Write as WriteCall, Truncate, Sync as SyncCall, Read, List as ListOf, Stat, Find}
use Rattle.zb_types.specs.Keyed.{look}
use Rattle.zb_types.specs.Bytes.{written, resized}
use Rattle.zb_types.specs.Apply.{max_file}
use Rattle.zb_delta.specs.declared.delta.Delta.{Delta}
use Rattle.zb_batch.specs.declared.batch.Op.{Op}
use Rattle.zb_batch.specs.declared.batch.Op.TheVariants.{Name, Write, Cut, Sync}
use Rattle.zb_tables.specs.Tables.{FileState, Contents, bytes_at, shown_bytes}
use Rattle.zb_tables.specs.Fold.{Shelf, Files, done_op, set_all}

-- the new pointers by their blocks
abbrev pub new_blocks : List Delta → List (ℕ × Ptr)
new_blocks deltas = set_all deltas []

-- each new pointer names its block of the file's new bytes, and ends with them at the latest
pub record Merged (b : ℕ) (contents : Contents) (whole : List ℕ) (deltas : List Delta) : Type 0 where
  pub bytes : (k : ℕ) (p : Ptr) → look k (new_blocks deltas) ≡ Some p → (y : ℕ) → y < b → slice_index (bytes_at contents p) y ≡ slice_index whole (k * b + y)
  pub within : (k : ℕ) (p : Ptr) → look k (new_blocks deltas) ≡ Some p → k * b + p.len ≤ length whole

-- each block of the range has a new pointer
abbrev pub AllNew : ℕ → List Delta → ℕ → ℕ → Type 0
AllNew b deltas from to = (i : ℕ) → from ≤ i → i < to → IsSome (look (i / b) (new_blocks deltas))

-- a block that stays and reaches past the new end has a new pointer
abbrev pub CutAnew : ℕ → FileState → ℕ → List Delta → Type 0
CutAnew b file n deltas = (k : ℕ) (p : Ptr) → look k file.blocks ≡ Some p → k * b < n → n < k * b + p.len → IsSome (look k (new_blocks deltas))

-- the deltas of a write, made at a version of the file: any where the file is gone or would be too long
abbrev pub WriteFits : ℕ → Contents → Option FileState → ℕ → ℕ → List ℕ → List Delta → Type 0
WriteFits b contents None version offset bytes deltas = Unit {0}
WriteFits b contents (Some file) version offset bytes deltas =
    (version ≡ file.version) × MatchBool (nat_lt max_file (offset + length bytes)) (Unit {0})
    (Merged b contents (written (shown_bytes b contents file) offset bytes) deltas × AllNew b deltas offset (offset + length bytes))

-- the deltas of a truncation
abbrev pub CutFits : ℕ → Contents → Option FileState → ℕ → ℕ → List Delta → Type 0
CutFits b contents None version n deltas = Unit {0}
CutFits b contents (Some file) version n deltas =
    (version ≡ file.version) × MatchBool (nat_lt max_file n) (Unit {0})
    (Merged b contents (resized (shown_bytes b contents file) n) deltas × CutAnew b file n deltas)

-- an update of names
abbrev pub IsOfNames : Call → Type 0
IsOfNames (Create path) = Unit {0}
IsOfNames (Mkdir path) = Unit {0}
IsOfNames (Remove path) = Unit {0}
IsOfNames (Rename from to) = Unit {0}
IsOfNames (WriteCall fid offset bytes) = ⊥
IsOfNames (Truncate fid size) = ⊥
IsOfNames SyncCall = ⊥
IsOfNames (Read fid offset len) = ⊥
IsOfNames (ListOf path) = ⊥
IsOfNames (Stat path) = ⊥
IsOfNames (Find path) = ⊥

-- the operation is that of the update, against these files
abbrev pub OpIs : ℕ → Contents → Files → Op → Call → Type 0
OpIs b contents files (Name call what) update = (what ≡ update) × IsOfNames update
OpIs b contents files (Write call fid version offset len deltas) (WriteCall g at bytes) =
    (fid ≡ g) × (offset ≡ at) × (len ≡ length bytes) × WriteFits b contents (look fid.0 files) version offset bytes deltas
OpIs b contents files (Cut call fid version n deltas) (Truncate g m) = (fid ≡ g) × (n ≡ m) × CutFits b contents (look fid.0 files) version n deltas
OpIs b contents files (Sync call) SyncCall = Unit {0}
OpIs b contents files o update = ⊥

-- the operations of a batch are those of some updates in order, each against the files that the earlier ones leave
abbrev pub OpsAre : ℕ → Contents → List Op → List Call → Shelf → Type 0
OpsAre b contents [] [] s = Unit {0}
OpsAre b contents (o ∷ os) (u ∷ us) s = OpIs b contents s.files o u × IfOk (done_op b s o) (OpsAre b contents os us)
OpsAre b contents os us s = ⊥
