-- What the reader finds part by part.
use Rattle.std.specs.Prelude.{◌≡◌, ℕ, ◌+◌, ◌*◌, ◌≤◌, List, ◌++◌, length, codes, IsTrue}
use Rattle.std.specs.List.{AllByRecursion}
use Rattle.zb_types.specs.declared.calls.Call.{Call}
use Rattle.zb_types.specs.declared.calls.Call.TheVariants.{Create, Mkdir, Remove, Rename, Write as WriteCall, Truncate, Sync as SyncCall, Read, List as ListOf, Stat, Find}
use Rattle.zb_types.specs.Paths.{is_path}
use Rattle.zb_numbers.specs.Numbers.{number_text, IsBelow, zeros}
use Rattle.zb_delta.specs.declared.delta.Delta.{Delta}
use Rattle.zb_delta.specs.Spelling.{IsDelta}
use Rattle.zb_batch.specs.declared.batch.Batch.{Batch}
use Rattle.zb_batch.specs.declared.batch.Op.{Op}
use Rattle.zb_batch.specs.declared.batch.Op.TheVariants.{Name, Write, Cut, Sync, Clean}
use Rattle.zb_batch.specs.declared.header.Header.{Header}
use Rattle.zb_batch.specs.declared.owners.Owner.{Owner}
use Rattle.zb_batch.specs.declared.owners.Owner.TheVariants.{Client, Cleaner}
use Rattle.zb_batch.specs.Spelling.{kind_of_name, kind_of, call_of, ops_text, delta_count, meta_length}
use Rattle.zb_batch.specs.Batches.{IsUpdateOf, IsCleanDelta, IsNameCall, IsOp, is_company}

-- the bytes of a valid path
abbrev pub IsPath : List ℕ → Type 0
IsPath path = IsTrue (is_path path)

-- the numbers of a header have room in their bytes
pub record IsHeader (header : Header) : Type 0 where
  pub log : IsBelow 4 header.log.0
  pub number : IsBelow 8 header.number
  pub size : IsBelow 4 header.size
  pub ops : IsBelow 2 header.ops
  pub deltas : IsBelow 4 header.deltas

-- what stands behind the length of the meta part
abbrev pub counts_text : Header → List ℕ
counts_text header = number_text 2 header.ops ++ (zeros 2 ++ (number_text 4 header.deltas ++ zeros 4))

-- what stands behind the first word
abbrev pub numbers_text : Header → List ℕ
numbers_text header = number_text 4 header.log.0 ++ (number_text 8 header.number ++ (number_text 4 header.size ++ counts_text header))

-- the first word, and what stands behind it
abbrev pub header_text : Header → List ℕ
header_text header = codes "ZBBT" ++ numbers_text header

-- how many bytes the paths of a name operation take
abbrev pub paths_length : Call → ℕ
paths_length (Create path) = 2 + length path
paths_length (Mkdir path) = 2 + length path
paths_length (Remove path) = 2 + length path
paths_length (Rename from to) = 2 + length from + (2 + length to)
paths_length (WriteCall fid offset bytes) = 0
paths_length (Truncate fid size) = 0
paths_length SyncCall = 0
paths_length (Read fid offset len) = 0
paths_length (ListOf path) = 0
paths_length (Stat path) = 0
paths_length (Find path) = 0

-- how many bytes an operation takes: 58 for each delta
abbrev pub op_length : Op → ℕ
op_length (Name call what) = 9 + paths_length what
op_length (Write call fid version offset len deltas) = 9 + (24 + 58 * length deltas)
op_length (Cut call fid version size deltas) = 9 + (20 + 58 * length deltas)
op_length (Sync call) = 9
op_length (Clean deltas) = 9 + (4 + 58 * length deltas)

-- a delta of an operation of this owner
abbrev pub IsOwned : Owner → Delta → Type 0
IsOwned (Client fid version) delta = IsUpdateOf fid version delta
IsOwned Cleaner delta = IsCleanDelta delta

-- a delta with room that an owner has
abbrev pub IsDeltaOf : Owner → Delta → Type 0
IsDeltaOf owner delta = IsDelta delta × IsOwned owner delta

-- so many deltas of this owner
abbrev pub AreDeltasOf : Owner → ℕ → List Delta → Type 0
AreDeltasOf owner count deltas = AllByRecursion (IsDeltaOf owner) deltas × (length deltas ≡ count)

-- deltas of this owner, whose count has room
abbrev pub AreDeltas : Owner → List Delta → Type 0
AreDeltas owner deltas = AllByRecursion (IsDeltaOf owner) deltas × IsBelow 4 (length deltas)

-- a name operation of this kind
abbrev pub IsNameOf : ℕ → Call → Type 0
IsNameOf kind what = IsNameCall what × (kind_of_name what ≡ kind)

-- an operation of this kind and call
abbrev pub IsOpOf : ℕ → ℕ → Op → Type 0
IsOpOf kind call op = IsOp op × (kind_of op ≡ kind) × (call_of op ≡ call)

-- so many operations
abbrev pub AreOps : ℕ → List Op → Type 0
AreOps count ops = AllByRecursion IsOp ops × (length ops ≡ count)

-- the header of a batch
abbrev pub header_of : Batch → Header
header_of batch = record {
  log = batch.log;
  number = batch.number;
  size = meta_length batch;
  ops = length batch.ops;
  deltas = delta_count batch.ops;
}

-- the header is that of these operations, which may stand together
pub record Agrees (header : Header) (ops : List Op) : Type 0 where
  pub numbered : 1 ≤ header.number
  pub company : IsTrue (is_company ops)
  pub size : 32 + length (ops_text ops) ≡ header.size
  pub deltas : delta_count ops ≡ header.deltas
