-- The bytes of a batch's meta part.
use Rattle.std.specs.Prelude.{ℕ, ◌+◌, List, [], ◌∷◌, ◌++◌, length, codes, sum_by}
use Rattle.std.specs.List.{flat_map}
use Rattle.zb_types.specs.declared.calls.Call.{Call}
use Rattle.zb_types.specs.declared.calls.Call.TheVariants.{Create, Mkdir, Remove, Rename, Write as WriteCall, Truncate, Sync as SyncCall, Read, List as ListOf, Stat, Find}
use Rattle.zb_numbers.specs.Numbers.{number_text, zeros}
use Rattle.zb_delta.specs.declared.delta.Delta.{Delta}
use Rattle.zb_delta.specs.Spelling.{spelling_of_delta}
use Rattle.zb_batch.specs.declared.batch.Batch.{Batch}
use Rattle.zb_batch.specs.declared.batch.Op.{Op}
use Rattle.zb_batch.specs.declared.batch.Op.TheVariants.{Name, Write, Cut, Sync, Clean}

-- a path, behind its length
abbrev pub path_text : List ℕ → List ℕ
path_text path = number_text 2 (length path) ++ path

-- the path of a name operation, or both of a rename
abbrev pub paths_text : Call → List ℕ
paths_text (Create path) = path_text path
paths_text (Mkdir path) = path_text path
paths_text (Remove path) = path_text path
paths_text (Rename from to) = path_text from ++ path_text to
paths_text (WriteCall fid offset bytes) = []
paths_text (Truncate fid size) = []
paths_text SyncCall = []
paths_text (Read fid offset len) = []
paths_text (ListOf path) = []
paths_text (Stat path) = []
paths_text (Find path) = []

-- deltas, behind their count
abbrev pub deltas_text : List Delta → List ℕ
deltas_text deltas = number_text 4 (length deltas) ++ flat_map spelling_of_delta deltas

-- 0 for a call that is no name operation
abbrev pub kind_of_name : Call → ℕ
kind_of_name (Create path) = 1
kind_of_name (Mkdir path) = 2
kind_of_name (Remove path) = 3
kind_of_name (Rename from to) = 4
kind_of_name (WriteCall fid offset bytes) = 0
kind_of_name (Truncate fid size) = 0
kind_of_name SyncCall = 0
kind_of_name (Read fid offset len) = 0
kind_of_name (ListOf path) = 0
kind_of_name (Stat path) = 0
kind_of_name (Find path) = 0

-- the number of an operation's kind
abbrev pub kind_of : Op → ℕ
kind_of (Name call what) = kind_of_name what
kind_of (Write call fid version offset len deltas) = 5
kind_of (Cut call fid version size deltas) = 6
kind_of (Sync call) = 7
kind_of (Clean deltas) = 8

-- a clean has no call
abbrev pub call_of : Op → ℕ
call_of (Name call what) = call
call_of (Write call fid version offset len deltas) = call
call_of (Cut call fid version size deltas) = call
call_of (Sync call) = call
call_of (Clean deltas) = 0

-- the deltas of an operation, none of a name operation or a sync
abbrev pub deltas_of : Op → List Delta
deltas_of (Name call what) = []
deltas_of (Write call fid version offset len deltas) = deltas
deltas_of (Cut call fid version size deltas) = deltas
deltas_of (Sync call) = []
deltas_of (Clean deltas) = deltas

-- what stands behind the kind and the call's number
abbrev pub rest_text : Op → List ℕ
rest_text (Name call what) = paths_text what
rest_text (Write call fid version offset len deltas) =
    number_text 4 fid.0 ++ (number_text 8 version ++ (number_text 4 offset ++ (number_text 4 len ++ deltas_text deltas)))
rest_text (Cut call fid version size deltas) = number_text 4 fid.0 ++ (number_text 8 version ++ (number_text 4 size ++ deltas_text deltas))
rest_text (Sync call) = []
rest_text (Clean deltas) = deltas_text deltas

-- the kind, the call's number, and the rest
unfoldable pub op_text : Op → List ℕ
op_text op = kind_of op ∷ (number_text 8 (call_of op) ++ rest_text op)

-- operations, one behind the other
abbrev pub ops_text : List Op → List ℕ
ops_text ops = flat_map op_text ops

-- how many deltas the operations have together
abbrev pub delta_count : List Op → ℕ
delta_count ops = sum_by (λ op. length (deltas_of op)) ops

-- how many bytes the meta part takes
abbrev pub meta_length : Batch → ℕ
meta_length batch = 32 + length (ops_text batch.ops)

-- the header and the operations
unfoldable pub spelling_of_batch : Batch → List ℕ
spelling_of_batch batch =
    codes "ZBBT" ++ (number_text 4 batch.log.0 ++ (number_text 8 batch.number ++ (number_text 4 (meta_length batch) ++ (number_text 2 (length batch.ops)
    ++ (zeros 2 ++ (number_text 4 (delta_count batch.ops) ++ (zeros 4 ++ ops_text batch.ops)))))))
