-- How many bytes the parts of a batch take.
use Rattle.std.proofs.Common.{◌≡◌, ℕ, ◌+◌, ◌*◌, ◌≤◌, List, [], ◌∷◌, ◌++◌, length, map, refl, ap, arith, length-append}
use Rattle.std.specs.Prelude.{sum_by}
use Rattle.std.specs.List.{flat_map}
use Rattle.std.proofs.lemmas.List.Sums.{sum_by-cons}
use Rattle.zb_types.specs.declared.calls.Call.{Call}
use Rattle.zb_types.specs.declared.calls.Call.TheVariants.{Create, Mkdir, Remove, Rename, Write as WriteCall, Truncate, Sync as SyncCall, Read, List as ListOf, Stat, Find}
use Rattle.zb_numbers.specs.Numbers.{number_text}
use Rattle.zb_numbers.proofs.Digits.{length-number_text}
use Rattle.zb_delta.specs.declared.delta.Delta.{Delta}
use Rattle.zb_delta.specs.Spelling.{spelling_of_delta}
use Rattle.zb_delta.proofs.Lengths.{length-spelling_of_delta}
use Rattle.zb_batch.specs.declared.batch.Op.{Op}
use Rattle.zb_batch.specs.declared.batch.Op.TheVariants.{Name, Write, Cut, Sync, Clean}
use Rattle.zb_batch.specs.declared.header.Header.{Header}
use Rattle.zb_batch.specs.Spelling.{path_text, paths_text, deltas_text, deltas_of, call_of, rest_text, op_text, ops_text, delta_count, meta_length}
use Rattle.zb_batch.specs.declared.batch.Batch.{Batch}
use Rattle.zb_batch.specs.Reading.{paths_length, op_length, header_text}
use Rattle.zb_batch.specs.Shapes.{Shape, names, writes, cuts, syncs, cleans, shape_of, HaveSameShape}

pub length-path_text : (path : List ℕ) → length (path_text path) ≡ 2 + length path
length-path_text path = omega (arith, length-append (number_text 2 (length path)) path, length-number_text 2 (length path))

length-paths_text : (what : Call) → length (paths_text what) ≡ paths_length what
length-paths_text (Create path) = length-path_text path
length-paths_text (Mkdir path) = length-path_text path
length-paths_text (Remove path) = length-path_text path
length-paths_text (Rename from to) = omega (arith, length-append (path_text from) (path_text to), length-path_text from, length-path_text to)
length-paths_text (WriteCall fid offset bytes) = refl
length-paths_text (Truncate fid size) = refl
length-paths_text SyncCall = refl
length-paths_text (Read fid offset len) = refl
length-paths_text (ListOf path) = refl
length-paths_text (Stat path) = refl
length-paths_text (Find path) = refl

length-all : (deltas : List Delta) → length (flat_map spelling_of_delta deltas) ≡ 58 * length deltas
length-all [] = refl
length-all (d ∷ ds) = omega (arith, length-append (spelling_of_delta d) (flat_map spelling_of_delta ds), length-spelling_of_delta d, length-all ds)

pub length-deltas_text : (deltas : List Delta) → length (deltas_text deltas) ≡ 4 + 58 * length deltas
length-deltas_text deltas = omega (arith, length-append (number_text 4 (length deltas)) (flat_map spelling_of_delta deltas), length-number_text 4 (length deltas), length-all deltas)

-- a number in front
pub length-behind : (n x : ℕ) (bytes : List ℕ) → length (number_text n x ++ bytes) ≡ n + length bytes
length-behind n x bytes = omega (arith, length-append (number_text n x) bytes, length-number_text n x)

length-rest_text : (op : Op) → 9 + length (rest_text op) ≡ op_length op
length-rest_text (Name call what) = omega (arith, length-paths_text what)
length-rest_text (Write call fid version offset len deltas) = simp length-behind (omega (arith, length-all deltas))
length-rest_text (Cut call fid version size deltas) = simp length-behind (omega (arith, length-all deltas))
length-rest_text (Sync call) = refl
length-rest_text (Clean deltas) = omega (arith, length-deltas_text deltas)

pub length-op_text : (op : Op) → length (op_text op) ≡ op_length op
unfolding op_text
length-op_text op = omega (arith, length-behind 8 (call_of op) (rest_text op), length-rest_text op)

pub length-ops_text : (ops : List Op) → length (ops_text ops) ≡ sum_by op_length ops
length-ops_text [] = refl
length-ops_text (op ∷ ops) = omega (arith, length-append (op_text op) (ops_text ops), length-op_text op, length-ops_text ops, sum_by-cons op_length op ops)

-- an operation takes more bytes than it has deltas
pub count_of_op : (op : Op) → length (deltas_of op) ≤ op_length op
count_of_op (Name call what) = omega arith
count_of_op (Write call fid version offset len deltas) = omega arith
count_of_op (Cut call fid version size deltas) = omega arith
count_of_op (Sync call) = omega arith
count_of_op (Clean deltas) = omega arith

pub count_of_ops : (ops : List Op) → delta_count ops ≤ sum_by op_length ops
count_of_ops [] = omega arith
count_of_ops (op ∷ ops) = omega (arith, count_of_op op, count_of_ops ops, sum_by-cons (λ o. length (deltas_of o)) op ops, sum_by-cons op_length op ops)

pub length-header_text : (header : Header) → length (header_text header) ≡ 32
length-header_text header = simp (length-append, length-number_text)

-- ---- by shapes

abbrev length_of_shape : Shape → ℕ
length_of_shape (names what) = 9 + paths_length what
length_of_shape (writes n) = 9 + (24 + 58 * n)
length_of_shape (cuts n) = 9 + (20 + 58 * n)
length_of_shape syncs = 9
length_of_shape (cleans n) = 9 + (4 + 58 * n)

shape_length : (op : Op) → op_length op ≡ length_of_shape (shape_of op)
shape_length (Name call what) = refl
shape_length (Write call fid version offset len deltas) = refl
shape_length (Cut call fid version size deltas) = refl
shape_length (Sync call) = refl
shape_length (Clean deltas) = refl

abbrev sum_shapes : List Shape → ℕ
sum_shapes [] = 0
sum_shapes (shape ∷ shapes) = length_of_shape shape + sum_shapes shapes

length-shapes : (ops : List Op) → length (ops_text ops) ≡ sum_shapes (map shape_of ops)
length-shapes [] = refl
length-shapes (op ∷ ops) = omega (arith, length-append (op_text op) (ops_text ops), length-op_text op, shape_length op, length-shapes ops)

-- operations of the same shapes take as many bytes
pub same_length : (batch other : Batch) → HaveSameShape batch other → meta_length batch ≡ meta_length other
same_length batch other same = let one = length-shapes batch.ops in let two = length-shapes other.ops in let e = ap sum_shapes same in omega arith
