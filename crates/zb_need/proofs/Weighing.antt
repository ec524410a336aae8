-- The bytes of a formed batch are at most the weight of its calls.
use Rattle.std.proofs.Common.{◌≡◌, ℕ, zero, suc, ◌+◌, ◌-◌, ◌*◌, ◌/◌, ◌<◌, ◌≤◌, Bool, true, false, List, [], ◌∷◌, length, map, length-append, Option, Some, None, refl, ap, subst, arith}
use Rattle.std.specs.Prelude.{nat_le, IsTrue}
use Rattle.std.specs.Bool.{MatchBool}
use Rattle.std.specs.List.{AllByRecursion, AllZip, flat_map, range_with_len, sum, sum_by}
use Rattle.std.proofs.lemmas.Bool.{cond_both, false≢true, leb-false}
use Rattle.std.proofs.lemmas.List.{length-map}
use Rattle.std.proofs.lemmas.List.Sums.{sum_by-cons}
use Rattle.std.proofs.lemmas.Nat.{mul-le}
use Rattle.zb_types.specs.declared.geometry.Geometry.{Geometry}
use Rattle.zb_types.specs.declared.ids.Fid.{Fid}
use Rattle.zb_types.specs.declared.ids.Ptr.{Ptr}
use Rattle.zb_types.specs.declared.calls.Call.{Call}
use Rattle.zb_types.specs.declared.calls.Call.TheVariants.{Create, Mkdir, Remove, Rename, Write, Truncate, Sync, Read, List as ListOf, Stat, Find}
use Rattle.zb_types.specs.declared.nodes.Members.{Members}
use Rattle.zb_types.specs.declared.tables.Found.{Found}
use Rattle.zb_headline.specs.Need.{weight}
use Rattle.zb_log.specs.Logs.{SeenLog}
use Rattle.zb_delta.specs.declared.delta.Delta.{Delta}
use Rattle.zb_delta.specs.Spelling.{body_of}
use Rattle.zb_batch.specs.declared.batch.Op.{Op}
use Rattle.zb_batch.specs.declared.batch.Op.TheVariants as op
use Rattle.zb_batch.specs.Batches.{is_company}
use Rattle.zb_batch.specs.Reading.{op_length, paths_length}
use Rattle.zb_batch.specs.Spelling.{deltas_of}
use Rattle.zb_batch.proofs.Sizes.{length-ops_text}
use Rattle.zb_basis.specs.declared.asks.Ask.{Ask}
use Rattle.zb_basis.specs.declared.calls.Numbered.{Numbered}
use Rattle.zb_basis.specs.declared.basis.Basis.{Basis}
use Rattle.zb_basis.specs.declared.basis.Formed.{Formed}
use Rattle.zb_basis.specs.Forming.{IsFormed, Stand}
use Rattle.zb_basis.specs.Looking.{ask_of, ask_range, ask_to}
use Rattle.zb_basis.specs.Operations.{Bytes, Changed, CutDeltas, IsDelta, WriteDeltas, after_op, is_done, is_longer, new_ptrs, unchanged, OpIs as OpMeans, OpsAre as OpsMean}
use Rattle.zb_basis.proofs.Each.{each-of}
use Rattle.zb_need.specs.Weights.{bytes_of, updates_of, weights}
use Rattle.zb_need.proofs.Numbers.{span, deltas-weigh}

-- ---- how many deltas a call has

zip-length : {A : Type 0} (R : ℕ → A → Type 0) (a n : ℕ) (xs : List A) → AllZip R (range_with_len a n) xs → length xs ≡ n
zip-length R a zero [] zip = refl
zip-length R a zero (x ∷ xs) zip = absurd zip
zip-length R a (suc n) [] zip = absurd zip
zip-length R a (suc n) (x ∷ xs) zip = ap suc (zip-length R (a + 1) n xs zip.1)

range-few : (b : ℕ) (fid : Fid) (from n : ℕ) → 0 < b → (ask_range b fid from (from + n)).count ≤ n / b + 2
range-few b fid from n pos =
    cond_both (nat_le (from + n) from) (record { fid = fid; first = 0; count = 0 }) (record { fid = fid; first = from / b; count = (from + n - 1) / b - from / b + 1 }) (λ (ask : Ask). ask.count ≤ n / b + 2)
    (λ _. omega arith)
    (λ e. let some = leb-false (from + n) from e in span b from n pos (omega arith))

write-count : (b : ℕ) (fid : Fid) (offset : ℕ) (text : List ℕ) → 0 < b → (ask_of b (Write fid offset text)).count ≤ length text / b + 2
write-count b fid offset text pos =
    cond_both (nat_le (offset + length text) 67108864) (Some (offset + length text)) None (λ (o : Option ℕ). (ask_to b fid offset o).count ≤ length text / b + 2) (λ _. range-few b fid offset (length text) pos)
    (λ _. omega arith)

module _ (b : ℕ) (pos : 0 < b) (bytes : Bytes) where
  write-few : (done : Bool) (changed : Changed) (found : Found) (fid : Fid) (version offset : ℕ) (text : List ℕ) (deltas : List Delta)
      → MatchBool done (WriteDeltas b bytes changed found fid version offset text deltas) (deltas ≡ []) → length deltas ≤ length text / b + 2
  write-few true changed found fid version offset text deltas are =
      let count = write-count b fid offset text pos in
      let same = zip-length _ (ask_of b (Write fid offset text)).first (ask_of b (Write fid offset text)).count deltas are in
      omega arith
  write-few false changed found fid version offset text deltas none = let n = ap length none in omega arith

  cut-few : (longer : Bool) (fid : Fid) (version n : ℕ) (was : Option Ptr) (new : List ℕ) (deltas : List Delta)
      → MatchBool longer ((delta : Delta) × (deltas ≡ delta ∷ []) × IsDelta bytes fid version (n / b) was new delta) (deltas ≡ []) → length deltas ≤ 1
  cut-few true fid version n was new deltas one = let m = ap length one.1 in omega arith
  cut-few false fid version n was new deltas none = let m = ap length none in omega arith

  cut-done : (done : Bool) (fid : Fid) (version n : ℕ) (was : Option Ptr) (deltas : List Delta) → MatchBool done (CutDeltas b bytes fid version n was deltas) (deltas ≡ []) → length deltas ≤ 1
  cut-done true fid version n was deltas are = cut-few (is_longer b n was) fid version n was _ deltas are
  cut-done false fid version n was deltas none = let m = ap length none in omega arith

-- ---- an operation's bytes, with a block for each of its deltas and the header of a batch

abbrev IsLight : Geometry → Call → Op → Type 0
IsLight geo call o = op_length o + length (deltas_of o) * geo.block + 32 ≤ weight geo call

module _ (geo : Geometry) (pos : 0 < geo.block) (bytes : Bytes) where
  op-light : (changed : Changed) (number : ℕ) (call : Call) (found : Found) (o : Op) → OpMeans geo.block bytes changed number call found o → IsLight geo call o
  op-light changed number (Write fid offset text) found (op.Write m g version at len deltas) is =
      deltas-weigh geo.block (length deltas) (length text / geo.block + 2) (write-few geo.block pos bytes (is_done version (offset + length text)) changed found fid version offset text deltas is.5)
  op-light changed number (Write fid offset text) found (op.Name m what) is = absurd (false≢true is.2)
  op-light changed number (Write fid offset text) found o is = absurd is
  op-light changed number (Truncate fid n) found (op.Cut m g version size deltas) is =
      let few = cut-done geo.block pos bytes (is_done version n) fid version n _ deltas is.4 in
      let blocks = mul-le (length deltas) geo.block 1 geo.block few (omega arith) in
      omega arith
  op-light changed number (Truncate fid n) found (op.Name m what) is = absurd (false≢true is.2)
  op-light changed number (Truncate fid n) found o is = absurd is
  op-light changed number Sync found (op.Sync m) is = omega arith
  op-light changed number Sync found (op.Name m what) is = absurd (false≢true is.2)
  op-light changed number Sync found o is = absurd is
  op-light changed number (Create path) found (op.Name m what) is = let same = ap paths_length is.1 in omega arith
  op-light changed number (Create path) found o is = absurd is
  op-light changed number (Mkdir path) found (op.Name m what) is = let same = ap paths_length is.1 in omega arith
  op-light changed number (Mkdir path) found o is = absurd is
  op-light changed number (Remove path) found (op.Name m what) is = let same = ap paths_length is.1 in omega arith
  op-light changed number (Remove path) found o is = absurd is
  op-light changed number (Rename path to) found (op.Name m what) is = let same = ap paths_length is.1 in omega arith
  op-light changed number (Rename path to) found o is = absurd is
  op-light changed number (Read fid offset len) found (op.Name m what) is = absurd (false≢true is.2)
  op-light changed number (Read fid offset len) found o is = absurd is
  op-light changed number (ListOf path) found (op.Name m what) is = absurd (false≢true is.2)
  op-light changed number (ListOf path) found o is = absurd is
  op-light changed number (Stat path) found (op.Name m what) is = absurd (false≢true is.2)
  op-light changed number (Stat path) found o is = absurd is
  op-light changed number (Find path) found (op.Name m what) is = absurd (false≢true is.2)
  op-light changed number (Find path) found o is = absurd is

  ops-light : (calls : List Numbered) (founds : List Found) (os : List Op) (changed : Changed) → OpsMean geo.block bytes changed calls founds os
      → sum_by op_length os + length (new_ptrs os) * geo.block + 32 * length os ≤ weights geo (updates_of calls)
  ops-light [] [] [] changed are = omega arith
  ops-light (call ∷ calls) (found ∷ founds) (o ∷ os) changed are =
      let here = op-light changed call.number call.call found o are.0 in
      let rest = ops-light calls founds os (after_op geo.block changed o) are.1 in
      let text = sum_by-cons op_length o os in
      let weigh = sum_by-cons (λ (n : ℕ). n) (weight geo call.call) (map (weight geo) (updates_of calls)) in
      let both = length-append (flat_map (λ d. (body_of d).now ∷ []) (deltas_of o)) (new_ptrs os) in
      let now = length-now (deltas_of o) in
      let count : length (new_ptrs (o ∷ os)) ≡ length (deltas_of o) + length (new_ptrs os) = omega arith in
      let product = ap (λ (n : ℕ). n * geo.block) count in
      omega arith where
        length-now : (ds : List Delta) → length (flat_map (λ d. (body_of d).now ∷ []) ds) ≡ length ds
        length-now [] = refl
        length-now (d ∷ ds) = ap suc (length-now ds)
  ops-light [] [] (o ∷ os) changed are = absurd are
  ops-light [] (found ∷ founds) os changed are = absurd are
  ops-light (call ∷ calls) [] os changed are = absurd are
  ops-light (call ∷ calls) (found ∷ founds) [] changed are = absurd are

-- ---- the batch

some-op : (os : List Op) → IsTrue (is_company os) → 1 ≤ length os
some-op [] is = absurd (false≢true is)
some-op (o ∷ os) is = omega arith

sum-most : (m : ℕ) (ns : List ℕ) → AllByRecursion (λ (n : ℕ). (1 ≤ n) × (n ≤ m)) ns → sum ns ≤ length ns * m
sum-most m [] all = omega arith
sum-most m (n ∷ ns) all =
    let few = all.0.1 in
    let rest = sum-most m ns all.1 in
    let both = sum_by-cons (λ (x : ℕ). x) n ns in
    omega arith

module _ (geo : Geometry) (n f : ℕ) (log : SeenLog) (number : ℕ) (members : Members) (calls : List Numbered) (basis : Basis) (formed : Formed) (bytes : Bytes)
    (pos : 0 < geo.block) (size : log.block ≡ geo.block) (is : IsFormed n f geo.block log number members calls basis formed) (stand : Stand bytes basis.fetched formed.sealed.placed.ptrs is.blocks) where
  abbrev Ops : List Op
  Ops = formed.sealed.batch.ops

  -- a whole block for each new pointer
  blocks-most : sum (map length is.blocks) ≤ length (new_ptrs Ops) * geo.block
  blocks-most =
      let most = sum-most log.block (map length is.blocks) (each-of (λ (k : ℕ). (1 ≤ k) × (k ≤ log.block)) (map length is.blocks) is.laid.exact.lens) in
      let same = ap length is.is_batch.lens in
      let ptrs = length-map formed.sealed.placed.ptrs (λ (p : Ptr). p.len) in
      let new = ap length is.is_batch.new in
      let more = mul-le (length (map length is.blocks)) log.block (length (new_ptrs Ops)) geo.block (omega arith) (omega arith) in
      omega arith

  batch-light : bytes_of formed.sealed.batch is.blocks ≤ weights geo (updates_of calls)
  batch-light =
      let light = ops-light geo pos bytes calls basis.found Ops unchanged (is.is_batch.of_calls bytes stand) in
      let blocks = blocks-most in
      let text = length-ops_text Ops in
      let some = some-op Ops is.spelled.company in
      omega arith

pub formed-light : (geo : Geometry) (n f b : ℕ) (log : SeenLog) (number : ℕ) (members : Members) (calls : List Numbered) (basis : Basis) (formed : Formed) (bytes : Bytes) → geo.block ≡ b → 0 < b → log.block ≡ b
    → (is : IsFormed n f b log number members calls basis formed) → Stand bytes basis.fetched formed.sealed.placed.ptrs is.blocks → bytes_of formed.sealed.batch is.blocks ≤ weights geo (updates_of calls)
formed-light geo n f b log number members calls basis formed bytes same =
    subst (λ (b : ℕ). 0 < b → log.block ≡ b → (is : IsFormed n f b log number members calls basis formed) → Stand bytes basis.fetched formed.sealed.placed.ptrs is.blocks → bytes_of formed.sealed.batch is.blocks ≤ weights geo (updates_of calls)) same
    (λ pos size is stand. batch-light geo n f log number members calls basis formed bytes pos size is stand)
