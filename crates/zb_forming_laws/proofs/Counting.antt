-- A formed batch of short calls takes few pieces.
use Rattle.std.proofs.Common.{◌≡◌, ◌⊎◌, ℕ, zero, suc, ◌+◌, ◌-◌, ◌*◌, ◌/◌, ◌<◌, ◌≤◌, Bool, true, false, List, [], ◌∷◌, length, length-append, Option, Some, None, refl, sym, ap, inl, inr, arith}
use Rattle.std.specs.Prelude.{◌&&◌, ◌==◌, nat_le, IsTrue}
use Rattle.std.specs.Bool.{MatchBool}
use Rattle.std.specs.List.{AllByRecursion, AllZip, flat_map, range_with_len, sum, sum_by}
use Rattle.std.proofs.lemmas.Bool.{cases_lt, cond_both, false≢true, leb-true}
use Rattle.std.proofs.lemmas.List.Sums.{sum_by-cons}
use Rattle.std.proofs.lemmas.Nat.{div-add-mod', mod_below, div_below, mul-le}
use Rattle.zb_types.specs.declared.ids.Fid.{Fid}
use Rattle.zb_types.specs.declared.ids.Ptr.{Ptr}
use Rattle.zb_types.specs.declared.calls.Call.{Call}
use Rattle.zb_types.specs.declared.calls.Call.TheVariants.{Create, Mkdir, Remove, Rename, Write, Truncate, Sync, Read, List as ListOf, Stat, Find}
use Rattle.zb_types.specs.declared.tables.Found.{Found}
use Rattle.zb_types.specs.Paths.{is_path, are_names}
use Rattle.zb_delta.specs.declared.delta.Delta.{Delta}
use Rattle.zb_delta.specs.Spelling.{body_of}
use Rattle.zb_batch.specs.declared.batch.Op.{Op}
use Rattle.zb_batch.specs.declared.batch.Op.TheVariants as op
use Rattle.zb_batch.specs.Batches.{IsNameCall}
use Rattle.zb_batch.specs.Reading.{op_length}
use Rattle.zb_batch.specs.Spelling.{deltas_of}
use Rattle.zb_basis.specs.declared.asks.Ask.{Ask}
use Rattle.zb_basis.specs.declared.calls.Numbered.{Numbered}
use Rattle.zb_basis.specs.Looking.{ask_of, ask_range, ask_to}
use Rattle.zb_basis.specs.Runs.{company, is_alone}
use Rattle.zb_basis.specs.Operations.{Bytes, Changed, CutDeltas, IsDelta, WriteDeltas, after_op, is_done, is_longer, new_ptrs, OpIs as OpMeans, OpsAre as OpsMean}
use Rattle.zb_forming_laws.specs.Resting.{AreShort, IsShort}

-- an operation has few deltas and takes few bytes
pub record IsFew (o : Op) : Type 0 where
  pub deltas : length (deltas_of o) ≤ 66
  pub bytes : op_length o ≤ 3900

-- ---- one call

zip-length : {A : Type 0} (R : ℕ → A → Type 0) (a n : ℕ) (xs : List A) → AllZip R (range_with_len a n) xs → length xs ≡ n
zip-length R a zero [] zip = refl
zip-length R a zero (x ∷ xs) zip = absurd zip
zip-length R a (suc n) [] zip = absurd zip
zip-length R a (suc n) (x ∷ xs) zip = ap suc (zip-length R (a + 1) n xs zip.1)

range-few : (b : ℕ) (fid : Fid) (from n : ℕ) → 64 ≤ b → n ≤ 4096 → (ask_range b fid from (from + n)).count ≤ 66
range-few b fid from n low few =
    cond_both (nat_le (from + n) from) (record { fid = fid; first = 0; count = 0 }) (record { fid = fid; first = from / b; count = (from + n - 1) / b - from / b + 1 }) (λ (ask : Ask). ask.count ≤ 66)
    (λ _. omega arith)
    (λ _.
    let whole = div-add-mod' from b in
    let rest = mod_below from b (omega arith) in
    let below = div_below (from + n - 1) b (from / b + 65) (omega arith) (omega arith) in
    omega arith)

write-count : (b : ℕ) (fid : Fid) (offset : ℕ) (text : List ℕ) → 64 ≤ b → length text ≤ 4096 → (ask_of b (Write fid offset text)).count ≤ 66
write-count b fid offset text low few =
    cond_both (nat_le (offset + length text) 67108864) (Some (offset + length text)) None (λ (o : Option ℕ). (ask_to b fid offset o).count ≤ 66) (λ _. range-few b fid offset (length text) low few)
    (λ _. range-few b fid 0 0 low (omega arith))

module _ (b : ℕ) (low : 64 ≤ b) (bytes : Bytes) where
  write-few : (done : Bool) (changed : Changed) (found : Found) (fid : Fid) (version offset : ℕ) (text : List ℕ) (deltas : List Delta) → length text ≤ 4096
      → MatchBool done (WriteDeltas b bytes changed found fid version offset text deltas) (deltas ≡ []) → length deltas ≤ 66
  write-few true changed found fid version offset text deltas few are =
      let count = write-count b fid offset text low few in
      let same = zip-length _ (ask_of b (Write fid offset text)).first (ask_of b (Write fid offset text)).count deltas are in
      omega arith
  write-few false changed found fid version offset text deltas few none = let n = ap length none in omega arith

  cut-few : (longer : Bool) (fid : Fid) (version n : ℕ) (was : Option Ptr) (new : List ℕ) (deltas : List Delta)
      → MatchBool longer ((delta : Delta) × (deltas ≡ delta ∷ []) × IsDelta bytes fid version (n / b) was new delta) (deltas ≡ []) → length deltas ≤ 66
  cut-few true fid version n was new deltas one = let m = ap length one.1 in omega arith
  cut-few false fid version n was new deltas none = let m = ap length none in omega arith

  cut-done : (done : Bool) (fid : Fid) (version n : ℕ) (was : Option Ptr) (deltas : List Delta) → MatchBool done (CutDeltas b bytes fid version n was deltas) (deltas ≡ []) → length deltas ≤ 66
  cut-done true fid version n was deltas are = cut-few (is_longer b n was) fid version n was _ deltas are
  cut-done false fid version n was deltas none = let m = ap length none in omega arith

  op-few : (changed : Changed) (number : ℕ) (call : Call) (found : Found) (o : Op) → OpMeans b bytes changed number call found o → is_alone call ≡ false → IsShort call → IsFew o
  op-few changed number (Write fid offset text) found (op.Write m g version at len deltas) is alone short =
      let few = write-few (is_done version (offset + length text)) changed found fid version offset text deltas short is.5 in record { deltas = few; bytes = omega arith }
  op-few changed number (Write fid offset text) found (op.Name m what) is alone short = absurd (false≢true is.2)
  op-few changed number (Write fid offset text) found o is alone short = absurd is
  op-few changed number (Truncate fid n) found (op.Cut m g version size deltas) is alone short =
      let few = cut-done (is_done version n) fid version n _ deltas is.4 in record { deltas = few; bytes = omega arith }
  op-few changed number (Truncate fid n) found (op.Name m what) is alone short = absurd (false≢true is.2)
  op-few changed number (Truncate fid n) found o is alone short = absurd is
  op-few changed number Sync found (op.Sync m) is alone short = record { deltas = omega arith; bytes = omega arith }
  op-few changed number Sync found (op.Name m what) is alone short = absurd (false≢true is.2)
  op-few changed number Sync found o is alone short = absurd is
  op-few changed number (Create path) found o is alone short = absurd (false≢true (sym alone))
  op-few changed number (Mkdir path) found o is alone short = absurd (false≢true (sym alone))
  op-few changed number (Remove path) found o is alone short = absurd (false≢true (sym alone))
  op-few changed number (Rename path to) found o is alone short = absurd (false≢true (sym alone))
  op-few changed number (Read fid offset len) found o is alone short = absurd (false≢true (sym alone))
  op-few changed number (ListOf path) found o is alone short = absurd (false≢true (sym alone))
  op-few changed number (Stat path) found o is alone short = absurd (false≢true (sym alone))
  op-few changed number (Find path) found o is alone short = absurd (false≢true (sym alone))

  pub ops-few : (calls : List Numbered) (founds : List Found) (os : List Op) (changed : Changed) → OpsMean b bytes changed calls founds os → AllByRecursion (λ (k : Numbered). is_alone k.call ≡ false) calls → AreShort calls → AllByRecursion IsFew os
  ops-few [] [] [] changed are company short = tt
  ops-few (call ∷ calls) (found ∷ founds) (o ∷ os) changed are company short =
      (op-few changed call.number call.call found o are.0 company.0 short.0, ops-few calls founds os (after_op b changed o) are.1 company.1 short.1)
  ops-few [] [] (o ∷ os) changed are company short = absurd are
  ops-few [] (found ∷ founds) os changed are company short = absurd are
  ops-few (call ∷ calls) [] os changed are company short = absurd are
  ops-few (call ∷ calls) (found ∷ founds) [] changed are company short = absurd are

-- ---- a call that changes names

and-last : (a c : Bool) → (a && c) ≡ true → c ≡ true
and-last true c e = e
and-last false c e = absurd (false≢true e)

path-short : (path : List ℕ) → IsTrue (is_path path) → length path ≤ 1024
path-short [] is = omega arith
path-short (x ∷ rest) is = omega (arith, leb-true (length rest) 1023 (and-last (x == 47 && are_names [] rest) (nat_le (length rest) 1023) is))

pub name-few : (m : ℕ) (what : Call) → IsNameCall what → IsFew (op.Name m what)
name-few m (Create path) is = record { deltas = omega arith; bytes = let l = path-short path is in omega arith }
name-few m (Mkdir path) is = record { deltas = omega arith; bytes = let l = path-short path is in omega arith }
name-few m (Remove path) is = record { deltas = omega arith; bytes = let l = path-short path is in omega arith }
name-few m (Rename path to) is = record { deltas = omega arith; bytes = let l = path-short path is.0 in let k = path-short to is.1 in omega arith }
name-few m (Write fid offset bytes) is = absurd is
name-few m (Truncate fid size) is = absurd is
name-few m Sync is = absurd is
name-few m (Read fid offset len) is = absurd is
name-few m (ListOf path) is = absurd is
name-few m (Stat path) is = absurd is
name-few m (Find path) is = absurd is

-- ---- all operations of a batch

pub each-few : (os : List Op) → AllByRecursion IsFew os → length (new_ptrs os) ≤ 66 * length os
each-few [] all = omega arith
each-few (o ∷ os) all =
    let few = all.0.deltas in
    let rest = each-few os all.1 in
    let both = length-append (flat_map (λ d. (body_of d).now ∷ []) (deltas_of o)) (new_ptrs os) in
    let here = length-now (deltas_of o) in
    omega arith where
      length-now : (ds : List Delta) → length (flat_map (λ d. (body_of d).now ∷ []) ds) ≡ length ds
      length-now [] = refl
      length-now (d ∷ ds) = ap suc (length-now ds)

pub each-short : (os : List Op) → AllByRecursion IsFew os → sum_by op_length os ≤ 3900 * length os
each-short [] all = omega arith
each-short (o ∷ os) all =
    let few = all.0.bytes in
    let rest = each-short os all.1 in
    let both = sum_by-cons op_length o os in
    omega arith

pub sum-most : (m : ℕ) (ns : List ℕ) → AllByRecursion (λ (n : ℕ). (1 ≤ n) × (n ≤ m)) ns → sum ns ≤ length ns * m
sum-most m [] all = omega arith
sum-most m (n ∷ ns) all =
    let few = all.0.1 in
    let rest = sum-most m ns all.1 in
    let both = sum_by-cons (λ (x : ℕ). x) n ns in
    omega arith

pub company-few : (most : ℕ) (kept : List Numbered) → length (company most kept) ≤ most
company-few zero [] = omega arith
company-few (suc most) [] = omega arith
company-few zero (call ∷ calls) = omega arith
company-few (suc most) (call ∷ calls) =
    cond_both (is_alone call.call) [] (call ∷ company most calls) (λ (cs : List Numbered). length cs ≤ suc most) (λ _. omega arith) (λ _. omega (arith, company-few most calls))

-- so many bytes lie in few stripes, where each stripe that is left takes at least a block
pub few-stripes : (b room stripes meta blocks count : ℕ) → 64 ≤ b → 2 * b ≤ room → count ≤ 8 → meta ≤ 32 + 3900 * count → blocks ≤ 66 * count * b → (stripes - 1) * (room - b) ≤ meta + blocks → stripes + 1 ≤ 4093
few-stripes b room stripes meta blocks count low wide few short most lie =
    by (cases_lt 1100 (stripes - 1)) where
      by : ◌⊎◌ (1100 < stripes - 1) (stripes - 1 ≤ 1100) → stripes + 1 ≤ 4093
      by (inr le) = omega arith
      by (inl over) =
          let least = mul-le 1101 b (stripes - 1) (room - b) (omega arith) (omega arith) in
          let all = mul-le (66 * count) b 528 b (omega arith) (omega arith) in
          absurd (omega arith)
