-- Whole batches.
use Rattle.std.proofs.Common.{◌≡◌, ℕ, ◌≤◌, Bool, true, false, List, [], ◌∷◌, ◌++◌, length, drop, Option, Some, None, refl, sym, ap, subst, ◌∙◌, append_assoc, arith, length-append}
use Rattle.std.specs.Prelude.{codes, IsTrue, ◌&&◌, nat_le, not}
use Rattle.std.specs.List.{AllByRecursion, list_all}
use Rattle.std.specs.Option.{option_map}
use Rattle.std.proofs.lemmas.Bool.{leb-true}
use Rattle.std.proofs.lemmas.List.{drop_at}
use Rattle.std.proofs.lemmas.List.Sums.{sum_by-cons}
use Rattle.zb_numbers.specs.Fronts.{ReadsFront, IsPrefixFree}
use Rattle.zb_numbers.specs.Numbers.{number_text, IsBelow, zeros}
use Rattle.zb_numbers.proofs.Found.{found_again}
use Rattle.zb_numbers.proofs.Many.{many_once}
use Rattle.zb_batch.specs.declared.batch.Batch.{Batch}
use Rattle.zb_batch.specs.declared.batch.Op.{Op}
use Rattle.zb_batch.specs.declared.header.Header.{Header}
use Rattle.zb_batch.specs.Spelling.{deltas_of, op_text, ops_text, delta_count, meta_length, spelling_of_batch}
use Rattle.zb_batch.specs.Batches.{IsShaped, HasAllRoom, IsOp, is_alone, is_company, IsSpellable, IsBatch}
use Rattle.zb_batch.specs.Reading.{AreOps, IsHeader, header_text, header_of, Agrees}
use Rattle.zb_batch.proofs.Sizes.{length-ops_text, length-header_text, count_of_ops}
use Rattle.zb_batch.proofs.Once.{op_once, header_once}

eight : (w a b c d z f y o r : List ℕ) → (w ++ (a ++ (b ++ (c ++ (d ++ (z ++ (f ++ (y ++ o)))))))) ++ r ≡ (w ++ (a ++ (b ++ (c ++ (d ++ (z ++ (f ++ y))))))) ++ (o ++ r)
eight w a b c d z f y o r = simp append_assoc

-- the header, and then the operations
pub batch_parts : (batch : Batch) (r : List ℕ) → spelling_of_batch batch ++ r ≡ header_text (header_of batch) ++ (ops_text batch.ops ++ r)
unfolding spelling_of_batch
batch_parts batch r =
    eight (codes "ZBBT") (number_text 4 batch.log.0) (number_text 8 batch.number) (number_text 4 (meta_length batch)) (number_text 2 (length batch.ops)) (zeros 2) (number_text 4 (delta_count batch.ops)) (zeros 4) (ops_text batch.ops) r

both_hold : (a b : Bool) → IsTrue (a && b) → IsTrue a
both_hold true b h = refl
both_hold false b h = absurd cc

pub company_short : (ops : List Op) → IsTrue (is_company ops) → length ops ≤ 8
company_short [] h = omega arith
company_short (op ∷ []) h = omega arith
company_short (op ∷ next ∷ others) h =
    leb-true (length (op ∷ next ∷ others)) 8 (both_hold (nat_le (length (op ∷ next ∷ others)) 8) (list_all (λ o. not (is_alone o)) (op ∷ next ∷ others)) h)

is_header : (batch : Batch) → IsBatch batch → IsHeader (header_of batch)
is_header batch h = record {
  log = h.log;
  number = h.number;
  size = h.short;
  ops = omega (arith, company_short batch.ops h.company);
  deltas = omega (arith, count_of_ops batch.ops, length-ops_text batch.ops, h.short);
}

pub batch_once : IsPrefixFree IsBatch spelling_of_batch
batch_once a b r s h g e =
    let header = header_once (header_of a) (header_of b) (ops_text a.ops ++ r) (ops_text b.ops ++ s) (is_header a h) (is_header b g) (sym (batch_parts a r) ∙ e ∙ batch_parts b s) in
    let ops = many_once IsOp op_text op_once a.ops b.ops r s h.ops g.ops (ap (λ (x : Header). x.ops) header.0) header.1 in
    (λ i. record { log = (header.0 i).log; number = (header.0 i).number; ops = ops.0 i }, ops.1)

pub no_header : (bytes : List ℕ) → ReadsFront IsHeader header_text bytes None → ReadsFront IsBatch spelling_of_batch bytes None
no_header bytes none batch r h same = none (header_of batch) (ops_text batch.ops ++ r) (is_header batch h) (sym (batch_parts batch r) ∙ same)

-- the header of a batch that stands there is the one that was read
header_there : (header : Header) (bytes rest : List ℕ) → IsHeader header × (header_text header ++ rest ≡ bytes) → (batch : Batch) (r : List ℕ) → IsBatch batch → spelling_of_batch batch ++ r ≡ bytes
    → (header_of batch ≡ header) × (ops_text batch.ops ++ r ≡ rest)
header_there header bytes rest read batch r h same =
    header_once (header_of batch) header (ops_text batch.ops ++ r) rest (is_header batch h) read.0 (sym (batch_parts batch r) ∙ same ∙ sym read.1)

pub no_ops : (header : Header) (bytes rest : List ℕ) → IsHeader header × (header_text header ++ rest ≡ bytes) → ReadsFront (AreOps header.ops) ops_text rest None → ReadsFront IsBatch spelling_of_batch bytes None
no_ops header bytes rest read none batch r h same =
    let there = header_there header bytes rest read batch r h same in
    none batch.ops r (h.ops, ap (λ (x : Header). x.ops) there.0) there.1

agreed : (batch : Batch) → IsBatch batch → Agrees (header_of batch) batch.ops
agreed batch h = record { numbered = h.numbered; company = h.company; size = refl; deltas = refl }

pub not_agreed : (header : Header) (ops : List Op) (bytes rest behind : List ℕ) → IsHeader header × (header_text header ++ rest ≡ bytes) → AreOps header.ops ops × (ops_text ops ++ behind ≡ rest)
    → (Agrees header ops → ⊥) → ReadsFront IsBatch spelling_of_batch bytes None
not_agreed header ops bytes rest behind read found differ batch r h same =
    let there = header_there header bytes rest read batch r h same in
    let all = many_once IsOp op_text op_once batch.ops ops r behind h.ops found.0.0 (ap (λ (x : Header). x.ops) there.0 ∙ sym found.0.1) (there.1 ∙ sym found.1) in
    differ (subst (λ (p : Header × List Op). Agrees p.0 p.1) (λ i. (there.0 i, all.0 i)) (agreed batch h))

pub batch_found : (header : Header) (ops : List Op) (bytes rest behind : List ℕ) → IsHeader header × (header_text header ++ rest ≡ bytes) → AreOps header.ops ops × (ops_text ops ++ behind ≡ rest) → Agrees header ops
    → IsBatch (record { log = header.log; number = header.number; ops = ops }) × (spelling_of_batch (record { log = header.log; number = header.number; ops = ops }) ++ behind ≡ bytes)
batch_found header ops bytes rest behind read found agrees =
    let batch : Batch = record { log = header.log; number = header.number; ops = ops } in
    let same : header_of batch ≡ header = λ i. record { log = header.log; number = header.number; size = agrees.size i; ops = found.0.1 i; deltas = agrees.deltas i } in (
      record { log = read.0.log; number = read.0.number; numbered = agrees.numbered; ops = found.0.0; company = agrees.company; short = rw agrees.size read.0.size },
      batch_parts batch behind ∙ ap (λ (x : Header). header_text x ++ (ops_text ops ++ behind)) same ∙ ap (λ (t : List ℕ). header_text header ++ t) found.1 ∙ read.1,
    )

-- the spelling of a batch is its meta part
pub length-spelling_of_batch : (batch : Batch) → length (spelling_of_batch batch) ≡ meta_length batch
length-spelling_of_batch batch =
    omega (arith, ap length (batch_parts batch []), length-append (spelling_of_batch batch) [], length-append (header_text (header_of batch)) (ops_text batch.ops ++ []), length-append (ops_text batch.ops) [], length-header_text (header_of batch))

-- what is left stands behind the meta part
pub left_behind : (batch : Batch) (bytes rest : List ℕ) → IsBatch batch × (spelling_of_batch batch ++ rest ≡ bytes) → IsBatch batch × (spelling_of_batch batch ++ drop (meta_length batch) bytes ≡ bytes)
left_behind batch bytes rest h =
    let behind : drop (meta_length batch) bytes ≡ rest = ap (drop (meta_length batch)) (sym h.1) ∙ drop_at (spelling_of_batch batch) rest (meta_length batch) (length-spelling_of_batch batch) in
    (h.0, ap (λ (t : List ℕ). spelling_of_batch batch ++ t) behind ∙ h.1)

pub read_again : (bytes : List ℕ) (found : Option (Batch × List ℕ)) → ReadsFront IsBatch spelling_of_batch bytes found → (batch : Batch) (rest : List ℕ) → IsBatch batch → spelling_of_batch batch ++ rest ≡ bytes → found ≡ Some (batch, rest)
read_again bytes found reads batch rest h e = found_again IsBatch spelling_of_batch batch_once batch rest bytes found h e reads

-- the same without what is left
pub without_rest : (a b : Option (Batch × List ℕ)) → a ≡ b → option_map (λ (found : Batch × List ℕ). found.0) a ≡ option_map (λ (found : Batch × List ℕ). found.0) b
without_rest a b e = ap (option_map (λ (found : Batch × List ℕ). found.0)) e

abbrev Found : Header → List ℕ → List ℕ → List Op → Type 0
Found header rest behind ops = AreOps header.ops ops × (ops_text ops ++ behind ≡ rest)

-- the same of a list that was lent
pub refused : (header : Header) (ops lent : List Op) (bytes rest behind : List ℕ) (agrees : Bool) → IsHeader header × (header_text header ++ rest ≡ bytes) → AreOps header.ops ops × (ops_text ops ++ behind ≡ rest)
    → lent ≡ ops → (Agrees header lent → IsTrue agrees) → agrees ≡ false → ReadsFront IsBatch spelling_of_batch bytes None
refused header ops lent bytes rest behind agrees read found same told seen =
    not_agreed header lent bytes rest behind read (subst (Found header rest behind) (sym same) found) (λ h. let held = told h in absurd cc)

pub accepted : (header : Header) (ops lent made : List Op) (bytes rest behind : List ℕ) (agrees : Bool) → IsHeader header × (header_text header ++ rest ≡ bytes) → AreOps header.ops ops × (ops_text ops ++ behind ≡ rest)
    → lent ≡ ops → made ≡ ops → (IsTrue agrees → Agrees header lent) → agrees ≡ true
    → IsBatch (record { log = header.log; number = header.number; ops = made }) × (spelling_of_batch (record { log = header.log; number = header.number; ops = made }) ++ behind ≡ bytes)
accepted header ops lent made bytes rest behind agrees read found same is told seen =
    batch_found header made bytes rest behind read (subst (Found header rest behind) (sym is) found) (subst (Agrees header) (same ∙ sym is) (told seen))

shapes : (ops : List Op) → AllByRecursion IsOp ops → AllByRecursion IsShaped ops
shapes [] h = tt
shapes (op ∷ ops) h = (h.0.shaped, shapes ops h.1)

-- what was read can be spelled
pub spellable : (batch : Batch) → IsBatch batch → IsSpellable batch
spellable batch h = record { shaped = shapes batch.ops h.ops; company = h.company; short = h.short }

-- ---- what was written can be read

are_ops : (ops : List Op) → AllByRecursion IsShaped ops → AllByRecursion HasAllRoom ops → IsBelow 4 (delta_count ops) → AllByRecursion IsOp ops
are_ops [] shaped room few = tt
are_ops (op ∷ ops) shaped room few =
    let sum = sum_by-cons (λ (o : Op). length (deltas_of o)) op ops in
    (record { shaped = shaped.0; room = room.0.own; count = omega (arith, few); deltas = room.0.deltas }, are_ops ops shaped.1 room.1 (omega (arith, few)))

pub is_batch : (batch : Batch) → IsSpellable batch → IsHeader (header_of batch) → AllByRecursion HasAllRoom batch.ops → 1 ≤ batch.number → IsBatch batch
is_batch batch s h room numbered = record {
  log = h.log;
  number = h.number;
  numbered = numbered;
  ops = are_ops batch.ops s.shaped room h.deltas;
  company = s.company;
  short = s.short;
}
