-- Where bytes begin with no part of a batch.
use Rattle.std.proofs.Common.{◌≡◌, ℕ, ◌<◌, List, ◌++◌, length, take, drop, Bool, true, false, Option, Some, None, sym, ap, ◌∙◌, append_assoc, arith, length-append}
use Rattle.std.specs.Prelude.{IsTrue, IsSome}
use Rattle.std.specs.List.{flat_map, AllByRecursion}
use Rattle.std.proofs.lemmas.List.{take_at, length-replicate}
use Rattle.zb_types.specs.declared.calls.Call.TheVariants.{Create, Mkdir, Remove, Rename}
use Rattle.zb_types.specs.Paths.{is_path}
use Rattle.zb_numbers.specs.Fronts.{ReadsFront}
use Rattle.zb_numbers.specs.Numbers.{number_text, IsBelow, zeros}
use Rattle.zb_numbers.proofs.Digits.{number_once, number_rest}
use Rattle.zb_numbers.proofs.Many.{none_more}
use Rattle.zb_delta.specs.declared.delta.Delta.{Delta}
use Rattle.zb_delta.specs.Spelling.{spelling_of_delta}
use Rattle.zb_batch.specs.declared.batch.Op.{Op}
use Rattle.zb_batch.specs.declared.header.Header.{Header}
use Rattle.zb_batch.specs.declared.owners.Owner.{Owner}
use Rattle.zb_batch.specs.Spelling.{path_text, paths_text, deltas_text, op_text, ops_text}
use Rattle.zb_batch.specs.Batches.{IsOp}
use Rattle.zb_batch.specs.Reading.{IsPath, IsDeltaOf, AreDeltasOf, AreDeltas, IsNameOf, AreOps, IsHeader, numbers_text, header_text}
use Rattle.zb_batch.proofs.Sizes.{length-deltas_text, length-header_text}
use Rattle.zb_batch.proofs.Once.{path_short, path_once, owned_once, op_once, seven}

-- Paths.

-- the path that stands there has as many bytes as its length says
path_there : (bytes rest : List ℕ) (n : ℕ) → n < 65536 → number_text 2 n ++ rest ≡ bytes → (path r : List ℕ) → IsPath path → path_text path ++ r ≡ bytes → (length path ≡ n) × (path ++ r ≡ rest)
path_there bytes rest n room e path r h same =
    number_once 2 (length path) n (path ++ r) rest (path_short path h) room (sym (append_assoc (number_text 2 (length path)) path r) ∙ same ∙ sym e)

pub path_cut_off : (bytes rest : List ℕ) (n : ℕ) → n < 65536 → number_text 2 n ++ rest ≡ bytes → length rest < n → ReadsFront IsPath path_text bytes None
path_cut_off bytes rest n room e less path r h same =
    let there = path_there bytes rest n room e path r h same in
    omega (arith, there.0, length-append path r, ap length there.1)

pub no_path : (bytes rest : List ℕ) (n : ℕ) → n < 65536 → number_text 2 n ++ rest ≡ bytes → (IsTrue (is_path (take n rest)) → ⊥) → ReadsFront IsPath path_text bytes None
no_path bytes rest n room e none path r h same =
    let there = path_there bytes rest n room e path r h same in
    none (rw (← there.1, take_at path r n there.0) h)

-- Deltas.

pub no_more_deltas : (owner : Owner) (count : ℕ) (found : List Delta) (rest bytes : List ℕ) → AllByRecursion (IsDeltaOf owner) found → length found < count
    → flat_map spelling_of_delta found ++ rest ≡ bytes → ReadsFront (IsDeltaOf owner) spelling_of_delta rest None → ReadsFront (AreDeltasOf owner count) (flat_map spelling_of_delta) bytes None
no_more_deltas owner count found rest bytes each less whole none deltas r h same =
    none_more (IsDeltaOf owner) spelling_of_delta (owned_once owner) found deltas rest r each h.0 (omega arith) (same ∙ sym whole) none

-- Operations.

pub no_more_ops : (count : ℕ) (found : List Op) (rest bytes : List ℕ) → AllByRecursion IsOp found → length found < count
    → ops_text found ++ rest ≡ bytes → ReadsFront IsOp op_text rest None → ReadsFront (AreOps count) ops_text bytes None
no_more_ops count found rest bytes each less whole none ops r h same =
    none_more IsOp op_text op_once found ops rest r each h.0 (omega arith) (same ∙ sym whole) none

-- The header.

pub header_too_short : (bytes : List ℕ) → length bytes < 32 → ReadsFront IsHeader header_text bytes None
header_too_short bytes less header r h same = omega (arith, length-header_text header, length-append (header_text header) r, ap length same)

-- the zeros behind the count of operations, and those behind the count of deltas
counts_there : (log number size ops : ℕ) (bytes a b c d : List ℕ) → number_text 4 log ++ a ≡ bytes → number_text 8 number ++ b ≡ a → number_text 4 size ++ c ≡ b → number_text 2 ops ++ d ≡ c
    → (header : Header) (r : List ℕ) → numbers_text header ++ r ≡ bytes → d ≡ zeros 2 ++ (number_text 4 header.deltas ++ (zeros 4 ++ r))
counts_there log number size ops bytes a b c d e f g h header r same =
    let parts = seven (number_text 4 header.log.0) (number_text 8 header.number) (number_text 4 header.size) (number_text 2 header.ops) (zeros 2) (number_text 4 header.deltas) (zeros 4) r in
    let one = number_rest 4 header.log.0 log _ a (sym parts ∙ same ∙ sym e) in
    let two = number_rest 8 header.number number _ b (one ∙ sym f) in
    let three = number_rest 4 header.size size _ c (two ∙ sym g) in
    sym (number_rest 2 header.ops ops _ d (three ∙ sym h))

-- bytes that are zeros were looked at
zeros_seen : (n : ℕ) (z : List ℕ) (seen : Bool) → z ≡ zeros n → (z ≡ zeros (length z) → IsTrue seen) → seen ≡ false → ⊥
zeros_seen n z seen is look e =
    let size : length z ≡ n = ap length is ∙ length-replicate n 0 in
    let told : seen ≡ true = look (is ∙ ap zeros (sym size)) in
    absurd cc

pub no_first_zeros : (log number size ops : ℕ) (bytes a b c d z : List ℕ) (seen : Bool) → number_text 4 log ++ a ≡ bytes → number_text 8 number ++ b ≡ a → number_text 4 size ++ c ≡ b → number_text 2 ops ++ d ≡ c
    → z ≡ take 2 d → (z ≡ zeros (length z) → IsTrue seen) → seen ≡ false → ReadsFront IsHeader numbers_text bytes None
no_first_zeros log number size ops bytes a b c d z seen e f g h front look false_seen header r room same =
    let there = counts_there log number size ops bytes a b c d e f g h header r same in
    zeros_seen 2 z seen (front ∙ ap (take 2) there) look false_seen

pub no_last_zeros : (log number size ops deltas : ℕ) (bytes a b c d f' t z : List ℕ) (seen : Bool) → number_text 4 log ++ a ≡ bytes → number_text 8 number ++ b ≡ a → number_text 4 size ++ c ≡ b → number_text 2 ops ++ d ≡ c
    → f' ≡ drop 2 d → number_text 4 deltas ++ t ≡ f' → z ≡ take 4 t → (z ≡ zeros (length z) → IsTrue seen) → seen ≡ false → ReadsFront IsHeader numbers_text bytes None
no_last_zeros log number size ops deltas bytes a b c d f' t z seen e f g h back i front look false_seen header r room same =
    let there = counts_there log number size ops bytes a b c d e f g h header r same in
    let behind : t ≡ zeros 4 ++ r = number_rest 4 deltas header.deltas t (zeros 4 ++ r) (i ∙ back ∙ ap (drop 2) there) in
    zeros_seen 4 z seen (front ∙ ap (take 4) behind) look false_seen

-- a path that was parsed to none is none
pub parsed_none : (bytes rest text : List ℕ) (n : ℕ) (found : Option (List ℕ)) → n < 65536 → number_text 2 n ++ rest ≡ bytes → text ≡ take n rest → found ≡ None → (IsTrue (is_path text) → IsSome found) → ReadsFront IsPath path_text bytes None
parsed_none bytes rest text n (Some path) room e front none exact = absurd cc
parsed_none bytes rest text n None room e front none exact = no_path bytes rest n room e (λ h. let some = exact (rw front h) in absurd cc)

pub no_second_path : (bytes from rest : List ℕ) → IsPath from → path_text from ++ rest ≡ bytes → ReadsFront IsPath path_text rest None → ReadsFront (IsNameOf 4) paths_text bytes None
no_second_path bytes from rest h e none (Rename v w) r g same =
    let first = path_once v from (path_text w ++ r) rest g.0.0 h (sym (append_assoc (path_text v) (path_text w) r) ∙ same ∙ sym e) in
    none w r g.0.1 first.1
no_second_path bytes from rest h e none (Create p) r g same = absurd (omega arith)
no_second_path bytes from rest h e none (Mkdir p) r g same = absurd (omega arith)
no_second_path bytes from rest h e none (Remove p) r g same = absurd (omega arith)
no_second_path bytes from rest h e none what r g same = absurd g.0

-- Deltas of an operation.

pub deltas_too_short : (owner : Owner) (bytes : List ℕ) → length bytes < 4 → ReadsFront (AreDeltas owner) deltas_text bytes None
deltas_too_short owner bytes less deltas r h same = omega (arith, length-deltas_text deltas, length-append (deltas_text deltas) r, ap length same)

pub counted_found : (owner : Owner) (count : ℕ) (bytes rest : List ℕ) → IsBelow 4 count → number_text 4 count ++ rest ≡ bytes → (found : Option (List Delta × List ℕ))
    → ReadsFront (AreDeltasOf owner count) (flat_map spelling_of_delta) rest found → ReadsFront (AreDeltas owner) deltas_text bytes found
counted_found owner count bytes rest room e (Some found) h =
    let size = h.0.1 in
    ((h.0.0, rw size room), append_assoc (number_text 4 (length found.0)) (flat_map spelling_of_delta found.0) found.1 ∙ ap (λ (t : List ℕ). number_text 4 (length found.0) ++ t) h.1 ∙ ap (λ n. number_text 4 n ++ rest) size ∙ e)
counted_found owner count bytes rest room e None none =
    λ deltas r h same.
    let there = number_once 4 (length deltas) count (flat_map spelling_of_delta deltas ++ r) rest h.1 room (sym (append_assoc (number_text 4 (length deltas)) (flat_map spelling_of_delta deltas) r) ∙ same ∙ sym e) in
    none deltas r (h.0, there.0) there.1
