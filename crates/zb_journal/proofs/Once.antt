-- An image says one journal.
use Rattle.std.proofs.Common.{◌≡◌, ℕ, ◌+◌, ◌<◌, ◌^◌, List, [], ◌∷◌, ◌++◌, length, refl, sym, ◌∙◌, ap, subst, arith, length-append}
use Rattle.std.proofs.lemmas.List.{get_or_append_left}
use Rattle.std.specs.List.{flat_map}
use Rattle.zb_numbers.proofs.Digits.{length-number_text}
use Rattle.zb_numbers.proofs.Many.{many_once}
use Rattle.zb_cell.specs.Cell.{window}
use Rattle.zb_cell.proofs.Values.{window_is}
use Rattle.zb_entries.specs.declared.entry.Entry.{Entry}
use Rattle.zb_journal.specs.declared.fields.Fields.{Fields}
use Rattle.zb_journal.specs.Spelling.{IsPiece, pieces_of, size_of, fields_of, fields_text, piece_text, entry_text}
use Rattle.zb_journal.specs.Journal.{journal_of, Stands, Begins, EntryStands, EntriesStand}
use Rattle.zb_journal.specs.Laws.{SaysOne, BadOnce, SaysNoBad, CutSays}
use Rattle.zb_journal.proofs.Texts.{length-fields, length-entry, counted, same_number, piece_once, fields_once, entry_once}
use Rattle.zb_journal.proofs.Standing.{entry_begins}

-- bytes that stand are those of the range
range_is : (f : ℕ → ℕ) (at : ℕ) (text more : List ℕ) (n : ℕ) → Stands f at text → n ≡ length text → window f at n ≡ text
range_is f at text more n stands long = window_is f text at n long (λ i lt. stands i (omega arith))

-- a front of what stands
front_stands : (f : ℕ → ℕ) (at : ℕ) (front more : List ℕ) → Stands f at (front ++ more) → Stands f at front
front_stands f at front more stands i lt = stands i (omega (arith, lt, length-append front more)) ∙ get_or_append_left front more 0 i lt

-- two entries at one place with one number have the same numbers, and are as long
same_fields : (f : ℕ → ℕ) (at n : ℕ) (a b : Entry) → EntryStands f at n a → EntryStands f at n b → fields_of a ≡ fields_of b
same_fields f at n a b h k =
    let one : window f at 32 ≡ 1 ∷ fields_text (fields_of a) n = range_is f at (1 ∷ fields_text (fields_of a) n) [] 32 (front_stands f at (1 ∷ fields_text (fields_of a) n) (flat_map piece_text (pieces_of a)) h.bytes) (omega (arith, length-fields (fields_of a) n)) in
    let two : window f at 32 ≡ 1 ∷ fields_text (fields_of b) n = range_is f at (1 ∷ fields_text (fields_of b) n) [] 32 (front_stands f at (1 ∷ fields_text (fields_of b) n) (flat_map piece_text (pieces_of b)) k.bytes) (omega (arith, length-fields (fields_of b) n)) in
    (fields_once (fields_of a) (fields_of b) n [] [] h.is.fields k.is.fields (ap (λ (l : List ℕ). l ++ []) (behind (sym one ∙ two)))).0
  where
    behind : {x y : ℕ} {r s : List ℕ} → x ∷ r ≡ y ∷ s → r ≡ s
    behind e = cc

pub same_entry : (f : ℕ → ℕ) (at n : ℕ) (a b : Entry) → EntryStands f at n a → EntryStands f at n b → a ≡ b
same_entry f at n a b h k =
    let fields = same_fields f at n a b h k in
    let many : length (pieces_of a) ≡ length (pieces_of b) = sym (counted a) ∙ ap (λ (x : Fields). x.count) fields ∙ counted b in
    let size : size_of a ≡ size_of b = omega (arith, many) in
    let one : window f at (size_of a) ≡ entry_text n a = range_is f at (entry_text n a) [] (size_of a) h.bytes (sym (length-entry n a)) in
    let two : window f at (size_of a) ≡ entry_text n b = range_is f at (entry_text n b) [] (size_of a) k.bytes (size ∙ sym (length-entry n b)) in
    entry_once a b fields (many_once IsPiece piece_text piece_once (pieces_of a) (pieces_of b) [] [] h.is.pieces k.is.pieces many
    (ap (λ (l : List ℕ). l ++ []) (fields_once (fields_of a) (fields_of b) n (flat_map piece_text (pieces_of a)) (flat_map piece_text (pieces_of b)) h.is.fields k.is.fields (behind (sym one ∙ two))).1)).0
  where
    behind : {x y : ℕ} {r s : List ℕ} → x ∷ r ≡ y ∷ s → r ≡ s
    behind e = cc

-- entries up to a place where none stands are one list
pub one_list : (f : ℕ → ℕ) (at n : ℕ) (es ds : List Entry) (end stop : ℕ) → EntriesStand f at n es end → EntriesStand f at n ds stop
    → ((e : Entry) → EntryStands f end (n + length es) e → ⊥) → ((e : Entry) → EntryStands f stop (n + length ds) e → ⊥) → (es ≡ ds) × (end ≡ stop)
one_list f at n [] [] end stop h k gone none = (refl, sym h ∙ k)
one_list f at n [] (d ∷ ds) end stop h k gone none = absurd (gone d (subst (λ (m : ℕ). EntryStands f end m d) (omega arith) (subst (λ (m : ℕ). EntryStands f m n d) h k.0)))
one_list f at n (e ∷ es) [] end stop h k gone none = absurd (none e (subst (λ (m : ℕ). EntryStands f stop m e) (omega arith) (subst (λ (m : ℕ). EntryStands f m n e) k h.0)))
one_list f at n (e ∷ es) (d ∷ ds) end stop h k gone none =
    let same = same_entry f at n e d h.0 k.0 in
    let others = one_list f (at + size_of e) (n + 1) es ds end stop h.1 (subst (λ (x : Entry). EntriesStand f (at + size_of x) (n + 1) ds stop) (sym same) k.1)
    (λ x s. gone x (subst (λ (m : ℕ). EntryStands f end m x) (omega arith) s)) (λ x s. none x (subst (λ (m : ℕ). EntryStands f stop m x) (omega arith) s)) in
    (λ i. same i ∷ others.0 i, others.1)

pub says_one : SaysOne
says_one image first es ds end stop h k =
    let f : ℕ → ℕ = journal_of image in
    one_list f 0 first es ds end stop h.stand k.stand (λ e s. h.ends (entry_begins f end (first + length es) e s)) (λ e s. k.ends (entry_begins f stop (first + length ds) e s))

pub bad_once : BadOnce
bad_once image first place other h k = (one_list (journal_of image) 0 first h.entries k.entries place other h.stand k.stand h.none k.none).1

pub says_no_bad : SaysNoBad
says_no_bad image first es end place h bad =
    let f : ℕ → ℕ = journal_of image in
    let same = one_list f 0 first es bad.entries end place h.stand bad.stand (λ e s. h.ends (entry_begins f end (first + length es) e s)) bad.none in
    h.ends (subst (λ (m : ℕ). Begins f m (first + length es)) (sym same.1) (subst (λ (l : List Entry). Begins f place (first + length l)) (sym same.0) bad.begins))

-- something with a later number stands where an entry does
later : (f : ℕ → ℕ) (first m : ℕ) (e : Entry) → first < m → m < 2 ^ 64 → EntryStands f 0 first e → Begins f 0 m → ⊥
later f first m e less below stands b =
    let c = entry_begins f 0 first e stands in
    let same = same_number m first below (omega (arith, less, below)) (λ i lt. sym (b.is_next i (omega (arith, lt, length-number_text 8 m))) ∙ c.is_next i (omega (arith, lt, length-number_text 8 first))) in
    omega (arith, same, less)

pub cut_says : CutSays
cut_says image first [] end below says = record {
  stand = refl;
  ends = λ b. says.ends (subst (λ (k : ℕ). Begins (journal_of image) k (first + 0)) says.stand (subst (λ (k : ℕ). Begins (journal_of image) 0 k) (omega arith) b));
}
cut_says image first (e ∷ es) end below says = record {
  stand = refl;
  ends = λ b. later (journal_of image) first (first + length (e ∷ es)) e (omega arith) (omega (arith, below)) says.stand.0 (subst (λ (k : ℕ). Begins (journal_of image) 0 k) (omega arith) b);
}
