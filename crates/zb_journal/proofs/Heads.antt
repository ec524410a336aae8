-- What is found where an entry is read.
use Rattle.std.proofs.lemmas.Bool.Decides.{nat_tests}
use Rattle.std.proofs.Common.{◌≡◌, ◌==◌, true, ℕ, zero, suc, ◌+◌, ◌*◌, ◌<◌, ◌≤◌, ◌^◌, List, [], ◌∷◌, ◌++◌, length, slice_index, drop, None, Result, Ok, Err, IfOk, IsErrOf, false, refl, sym, ◌∙◌, ap, subst, arith, append_assoc, length-append, length-drop}
use Rattle.std.proofs.lemmas.List.{get_or_append_left}
use Rattle.std.specs.List.{flat_map, AllByRecursion}
use Rattle.zb_numbers.specs.Numbers.{number_text}
use Rattle.zb_numbers.proofs.Digits.{length-number_text}
use Rattle.zb_numbers.proofs.Many.{many_once}
use Rattle.zb_types.specs.declared.ids.Piece.{Piece}
use Rattle.zb_entries.specs.declared.entry.Entry.{Entry}
use Rattle.zb_journal.specs.declared.fields.Fields.{Fields}
use Rattle.zb_journal.specs.Spelling.{IsPiece, IsFields, IsNamed, pieces_of, fields_of, fields_text, piece_text, body_text, entry_text}
use Rattle.zb_outside.specs.Meaning.{Meaning}
use Rattle.zb_outside.specs.Platters.{ReadTold}
use Rattle.zb_outside.specs.Ranges.{Reads}
use Rattle.zb_outside.specs.Runs.{Held}
use Rattle.zb_journal.specs.declared.journal.Journal.{Journal}
use Rattle.zb_journal.specs.declared.faults.JournalFault.{JournalFault}
use Rattle.zb_journal.specs.declared.faults.JournalFault.TheVariants.{Full, Bad, Worn, NoMemory, Stopped}
use Rattle.zb_journal.specs.Faults.{is_stopped}
use Rattle.zb_journal.specs.Journal.{journal_of, Stands, Begins, EntryStands, EntriesStand, HasEntries, HasBad, Says, IsBadAt}
use Rattle.zb_journal.proofs.Standing.{stand_ext, stand_more, entry_ext, begins_ext, has_ext}
use Rattle.zb_journal.specs.Reading.{IsEntryOf, IsHead, NoneStands}
use Rattle.zb_journal.proofs.Texts.{length-fields, length-entry, length-pieces, counted, number_in, same_number, piece_once, fields_once}

-- of two lists that stand at one place the shorter is a front of the other
front_of : (f : ℕ → ℕ) (at : ℕ) (xs ys : List ℕ) → Stands f at xs → Stands f at ys → length xs ≤ length ys → xs ++ drop (length xs) ys ≡ ys
front_of f at [] ys h k le = refl
front_of f at (x ∷ xs) [] h k le = absurd (omega arith)
front_of f at (x ∷ xs) (y ∷ ys) h k le =
    let same : x ≡ y = sym (h 0 (omega arith)) ∙ k 0 (omega arith) in
    let others = front_of f (at + 1) xs ys (λ i lt. ap f (omega arith) ∙ h (suc i) (omega arith)) (λ i lt. ap f (omega arith) ∙ k (suc i) (omega arith)) (omega arith) in
    λ i. same i ∷ others i

-- the pieces of an entry with these fields stand at the front of these bytes, with one more behind them
pub record PiecesStand (e : Entry) (these : Fields) (behind : List ℕ) : Type 0 where
  pub fields : fields_of e ≡ these
  pub more : List ℕ
  pub long : 1 ≤ length more
  pub front : flat_map piece_text (pieces_of e) ++ more ≡ behind

module _ (f : ℕ → ℕ) (at : ℕ) (fields : Fields) (own : ℕ) (behind : List ℕ) (h : IsHead f at fields own behind) where
  own_stands : (i : ℕ) → i < 8 → f (at + 24 + i) ≡ slice_index (number_text 8 own) i
  own_stands i lt =
      ap f (omega arith) ∙ h.front (23 + i) (omega (arith, lt, length-fields fields own, length-append (fields_text fields own) behind)) ∙ number_in fields own behind i lt

  -- with this number something begins there
  pub does_begin : (n : ℕ) → own ≡ n → Begins f at n
  does_begin n is = record {
    room = omega (arith, h.room);
    gate = h.gate;
    is_next = λ i lt. own_stands i (omega (arith, lt, length-number_text 8 n)) ∙ ap (λ (m : ℕ). slice_index (number_text 8 m) i) is;
  }

  -- and with no other
  pub own_is : (n : ℕ) → n < 2 ^ 64 → Begins f at n → own ≡ n
  own_is n below b =
      same_number own n (omega (arith, h.below)) below (λ i lt. sym (own_stands i lt) ∙ b.is_next i (omega (arith, lt, length-number_text 8 n)))

  -- an entry with this number has these fields, and its pieces stand at the front of what is behind them
  pub pieces_stand : (e : Entry) → EntryStands f at own e → PiecesStand e fields behind
  pieces_stand e s =
      let tot : List ℕ = fields_text fields own ++ behind in
      let body : List ℕ = body_text own e in
      let total : length tot ≡ 31 + length behind = omega (arith, length-fields fields own, length-append (fields_text fields own) behind) in
      let size = length-entry own e in
      let fits : length body + 1 ≤ length tot = omega (arith, size, s.room, h.room, total) in
      let whole : body ++ drop (length body) tot ≡ tot = front_of f (at + 1) body tot (λ i lt. ap f (omega arith) ∙ s.bytes (suc i) (omega (arith, lt))) h.front (omega (arith, fits)) in
      let same = fields_once (fields_of e) fields own (flat_map piece_text (pieces_of e) ++ drop (length body) tot) behind s.is.fields h.is
      (sym (append_assoc (fields_text (fields_of e) own) (flat_map piece_text (pieces_of e)) (drop (length body) tot)) ∙ whole) in
      record { fields = same.0; more = drop (length body) tot; long = omega (arith, fits, length-drop (length body) tot); front = same.1 }

  -- these pieces behind them make an entry
  pub entry_found : (n : ℕ) (e : Entry) (pieces : List Piece) (rest : List ℕ) → own ≡ n → fields_of e ≡ fields → pieces_of e ≡ pieces → IsNamed e → AllByRecursion IsPiece pieces → flat_map piece_text pieces ++ rest ≡ behind → 1 ≤ length rest → EntryStands f at n e
  entry_found n e pieces rest is_n same_fields same_pieces named each front long =
      let text : body_text n e ++ rest ≡ fields_text fields own ++ behind =
      append_assoc (fields_text (fields_of e) n) (flat_map piece_text (pieces_of e)) rest
      ∙ (λ i. fields_text (same_fields i) (sym is_n i) ++ (flat_map piece_text (same_pieces i) ++ rest))
      ∙ ap (λ (l : List ℕ). fields_text fields own ++ l) front in
      record {
        is = record {
          fields = subst IsFields (sym same_fields) h.is;
          pieces = subst (AllByRecursion IsPiece) (sym same_pieces) each;
          named = named;
        };
        bytes = λ i lt. byte text i lt;
        room =
            let a = ap (length {A = ℕ}) text in
            omega (arith, a, long, h.room, length-entry n e, length-append (body_text n e) rest, length-fields fields own, length-append (fields_text fields own) behind);
      }
    where
      byte : body_text n e ++ rest ≡ fields_text fields own ++ behind → (i : ℕ) → i < length (entry_text n e) → f (at + i) ≡ slice_index (entry_text n e) i
      byte text zero lt = ap f (omega arith) ∙ h.gate
      byte text (suc i) lt =
          let long_text = ap (length {A = ℕ}) text in
          ap f (omega arith) ∙ h.front i (omega (arith, lt, long_text, length-append (body_text n e) rest)) ∙ ap (λ (l : List ℕ). slice_index l i) (sym text) ∙ get_or_append_left (body_text n e) rest 0 i (omega (arith, lt))

  module _ (n : ℕ) (below : n < 2 ^ 64) (begins : Begins f at n) where
    stands_own : (e : Entry) → EntryStands f at n e → EntryStands f at own e
    stands_own e s = subst (λ (m : ℕ). EntryStands f at m e) (sym (own_is n below begins)) s

    -- none stands where its pieces and a byte more have no room
    pub none_fits : length behind ≤ 16 * fields.count → NoneStands f at n
    none_fits few e s =
        let p = pieces_stand e (stands_own e s) in
        let count : length (pieces_of e) ≡ fields.count = sym (counted e) ∙ ap (λ (x : Fields). x.count) p.fields in
        omega (arith, few, count, p.long, length-pieces (pieces_of e), ap (length {A = ℕ}) p.front, length-append (flat_map piece_text (pieces_of e)) p.more)

    -- none stands where these numbers and pieces make none
    pub none_known : (pieces : List Piece) (rest : List ℕ) → length pieces ≡ fields.count → AllByRecursion IsPiece pieces → flat_map piece_text pieces ++ rest ≡ behind → IsEntryOf fields pieces None → NoneStands f at n
    none_known pieces rest many each front none e s =
        let p = pieces_stand e (stands_own e s) in
        let count : length (pieces_of e) ≡ length pieces = sym (counted e) ∙ ap (λ (x : Fields). x.count) p.fields ∙ sym many in
        none e p.fields (many_once IsPiece piece_text piece_once (pieces_of e) pieces p.more rest s.is.pieces each count (p.front ∙ sym front)).0 s.is.named

-- a test of two numbers
pub are_same : (m n : ℕ) → (m == n) ≡ true → m ≡ n
are_same m n same = grind (arith, nat_tests)

pub say_same : (m n : ℕ) → m ≡ n → (m == n) ≡ true
say_same m n same = grind (arith, nat_tests)

-- a read leaves the platter as it was
pub held : {T E : Type 0} {p at : ℕ} {bytes : List ℕ} {r : Result T E} {a b : Meaning} → ReadTold p at bytes r a b → Held p a b
held read = record { ticks = read.ticks; seen = read.seen; left = read.crash }

-- what is so of the bytes that were read is so of the journal
module _ (bytes image : List ℕ) (size : length bytes ≡ 65536) (reads : Reads image 4096 bytes) where
  same : (i : ℕ) → i < 65536 → slice_index bytes i ≡ journal_of image i
  same i lt = reads i (omega (arith, size, lt))

  pub to_says : {E : Type 0} (first : ℕ) (r : Result (Journal × List Entry) E) → IfOk r (λ found. HasEntries (slice_index bytes) first found.1 found.0.place) → IfOk r (λ found. Says image first found.1 found.0.place)
  to_says first (Ok found) has = has_ext (slice_index bytes) (journal_of image) first found.1 found.0.place (λ i lt. sym (same i lt)) has
  to_says first (Err e) has = tt

  pub to_bad : (first place : ℕ) → HasBad (slice_index bytes) first place → IsBadAt image first place
  to_bad first place bad =
      let f : ℕ → ℕ = slice_index bytes in
      let room : place + 32 ≤ 65536 = bad.begins.room in
      record {
        entries = bad.entries;
        stand = stand_ext f (journal_of image) 0 first bad.entries place (λ i lt. sym (same i (omega (arith, lt)))) bad.stand;
        begins = begins_ext (journal_of image) f place (first + length bad.entries) (λ i lt. same i lt) bad.begins;
        none = λ e s. bad.none e (entry_ext (journal_of image) f place (first + length bad.entries) e (λ i lt. same i (omega (arith, lt, s.room))) s);
      }

-- one entry more was read
module _ (f : ℕ → ℕ) (first : ℕ) (es : List Entry) (place number : ℕ) (e : Entry) (pieces : List Piece) (more : List Entry) where
  pub read_more : EntriesStand f 0 first es place → number ≡ first + length es → EntryStands f place number e → pieces ≡ pieces_of e → more ≡ es ++ e ∷ [] → EntriesStand f 0 first more (place + (32 + 16 * length pieces))
  read_more stand is s same_pieces is_more =
      subst (λ (l : List Entry). EntriesStand f 0 first l (place + (32 + 16 * length pieces))) (sym is_more)
      (subst (λ (l : List Piece). EntriesStand f 0 first (es ++ e ∷ []) (place + (32 + 16 * length l))) (sym same_pieces)
      (stand_more f 0 first es place e stand (subst (λ (n : ℕ). EntryStands f place n e) is s)))

pub reads_as : (bytes items image : List ℕ) → bytes ≡ items → Reads image 4096 items → Reads image 4096 bytes
reads_as bytes items image same h = subst (λ (l : List ℕ). Reads image 4096 l) (sym same) h

-- a result that isn't stopped tells of no fault
pub never_stopped : {T : Type 0} (r : Result T JournalFault) → (IsErrOf r Stopped → ⊥) → is_stopped r ≡ true → false ≡ true
never_stopped (Ok x) none same = same
never_stopped (Err (Full place)) none same = same
never_stopped (Err (Bad place)) none same = same
never_stopped (Err Worn) none same = same
never_stopped (Err NoMemory) none same = same
never_stopped (Err Stopped) none same = absurd (none refl)
