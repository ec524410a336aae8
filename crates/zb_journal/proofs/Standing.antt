-- Entries that stand one behind the other, where some of the bytes are the same.
use Rattle.std.proofs.Common.{◌≡◌, ℕ, suc, ◌+◌, ◌*◌, ◌<◌, ◌≤◌, List, [], ◌∷◌, ◌++◌, length, slice_index, sym, ◌∙◌, ap, subst, arith}
use Rattle.zb_numbers.specs.Numbers.{number_text}
use Rattle.zb_numbers.proofs.Digits.{length-number_text}
use Rattle.std.specs.List.{flat_map}
use Rattle.zb_entries.specs.declared.entry.Entry.{Entry}
use Rattle.zb_journal.specs.Spelling.{pieces_of, size_of, fields_of, piece_text, entry_text}
use Rattle.zb_journal.specs.Journal.{journal_of, Stands, Begins, EntryStands, EntriesStand, HasEntries}
use Rattle.zb_journal.specs.Laws.{DependsOnItsBytes}
use Rattle.zb_journal.proofs.Texts.{length-entry, number_in}

pub stand_le : (f : ℕ → ℕ) (at n : ℕ) (es : List Entry) (end : ℕ) → EntriesStand f at n es end → at + 32 * length es ≤ end
stand_le f at n [] end is = omega (arith, is)
stand_le f at n (e ∷ es) end is = let h = stand_le f (at + size_of e) (n + 1) es end is.1 in omega (arith, h)

-- entries that stand end within the journal
pub stand_room : (f : ℕ → ℕ) (at n : ℕ) (es : List Entry) (end : ℕ) → at ≤ 65535 → EntriesStand f at n es end → end ≤ 65535
stand_room f at n [] end low is = omega (arith, is)
stand_room f at n (e ∷ es) end low is = stand_room f (at + size_of e) (n + 1) es end (omega (arith, is.0.room)) is.1

stands_ext : (f g : ℕ → ℕ) (at : ℕ) (bytes : List ℕ) → ((i : ℕ) → at ≤ i → i < at + length bytes → g i ≡ f i) → Stands f at bytes → Stands g at bytes
stands_ext f g at bytes same is i lt = same (at + i) (omega arith) (omega arith) ∙ is i lt

pub entry_ext : (f g : ℕ → ℕ) (at n : ℕ) (e : Entry) → ((i : ℕ) → i < at + size_of e → g i ≡ f i) → EntryStands f at n e → EntryStands g at n e
entry_ext f g at n e same h = record {
  is = h.is;
  bytes = let long = length-entry n e in stands_ext f g at (entry_text n e) (λ i le lt. same i (omega (arith, long, lt))) h.bytes;
  room = h.room;
}

pub stand_ext : (f g : ℕ → ℕ) (at n : ℕ) (es : List Entry) (end : ℕ) → ((i : ℕ) → i < end → g i ≡ f i) → EntriesStand f at n es end → EntriesStand g at n es end
stand_ext f g at n [] end same is = is
stand_ext f g at n (e ∷ es) end same is =
    let le = stand_le f (at + size_of e) (n + 1) es end is.1 in
    (entry_ext f g at n e (λ i lt. same i (omega (arith, le, lt))) is.0, stand_ext f g (at + size_of e) (n + 1) es end same is.1)

pub stand_more : (f : ℕ → ℕ) (at n : ℕ) (es : List Entry) (end : ℕ) (e : Entry) → EntriesStand f at n es end → EntryStands f end (n + length es) e → EntriesStand f at n (es ++ e ∷ []) (end + size_of e)
stand_more f at n [] end e is h =
    let number : n + 0 ≡ n = omega arith in
    (subst (λ (k : ℕ). EntryStands f k n e) (sym is) (subst (λ (k : ℕ). EntryStands f end k e) number h), ap (λ (k : ℕ). k + size_of e) is)
stand_more f at n (d ∷ es) end e is h =
    let number : n + length (d ∷ es) ≡ n + 1 + length es = omega arith in
    (is.0, stand_more f (at + size_of d) (n + 1) es end e is.1 (subst (λ (k : ℕ). EntryStands f end k e) number h))

pub begins_ext : (f g : ℕ → ℕ) (at n : ℕ) → ((i : ℕ) → i < 65536 → g i ≡ f i) → Begins g at n → Begins f at n
begins_ext f g at n same b = record {
  room = b.room;
  gate = sym (same at (omega (arith, b.room))) ∙ b.gate;
  is_next = λ i lt. sym (same (at + 24 + i) (omega (arith, b.room, lt, length-number_text 8 n))) ∙ b.is_next i lt;
}

-- the same bytes have the same entries
pub has_ext : (f g : ℕ → ℕ) (first : ℕ) (es : List Entry) (end : ℕ) → ((i : ℕ) → i < 65536 → g i ≡ f i) → HasEntries f first es end → HasEntries g first es end
has_ext f g first es end same h =
    let low : end ≤ 65535 = stand_room f 0 first es end (omega arith) h.stand in
    record {
      stand = stand_ext f g 0 first es end (λ i lt. same i (omega (arith, lt))) h.stand;
      ends = λ b. h.ends (begins_ext f g end (first + length es) same b);
    }

pub depends_on_its_bytes : DependsOnItsBytes
depends_on_its_bytes image other first es end same says = has_ext (journal_of image) (journal_of other) first es end same says

-- where an entry stands something begins
pub entry_begins : (f : ℕ → ℕ) (at n : ℕ) (e : Entry) → EntryStands f at n e → Begins f at n
entry_begins f at n e h =
    let long = length-entry n e in
    record {
      room = omega (arith, h.room);
      gate = ap f (omega arith) ∙ h.bytes 0 (omega (arith, long));
      is_next = λ i lt. is_next i lt;
    }
  where
    is_next : Stands f (at + 24) (number_text 8 n)
    is_next i lt =
        let long = length-entry n e in
        let few : i < 8 = omega (arith, lt, length-number_text 8 n) in
        let steps : 24 + i ≡ suc (23 + i) = omega arith in
        ap f (omega arith) ∙ h.bytes (24 + i) (omega (arith, long, few)) ∙ ap (slice_index (entry_text n e)) steps ∙ number_in (fields_of e) n (flat_map piece_text (pieces_of e)) i few
