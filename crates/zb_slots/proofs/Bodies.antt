-- What stands in the bytes of a slot.
use Rattle.std.proofs.Common.{◌≡◌, inl, inr, ℕ, zero, suc, ◌+◌, ◌-◌, ◌*◌, ◌<◌, ◌≤◌, min, Bool, true, false, ◌&&◌, ◌↔◌, IsTrue, nat_le, nat_eq, List, [], ◌∷◌, ◌++◌, length, take, drop, replicate, slice_index, Option, None, Some, refl, sym, ◌∙◌, ap, arith, length-append, length-drop, length-take}
use Rattle.std.specs.List.{starts_with}
use Rattle.std.proofs.lemmas.Bool.{cases_lt}
use Rattle.std.proofs.lemmas.Bool.Decides.{nat_tests, Decides-eqb, same_from_decides}
use Rattle.std.proofs.lemmas.List.{same_lists, get_or_default, get_or-take, get_or-drop, get_or_append_left, get_or-append_right, length-replicate}
use Rattle.std.proofs.lemmas.Slice.Eq.{slice_eq-Decides}
use Rattle.zb_outside.specs.Ranges.{zeros}
use Rattle.zb_outside.specs.Ranges.{Reads}
use Rattle.zb_cell.specs.Cell.{window, bytes_at, value}
use Rattle.zb_types.specs.declared.geometry.Geometry.{Geometry}
use Rattle.zb_types.specs.declared.ids.FragId.{FragId}
use Rattle.zb_holding.specs.Fragments.{Fragment, share_fragment, parity_fragment}
use Rattle.zb_slots.specs.declared.header.Header.{Header}
use Rattle.zb_slots.specs.declared.header.Header.TheVariants.{Free, Share, Parity}
use Rattle.zb_slots.specs.Slots.{Slot, Stored, bad_slot, free_slot, full_slot, four_at, numbers_at, shown, header_in, slot_place}
use Rattle.zb_slots.specs.Changing.{parity_slot}
use Rattle.zb_slots.specs.Filling.{body_of}
use Rattle.zb_slots.proofs.Shares.{body_stands}
use Rattle.zb_slots.specs.Slots.{slots_in}
use Rattle.zb_holding.specs.Rules.{stand_at}

pub same_bytes : (xs ys : List ℕ) → length xs ≡ length ys → ((k : ℕ) → k < length xs → slice_index xs k ≡ slice_index ys k) → xs ≡ ys
same_bytes xs ys size same = same_lists xs ys size (λ k d lt. get_or_default xs k d 0 lt ∙ same k lt ∙ get_or_default ys k 0 d (omega (arith, size)))

-- a slot's fragment, some way into its body
module _ (geo : Geometry) (image : List ℕ) (slot place at : ℕ) (stored : Stored) (is : at ≡ slot_place geo.fragment slot + 192 + place) (full : slots_in geo image slot ≡ full_slot stored) where
  abbrev stands : List ℕ
  stands = body_of stored.fragment

  part_at : (i : ℕ) → place + i < length stands → slice_index image (at + i) ≡ slice_index stands (place + i)
  part_at i lt = ap (slice_index image) (omega (arith, is)) ∙ body_stands geo.servers geo.fragment (slot_place geo.fragment slot) image stored full (place + i) lt

  -- bytes that are read there
  pub read_part : (bytes : List ℕ) → place + length bytes ≤ length stands → Reads image at bytes → bytes ≡ take (length bytes) (drop place stands)
  read_part bytes within reads =
      same_bytes bytes (take (length bytes) (drop place stands)) (omega (arith, length-take (length bytes) (drop place stands), length-drop place stands))
      (λ k lt. reads k lt ∙ part_at k (omega (arith, within, lt)) ∙ sym (get_or-drop place stands k 0) ∙ sym (get_or-take (length bytes) (drop place stands) k 0 lt))

  pub part_read : (bytes : List ℕ) → place + length bytes ≤ length stands → bytes ≡ take (length bytes) (drop place stands) → Reads image at bytes
  part_read bytes within same i lt =
      ap (λ (l : List ℕ). slice_index l i) same ∙ get_or-take (length bytes) (drop place stands) i 0 lt ∙ get_or-drop place stands i 0 ∙ sym (part_at i (omega (arith, within, lt)))

  pub stands_there : (bytes : List ℕ) (same : Bool) → place + length bytes ≤ length stands → (IsTrue same ↔ Reads image at bytes) → same ≡ stand_at stands place bytes
  stands_there bytes same within iff =
      let low : nat_le place (length stands) ≡ true = grind (arith, nat_tests) in
      let eq = slice_eq-Decides Decides-eqb bytes (take (length bytes) (drop place stands)) (starts_with nat_eq (drop place stands) bytes) refl in
      same_from_decides same (starts_with nat_eq (drop place stands) bytes) iff (λ h. part_read bytes within (eq.0 h), λ h. eq.1 (read_part bytes within h))
      ∙ sym (ap (λ (b : Bool). b && starts_with nat_eq (drop place stands) bytes) low)

  -- and zeros past its end
  pub padded_part : (bytes : List ℕ) (there len : ℕ) → there ≡ min (length stands - place) len → length bytes ≡ len → ((i : ℕ) → i < there → slice_index bytes i ≡ slice_index image (at + i)) → ((i : ℕ) → there ≤ i → slice_index bytes i ≡ 0)
      → bytes ≡ take len (drop place stands ++ replicate len 0)
  padded_part bytes there len much size read none =
      let tail : List ℕ = drop place stands in
      let long : length tail ≡ length stands - place = length-drop place stands in
      let zs : List ℕ = replicate len 0 in
      same_bytes bytes (take len (tail ++ zs)) (omega (arith, size, length-take len (tail ++ zs), length-append tail zs, length-replicate {A = ℕ} len 0))
      (λ k lt. elim (cases_lt k (length tail)) [
        | inl low ↦ read k (omega (arith, much, long, low, lt, size)) ∙ part_at k (omega (arith, long, low)) ∙ sym (get_or-drop place stands k 0) ∙ sym (get_or_append_left tail zs 0 k low) ∙ sym (get_or-take len (tail ++ zs) k 0 (omega (arith, lt, size)))
        | inr high ↦ none k (omega (arith, much, long, high)) ∙ sym (zeros len (k - length tail)) ∙ sym (get_or-append_right tail zs (length tail) k 0 refl high) ∙ sym (get_or-take len (tail ++ zs) k 0 (omega (arith, lt, size)))
      ])

neither : (b c : Bool) → (c ≡ true → ⊥) → false ≡ (b && c)
neither false c never = refl
neither true true never = absurd (never refl)
neither true false never = refl

-- bytes that would end past the body don't stand in it
pub too_long : (stands : List ℕ) (place : ℕ) (bytes : List ℕ) → length stands < place + length bytes → false ≡ stand_at stands place bytes
too_long stands place bytes long = pick (nat_le place (length stands)) refl
  where
    never : place ≤ length stands → starts_with nat_eq (drop place stands) bytes ≡ true → ⊥
    never le h =
        let same = (slice_eq-Decides Decides-eqb bytes (take (length bytes) (drop place stands)) (starts_with nat_eq (drop place stands) bytes) refl).0 h in
        let size : length bytes ≡ length (take (length bytes) (drop place stands)) = ap (λ (l : List ℕ). length l) same in
        omega (arith, size, length-take (length bytes) (drop place stands), length-drop place stands, long, le)

    pick : (b : Bool) → nat_le place (length stands) ≡ b → false ≡ (b && starts_with nat_eq (drop place stands) bytes)
    pick false is = refl
    pick true is = let le : place ≤ length stands = grind (arith, nat_tests) in neither true (starts_with nat_eq (drop place stands) bytes) (never le)

-- one number more
numbers_suc : (f : ℕ → ℕ) (at m : ℕ) → numbers_at f at (suc m) ≡ numbers_at f at m ++ four_at f (at + 4 * m) ∷ []
numbers_suc f at zero = ap (λ (k : ℕ). four_at f k ∷ []) (omega arith)
numbers_suc f at (suc m) =
    let rest : numbers_at f (at + 4) (suc m) ≡ numbers_at f (at + 4) m ++ four_at f (at + 4 + 4 * m) ∷ [] = numbers_suc f (at + 4) m in
    let same : at + 4 + 4 * m ≡ at + 4 * suc m = omega arith in
    ap (λ (l : List ℕ). four_at f at ∷ l) (rest ∙ ap (λ (k : ℕ). numbers_at f (at + 4) m ++ four_at f k ∷ []) same)

numbers_more : (f : ℕ → ℕ) (at m : ℕ) → numbers_at f at (m + 1) ≡ numbers_at f at m ++ four_at f (at + 4 * m) ∷ []
numbers_more f at m = let one : m + 1 ≡ suc m = omega arith in ap (numbers_at f at) one ∙ numbers_suc f at m

pub number_pushed : (f : ℕ → ℕ) (m x : ℕ) (numbers now : List ℕ) → now ≡ numbers ++ x ∷ [] → numbers ≡ numbers_at f 0 m → x ≡ four_at f (4 * m) → now ≡ numbers_at f 0 (m + 1)
number_pushed f m x numbers now is before here =
    let one : x ≡ four_at f (0 + 4 * m) = here ∙ ap (four_at f) (omega arith) in
    is ∙ (λ i. before i ++ one i ∷ []) ∙ sym (numbers_more f 0 m)

pub length-numbers : (f : ℕ → ℕ) (at m : ℕ) → length (numbers_at f at m) ≡ m
length-numbers f at zero = refl
length-numbers f at (suc m) = let h = length-numbers f (at + 4) m in omega (arith, h)

-- the fragment in a slot, and the lengths of a fragment
fragment_in : Slot → Fragment
fragment_in bad_slot = share_fragment []
fragment_in free_slot = share_fragment []
fragment_in (full_slot stored) = stored.fragment

covered : Fragment → List ℕ
covered (share_fragment bytes) = []
covered (parity_fragment lengths bytes) = lengths

-- the lengths of a parity stand behind its header
shown_lengths : (n : ℕ) (byte : ℕ → ℕ) (h : Option Header) (id : FragId) (turn : ℕ) (lengths bytes : List ℕ) → shown n byte h ≡ parity_slot id turn lengths bytes → numbers_at byte 128 (n - 1) ≡ lengths
unfolding fragment_in covered
shown_lengths n byte None id turn lengths bytes is = absurd (cc is)
shown_lengths n byte (Some Free) id turn lengths bytes is = absurd (cc is)
shown_lengths n byte (Some (Share other len)) id turn lengths bytes is =
    let same : share_fragment (window byte 192 len) ≡ parity_fragment lengths bytes = ap fragment_in is in absurd (cc same)
shown_lengths n byte (Some (Parity other turn_there len)) id turn lengths bytes is = ap covered (ap fragment_in is)

pub lengths_stand : (geo : Geometry) (image : List ℕ) (slot place : ℕ) (id : FragId) (turn : ℕ) (lengths bytes : List ℕ) → place ≡ slot_place geo.fragment slot → slots_in geo image slot ≡ parity_slot id turn lengths bytes
    → numbers_at (bytes_at image place) 128 (geo.servers - 1) ≡ lengths
lengths_stand geo image slot place id turn lengths bytes at is =
    ap (λ (k : ℕ). numbers_at (bytes_at image k) 128 (geo.servers - 1)) at
    ∙ shown_lengths geo.servers (bytes_at image (slot_place geo.fragment slot)) (header_in geo.servers geo.fragment (value image (slot_place geo.fragment slot))) id turn lengths bytes is
