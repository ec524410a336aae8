-- What a filled slot holds.
use Rattle.std.proofs.Common.{◌≡◌, inl, inr, ⊎_elim, ℕ, zero, suc, ◌+◌, ◌-◌, ◌*◌, ◌<◌, ◌≤◌, List, [], ◌∷◌, ◌++◌, length, drop, slice_index, Result, Option, None, Some, refl, sym, ◌∙◌, ap, arith, length-append, length-drop}
use Rattle.std.proofs.lemmas.Result.{on_ok_weaker}
use Rattle.std.proofs.lemmas.Bool.{cases_lt}
use Rattle.std.proofs.lemmas.List.{get_or-drop, get_or_append_left, get_or-append_right}
use Rattle.zb_outside.specs.Meaning.{Meaning}
use Rattle.zb_outside.proofs.Runs.{weaker_run, outside_wider}
use Rattle.zb_cell.specs.Cell.{window, bytes_at, value}
use Rattle.zb_cell.specs.Set.{SetTold}
use Rattle.zb_cell.proofs.Values.{window_is}
use Rattle.zb_types.specs.declared.ids.FragId.{FragId}
use Rattle.zb_holding.specs.Fragments.{share_fragment}
use Rattle.zb_slots.specs.declared.header.Header.{Header}
use Rattle.zb_slots.specs.declared.header.Header.TheVariants.{Free, Share, Parity}
use Rattle.zb_slots.specs.Headers.{header_text}
use Rattle.zb_slots.proofs.Numbers.{four_ext}
use Rattle.zb_slots.specs.Slots.{Slot, Stored, bad_slot, free_slot, full_slot, four_at, numbers_at, shown, header_in, slot_of}
use Rattle.zb_slots.specs.Area.{lengths_in}
use Rattle.zb_slots.specs.Changing.{share_slot, parity_slot, SlotTold}
use Rattle.zb_slots.specs.Filling.{body_of, Filled, FillTold}
use Rattle.zb_slots.proofs.Fills.{length-window, same_slot}

pub window_at : (f : ℕ → ℕ) (at n i : ℕ) → i < n → slice_index (window f at n) i ≡ f (at + i)
unfolding window
window_at f at zero i lt = absurd (omega arith)
window_at f at (suc n) zero lt = ap f (omega arith)
window_at f at (suc n) (suc i) lt = window_at f (at + 1) n i (omega arith) ∙ ap f (omega arith)

-- the body of a slot, none where it is free or bad
abbrev pub body_in : Slot → List ℕ
body_in bad_slot = []
body_in free_slot = []
body_in (full_slot stored) = body_of stored.fragment

none : (i : ℕ) → i < length {A = ℕ} [] → ⊥
none i lt = omega arith

pub body_at : (n : ℕ) (byte : ℕ → ℕ) (h : Option Header) (i : ℕ) → i < length (body_in (shown n byte h)) → byte (192 + i) ≡ slice_index (body_in (shown n byte h)) i
body_at n byte None i lt = absurd (none i lt)
body_at n byte (Some Free) i lt = absurd (none i lt)
body_at n byte (Some (Share id len)) i lt = sym (window_at byte 192 len i (omega (arith, length-window byte 192 len, lt)))
body_at n byte (Some (Parity id turn len)) i lt = sym (window_at byte 192 len i (omega (arith, length-window byte 192 len, lt)))

-- the body of a fragment stands behind its header
pub body_stands : (n f place : ℕ) (s : List ℕ) (stored : Stored) → slot_of n f s place ≡ full_slot stored → (i : ℕ) → i < length (body_of stored.fragment) → bytes_at s place (192 + i) ≡ slice_index (body_of stored.fragment) i
body_stands n f place s stored is i lt =
    let same : body_in (slot_of n f s place) ≡ body_of stored.fragment = ap body_in is in
    body_at n (bytes_at s place) (header_in n f (value s place)) i (omega (arith, ap (λ (l : List ℕ). length l) same, lt)) ∙ ap (λ (l : List ℕ). slice_index l i) same

-- the bytes of a share stand behind its header
pub stands_at : (n f place : ℕ) (s : List ℕ) (id : FragId) (stands : List ℕ) → slot_of n f s place ≡ share_slot id stands → (i : ℕ) → i < length stands → bytes_at s place (192 + i) ≡ slice_index stands i
stands_at n f place s id stands is i lt = body_stands n f place s (record { id = id; turn = 0; fragment = share_fragment stands }) is i lt

pub numbers_moved : (f g : ℕ → ℕ) (a b m : ℕ) → ((i : ℕ) → i < 4 * m → f (a + i) ≡ g (b + i)) → numbers_at f a m ≡ numbers_at g b m
numbers_moved f g a b zero same = refl
numbers_moved f g a b (suc m) same =
    let here : (i : ℕ) → i < 4 → f (a + i) ≡ g (b + i) = λ i lt. same i (omega arith) in
    let one : f a ≡ g b = ap f (omega arith) ∙ here 0 (omega arith) ∙ ap g (omega arith) in
    let four : four_at f a ≡ four_at g b = four_ext f g a b one (here 1 (omega arith)) (here 2 (omega arith)) (here 3 (omega arith)) in
    let rest : numbers_at f (a + 4) m ≡ numbers_at g (b + 4) m = numbers_moved f g (a + 4) (b + 4) m (λ i lt. ap f (omega arith) ∙ same (4 + i) (omega arith) ∙ ap g (omega arith)) in
    λ i. four i ∷ rest i

pub shares : (n f place len : ℕ) (id : FragId) (bytes s c : List ℕ) → len ≡ length bytes → Filled n f place 192 bytes (Share id len) s c → slot_of n f c place ≡ share_slot id bytes
shares n f place len id bytes s c is h =
    h.slot ∙ ap (λ (l : List ℕ). share_slot id l) (window_is (bytes_at c place) bytes 192 len is (λ i lt. h.put i (omega (arith, is))))

pub appends : (n f place len : ℕ) (id : FragId) (stands bytes s c : List ℕ) → slot_of n f s place ≡ share_slot id stands → Filled n f place (192 + length stands) bytes (Share id len) s c → len ≡ length stands + length bytes
    → slot_of n f c place ≡ share_slot id (stands ++ bytes)
appends n f place len id stands bytes s c was h is =
    h.slot ∙ ap (λ (l : List ℕ). share_slot id l) (window_is (bytes_at c place) (stands ++ bytes) 192 len (omega (arith, is, length-append stands bytes)) (λ i lt. elim (cases_lt i (length stands)) [
      | inl low ↦ h.below (192 + i) (omega arith) (omega arith) ∙ stands_at n f place s id stands was i low ∙ sym (get_or_append_left stands bytes 0 i low)
      | inr high ↦ ap (bytes_at c place) (omega arith) ∙ h.put (i - length stands) (omega (arith, is)) ∙ sym (get_or-append_right stands bytes (length stands) i 0 refl high)
    ]))

pub parities : (n f place len turn : ℕ) (id : FragId) (area s c : List ℕ) → n ≤ 16 → 64 ≤ length area → len ≡ length area - 64 → Filled n f place 128 area (Parity id turn len) s c
    → slot_of n f c place ≡ parity_slot id turn (lengths_in (n - 1) area) (drop 64 area)
parities n f place len turn id area s c few long is h =
    let lengths : numbers_at (bytes_at c place) 128 (n - 1) ≡ lengths_in (n - 1) area = numbers_moved (bytes_at c place) (slice_index area) 128 0 (n - 1) (λ i lt. h.put i (omega arith) ∙ ap (slice_index area) (omega arith)) in
    let body : window (bytes_at c place) 192 len ≡ drop 64 area = window_is (bytes_at c place) (drop 64 area) 192 len (omega (arith, length-drop 64 area))
    (λ i lt. ap (bytes_at c place) (omega arith) ∙ h.put (64 + i) (omega arith) ∙ sym (get_or-drop 64 area i 0)) in
    h.slot ∙ (λ i. parity_slot id turn (lengths i) (body i))

module _ {T E : Type 0} {n f p place at : ℕ} {bytes : List ℕ} {header : Header} {r : Result T E} {a b : Meaning} (this : Slot)
    (is : (c : List ℕ) → Filled n f place at bytes header (a.now.seen p) c → slot_of n f c place ≡ this) where
  pub changed : FillTold n f p place at bytes header r a b → SlotTold n f p place this r a b
  changed fill = record {
    run = weaker_run fill.run (λ c h. record { outside = h.outside; either = ⊎_elim (λ same. inl same) (λ new. inr (is c new)) h.either });
    settled = fill.settled;
    slot = on_ok_weaker r (λ new. is (b.now.seen p) new) fill.filled;
  }

free_now : (n f place : ℕ) (c : List ℕ) → value c place ≡ Some (header_text Free) → slot_of n f c place ≡ free_slot
free_now n f place c new = ap (λ (v : Option (List ℕ)). shown n (bytes_at c place) (header_in n f v)) new

pub freed : {T E : Type 0} {n f p place : ℕ} {r : Result T E} {a b : Meaning} → n ≤ 16 → SetTold p place (header_text Free) r a b → SlotTold n f p place free_slot r a b
freed {n = n} {f = f} {p = p} {place = place} {r = r} {a = a} {b = b} few set = record {
  run = weaker_run set.run (λ c h. record {
    outside = outside_wider (omega arith) (omega arith) h.outside;
    either = ⊎_elim
        (λ same. inl (same_slot n f place (a.now.seen p) c few same (λ i le lt. h.outside.same (place + i) (inr (omega arith)))))
        (λ new. inr (free_now n f place c new))
        h.either;
  });
  settled = set.settled;
  slot = on_ok_weaker r (λ new. free_now n f place (b.now.seen p) new) set.value;
}
