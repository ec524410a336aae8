-- The first block that is missing, and blocks whose bytes have come.
use Rattle.std.proofs.Common.{◌≡◌, ℕ, suc, ◌+◌, ◌<◌, ◌≤◌, Bool, true, false, ◌⊎◌, inl, inr, List, [], ◌∷◌, length, drop, Option, Some, None, refl, ap, sym, subst, ◌∙◌, arith}
use Rattle.std.proofs.lemmas.Bool.{eqb-true}
use Rattle.std.specs.Prelude.{◌==◌, All}
use Rattle.zb_types.specs.declared.ids.Ptr.{Ptr}
use Rattle.zb_cache.specs.Entries.{SeenCache, bytes_under}
use Rattle.zb_basis.specs.declared.basis.Fetched.{Fetched}
use Rattle.zb_basis.specs.Wanting.{AreFetched}
use Rattle.zb_work.specs.Blocks.{or_none, slots_of, is_missing, shifted, next_missing, filled, IsSlot, AreSlots}

-- the first block is the missing one
record Here (b : Fetched) (at : ℕ) (p : Ptr) : Type 0 where
  missing : is_missing b ≡ true
  first : at ≡ 0
  ptr : b.ptr ≡ p

-- the first block is there, and the missing one is behind it
record There (b : Fetched) (bs : List Fetched) (at : ℕ) (p : Ptr) : Type 0 where
  place : ℕ
  is_there : is_missing b ≡ false
  next : at ≡ suc place
  found : next_missing bs ≡ Some (place, p)

abbrev place_or : ℕ → Option (ℕ × Ptr) → ℕ
place_or n None = n
place_or n (Some m) = m.0

abbrev ptr_or : Ptr → Option (ℕ × Ptr) → Ptr
ptr_or p None = p
ptr_or p (Some m) = m.1

here_or_there : (b : Fetched) (bs : List Fetched) (at : ℕ) (p : Ptr) (t : Bool) (found : Option (ℕ × Ptr)) → is_missing b ≡ t → next_missing bs ≡ found → next_missing (b ∷ bs) ≡ Some (at, p)
    → Here b at p ⊎ There b bs at p
here_or_there b bs at p true found e f h = let g : Some (0, b.ptr) ≡ Some (at, p) = rw e at h in inl (record { missing = e; first = sym (ap (place_or 0) g); ptr = ap (ptr_or p) g })
here_or_there b bs at p false None e f h = let g : shifted 1 (next_missing bs) ≡ Some (at, p) = rw e at h in absurd (cc (rw f at g))
here_or_there b bs at p false (Some m) e f h =
    let g : shifted 1 (next_missing bs) ≡ Some (at, p) = rw e at h in
    let g2 : Some (m.0 + 1, m.1) ≡ Some (at, p) = rw f at g in
    let n : m.0 + 1 ≡ at = ap (place_or 0) g2 in
    let q : m.1 ≡ p = ap (ptr_or p) g2 in
    inr (record { place = m.0; is_there = e; next = omega arith; found = f ∙ ap (λ (z : Ptr). Some (m.0, z)) q })

cases_at : (b : Fetched) (bs : List Fetched) (at : ℕ) (p : Ptr) → next_missing (b ∷ bs) ≡ Some (at, p) → Here b at p ⊎ There b bs at p
cases_at b bs at p h = here_or_there b bs at p (is_missing b) (next_missing bs) refl refl h

-- the missing block is one of them
pub missing_below : (bs : List Fetched) (at : ℕ) (p : Ptr) → next_missing bs ≡ Some (at, p) → at < length bs
missing_below [] at p h = absurd (cc h)
missing_below (b ∷ bs) at p h = elim (cases_at b bs at p h) [
  | inl x ↦ let z = x.first in omega arith
  | inr y ↦ let z = y.next in let w = missing_below bs y.place p y.found in omega arith
]

filled_cons : (b : Fetched) (bs : List Fetched) (at k : ℕ) (p : Ptr) (bytes : List ℕ) → at ≡ suc k → filled (b ∷ bs) at p bytes ≡ b ∷ filled bs k p bytes
filled_cons b bs at k p bytes e = ap (λ (n : ℕ). filled (b ∷ bs) n p bytes) e

filled_first : (b : Fetched) (bs : List Fetched) (at : ℕ) (p : Ptr) (bytes : List ℕ) → at ≡ 0 → filled (b ∷ bs) at p bytes ≡ (record { ptr = p; bytes = bytes }) ∷ bs
filled_first b bs at p bytes e = ap (λ (n : ℕ). filled (b ∷ bs) n p bytes) e

-- once a block's bytes have come, the next one that is missing stands behind it
abbrev GoesOn : List Fetched → ℕ → Type 0
GoesOn bs n = next_missing bs ≡ shifted n (next_missing (drop n bs))

goes_next : (b : Fetched) (bs : List Fetched) (n : ℕ) → is_missing b ≡ false → GoesOn bs n → GoesOn (b ∷ bs) (suc n)
goes_next b bs n e h = rw e (ap (shifted 1) h ∙ shifted_one (next_missing (drop n bs)) n)
  where
    shifted_one : (found : Option (ℕ × Ptr)) (n : ℕ) → shifted 1 (shifted n found) ≡ shifted (suc n) found
    shifted_one None n = refl
    shifted_one (Some m) n = let e : (m.0 + n) + 1 ≡ m.0 + suc n = omega arith in ap (λ (k : ℕ). Some (k, m.1)) e

-- no place is as far as it is
pub shifted_none : (m : Option (ℕ × Ptr)) → m ≡ shifted 0 m
shifted_none None = refl
shifted_none (Some m) = let e : m.0 ≡ m.0 + 0 = omega arith in ap (λ (k : ℕ). Some (k, m.1)) e

-- once the bytes of the first missing block have come, none is missing before its place
pub filled_goes : (bs : List Fetched) (at : ℕ) (p : Ptr) (bytes : List ℕ) → next_missing bs ≡ Some (at, p) → next_missing (filled bs at p bytes) ≡ shifted at (next_missing (drop at (filled bs at p bytes)))
filled_goes [] at p bytes h = absurd (cc h)
filled_goes (b ∷ bs) at p bytes h = elim (cases_at b bs at p h) [
  | inl x ↦ subst (λ (n : ℕ). GoesOn (filled (b ∷ bs) n p bytes) n) (sym x.first) (shifted_none (next_missing ((record { ptr = p; bytes = bytes }) ∷ bs)))
  | inr y ↦
      subst (λ (z : List Fetched). GoesOn z at) (sym (filled_cons b bs at y.place p bytes y.next))
      (subst (λ (n : ℕ). GoesOn (b ∷ filled bs y.place p bytes) n) (sym y.next) (goes_next b (filled bs y.place p bytes) y.place y.is_there (filled_goes bs y.place p bytes y.found)))
]

-- filling leaves the count of blocks
pub filled_long : (bs : List Fetched) (at : ℕ) (p : Ptr) (bytes : List ℕ) → next_missing bs ≡ Some (at, p) → at < length (filled bs at p bytes)
filled_long [] at p bytes h = absurd (cc h)
filled_long (b ∷ bs) at p bytes h = elim (cases_at b bs at p h) [
  | inl x ↦ subst (λ (n : ℕ). n < length (filled (b ∷ bs) n p bytes)) (sym x.first) (omega arith)
  | inr y ↦
      let w = filled_long bs y.place p bytes y.found in
      subst (λ (z : List Fetched). at < length z) (sym (filled_cons b bs at y.place p bytes y.next)) (let z = y.next in omega arith)
]

none_bytes : (b : Fetched) → is_missing b ≡ true → b.bytes ≡ []
none_bytes b e = by_list b.bytes e
  where
    by_list : (bytes : List ℕ) → (length bytes == 0) ≡ true → bytes ≡ []
    by_list [] e = refl
    by_list (x ∷ xs) e = let z : length (x ∷ xs) ≡ 0 = eqb-true (length (x ∷ xs)) 0 e in absurd (omega arith)

-- without the bytes again the blocks are as they were
pub unfilled : (bs : List Fetched) (at : ℕ) (p : Ptr) (bytes : List ℕ) → next_missing bs ≡ Some (at, p) → filled (filled bs at p bytes) at p [] ≡ bs
unfilled [] at p bytes h = absurd (cc h)
unfilled (b ∷ bs) at p bytes h = elim (cases_at b bs at p h) [
  | inl x ↦
      let same : (record { ptr = p; bytes = [] }) ≡ b = λ i. record { ptr = (sym x.ptr) i; bytes = (sym (none_bytes b x.missing)) i } in
      ap (λ (z : List Fetched). filled z at p []) (filled_first b bs at p bytes x.first)
      ∙ (filled_first (record { ptr = p; bytes = bytes }) bs at p [] x.first ∙ ap (λ (z : Fetched). z ∷ bs) same)
  | inr y ↦
      ap (λ (z : List Fetched). filled z at p []) (filled_cons b bs at y.place p bytes y.next)
      ∙ (filled_cons b (filled bs y.place p bytes) at y.place p [] y.next ∙ ap (λ (z : List Fetched). b ∷ z) (unfilled bs y.place p bytes y.found))
]

slot_first : (room : ℕ) (w : Ptr) (b : Fetched) (p : Ptr) (bytes : List ℕ) → IsSlot room w b → b.ptr ≡ p → length bytes ≡ p.len → IsSlot room w (record { ptr = p; bytes = bytes })
slot_first room w b p bytes s same long =
    let q : p ≡ w = sym same ∙ s.is_from in
    record { is_from = q; long = λ _. long ∙ ap (λ (z : Ptr). z.len) q; some = s.some; within = s.within }

-- the blocks are still those that are wanted
pub slots_filled : (room : ℕ) (ws : List Ptr) (bs : List Fetched) (at : ℕ) (p : Ptr) (bytes : List ℕ) → AreSlots room ws bs → next_missing bs ≡ Some (at, p) → length bytes ≡ p.len
    → AreSlots room ws (filled bs at p bytes)
slots_filled room ws [] at p bytes s h long = absurd (cc h)
slots_filled room [] (b ∷ bs) at p bytes s h long = absurd s
slots_filled room (w ∷ ws) (b ∷ bs) at p bytes s h long = elim (cases_at b bs at p h) [
  | inl x ↦ subst (AreSlots room (w ∷ ws)) (sym (filled_first b bs at p bytes x.first)) (slot_first room w b p bytes s.0 x.ptr long, s.1)
  | inr y ↦ subst (AreSlots room (w ∷ ws)) (sym (filled_cons b bs at y.place p bytes y.next)) (s.0, slots_filled room ws bs y.place p bytes s.1 y.found long)
]

-- the missing block ends within its stripe
pub missing_fits : (room : ℕ) (ws : List Ptr) (bs : List Fetched) (at : ℕ) (p : Ptr) → AreSlots room ws bs → next_missing bs ≡ Some (at, p) → p.offset + p.len ≤ room
missing_fits room ws [] at p s h = absurd (cc h)
missing_fits room [] (b ∷ bs) at p s h = absurd s
missing_fits room (w ∷ ws) (b ∷ bs) at p s h = elim (cases_at b bs at p h) [
  | inl x ↦ subst (λ (z : Ptr). z.offset + z.len ≤ room) (sym s.0.is_from ∙ x.ptr) s.0.within
  | inr y ↦ missing_fits room ws bs y.place p s.1 y.found
]

-- the missing block has some bytes
pub missing_some : (room : ℕ) (ws : List Ptr) (bs : List Fetched) (at : ℕ) (p : Ptr) → AreSlots room ws bs → next_missing bs ≡ Some (at, p) → 0 < p.len
missing_some room ws [] at p s h = absurd (cc h)
missing_some room [] (b ∷ bs) at p s h = absurd s
missing_some room (w ∷ ws) (b ∷ bs) at p s h = elim (cases_at b bs at p h) [
  | inl x ↦ subst (λ (z : Ptr). 0 < z.len) (sym s.0.is_from ∙ x.ptr) s.0.some
  | inr y ↦ missing_some room ws bs y.place p s.1 y.found
]

none_here : (b : Fetched) (bs : List Fetched) (t : Bool) (found : Option (ℕ × Ptr)) → is_missing b ≡ t → next_missing bs ≡ found → next_missing (b ∷ bs) ≡ None → (is_missing b ≡ false) × (next_missing bs ≡ None)
none_here b bs true found e f h = absurd (cc (rw e at h))
none_here b bs false None e f h = (e, f)
none_here b bs false (Some m) e f h = let g : shifted 1 (next_missing bs) ≡ None = rw e at h in absurd (cc (rw f at g))

-- where none is missing, all were fetched
pub all_fetched : (room : ℕ) (ws : List Ptr) (bs : List Fetched) → AreSlots room ws bs → next_missing bs ≡ None → AreFetched ws bs
all_fetched room [] [] s h = tt
all_fetched room [] (b ∷ bs) s h = absurd s
all_fetched room (w ∷ ws) [] s h = absurd s
all_fetched room (w ∷ ws) (b ∷ bs) s h =
    let two : (is_missing b ≡ false) × (next_missing bs ≡ None) = none_here b bs (is_missing b) (next_missing bs) refl refl h in
    (record { is_from = s.0.is_from; long = s.0.long two.0 }, all_fetched room ws bs s.1 two.1)

long_or_none : (p : Ptr) (found : Option (List ℕ)) → (length (or_none p found) == 0) ≡ false → length (or_none p found) ≡ p.len
long_or_none p None e = absurd (cc e)
long_or_none p (Some bytes) e = by_test p bytes (length bytes == p.len) refl e
  where
    by_test : (p : Ptr) (bytes : List ℕ) (t : Bool) → (length bytes == p.len) ≡ t → (length (or_none p (Some bytes)) == 0) ≡ false → length (or_none p (Some bytes)) ≡ p.len
    by_test p bytes true t e = rw t (grind (arith))
    by_test p bytes false t e = absurd (cc (rw t at e))

-- what is in a cache of the blocks that are wanted
pub first_slots : (room : ℕ) (cache : SeenCache) (ws : List Ptr) → All (λ (p : Ptr). 0 < p.len) ws → All (λ (p : Ptr). p.offset + p.len ≤ room) ws → AreSlots room ws (slots_of cache ws)
first_slots room cache [] some fits = tt
first_slots room cache (w ∷ ws) some fits = (
  record { is_from = refl; long = long_or_none w (bytes_under w cache.entries); some = some 0 w (omega arith); within = fits 0 w (omega arith) },
  first_slots room cache ws (λ k x below. some (suc k) x (omega arith)) (λ k x below. fits (suc k) x (omega arith)),
)
