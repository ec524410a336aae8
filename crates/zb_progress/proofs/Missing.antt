-- The bytes of the blocks that are missing.
use Rattle.std.proofs.Common.{◌≡◌, ℕ, suc, ◌+◌, ◌*◌, ◌<◌, ◌≤◌, Bool, true, false, List, [], ◌∷◌, length, Option, Some, None, refl, ap, ◌∙◌, subst, arith}
use Rattle.std.specs.Prelude.{◌==◌, if◌then◌else◌}
use Rattle.std.specs.List.{AllByRecursion}
use Rattle.std.proofs.lemmas.Bool.Decides.{nat_tests}
use Rattle.zb_types.specs.declared.ids.Ptr.{Ptr}
use Rattle.zb_basis.specs.declared.basis.Fetched.{Fetched}
use Rattle.zb_cache.specs.Entries.{SeenCache}
use Rattle.zb_work.specs.Blocks.{filled, is_missing, next_missing, shifted, slot_of, slots_of}
use Rattle.zb_progress.specs.Left.{missing_bytes}

abbrev place_or : Option (ℕ × Ptr) → ℕ
place_or None = 0
place_or (Some m) = m.0

abbrev ptr_or : Ptr → Option (ℕ × Ptr) → Ptr
ptr_or p None = p
ptr_or p (Some m) = m.1

not-none : (bytes : List ℕ) → 0 < length bytes → (length bytes == 0) ≡ false
not-none bytes some = grind (arith, nat_tests)

module _ (p : Ptr) (bytes : List ℕ) (some : 0 < length bytes) where
  -- what is missing with these bytes at a place, and without them
  abbrev Fills : List Fetched → ℕ → Type 0
  Fills bs at = missing_bytes (filled bs at p bytes) + p.len ≡ missing_bytes bs

  -- the first block is the one
  fills-first : (b : Fetched) (bs : List Fetched) (at : ℕ) → is_missing b ≡ true → ◌≡◌ {A = Option (ℕ × Ptr)} (Some (0, b.ptr)) (Some (at, p)) → Fills (b ∷ bs) at
  fills-first b bs at e g =
      let len : b.ptr.len ≡ p.len = ap (λ (o : Option (ℕ × Ptr)). (ptr_or p o).len) g in
      let was : missing_bytes (b ∷ bs) ≡ b.ptr.len + missing_bytes bs = ap (λ (t : Bool). (if t then b.ptr.len else 0) + missing_bytes bs) e in
      let now : missing_bytes (filled (b ∷ bs) 0 p bytes) ≡ 0 + missing_bytes bs = ap (λ (t : Bool). (if t then p.len else 0) + missing_bytes bs) (not-none bytes some) in
      subst (Fills (b ∷ bs)) (ap place_or g) (omega (arith, len, was, now))

  -- it stands behind the first
  fills-later : (b : Fetched) (bs : List Fetched) (at k : ℕ) → is_missing b ≡ false → k + 1 ≡ at → Fills bs k → Fills (b ∷ bs) at
  fills-later b bs at k e place inner =
      let next : suc k ≡ at = omega arith in
      let was : missing_bytes (b ∷ bs) ≡ 0 + missing_bytes bs = ap (λ (t : Bool). (if t then b.ptr.len else 0) + missing_bytes bs) e in
      let now : missing_bytes (filled (b ∷ bs) (suc k) p bytes) ≡ 0 + missing_bytes (filled bs k p bytes) = ap (λ (t : Bool). (if t then b.ptr.len else 0) + missing_bytes (filled bs k p bytes)) e in
      subst (Fills (b ∷ bs)) next (omega (arith, inner, was, now))

  fills-by : (b : Fetched) (bs : List Fetched) (at : ℕ) (t : Bool) (found : Option (ℕ × Ptr)) → is_missing b ≡ t → next_missing bs ≡ found
      → ((k : ℕ) → next_missing bs ≡ Some (k, p) → Fills bs k) → next_missing (b ∷ bs) ≡ Some (at, p) → Fills (b ∷ bs) at
  fills-by b bs at true found e f rest h =
      fills-first b bs at e (rw e at h)
  fills-by b bs at false None e f rest h = let g : shifted 1 (next_missing bs) ≡ Some (at, p) = rw e at h in absurd (cc (rw f at g))
  fills-by b bs at false (Some m) e f rest h =
      let g : shifted 1 (next_missing bs) ≡ Some (at, p) = rw e at h in
      let g2 : Some (m.0 + 1, m.1) ≡ Some (at, p) = rw f at g in
      fills-later b bs at m.0 e (ap place_or g2) (rest m.0 (f ∙ ap (λ (q : Ptr). Some (m.0, q)) (ap (ptr_or p) g2)))

  -- the bytes of a missing block are missing no more
  pub missing-filled : (bs : List Fetched) (at : ℕ) → next_missing bs ≡ Some (at, p) → Fills bs at
  missing-filled [] at h = absurd (cc h)
  missing-filled (b ∷ bs) at h = fills-by b bs at (is_missing b) (next_missing bs) refl refl (λ k e. missing-filled bs k e) h

at-most : (t : Bool) (n b : ℕ) → n ≤ b → (if t then n else 0) ≤ b
at-most true n b le = le
at-most false n b le = omega arith

-- blocks of so many pointers, each of at most so many bytes
pub missing-few : (b : ℕ) (cache : SeenCache) (ws : List Ptr) → AllByRecursion (λ (p : Ptr). p.len ≤ b) ws → missing_bytes (slots_of cache ws) ≤ length ws * b
missing-few b cache [] lens = omega arith
missing-few b cache (p ∷ ps) lens =
    let rest = missing-few b cache ps lens.1 in
    let more : length (p ∷ ps) * b ≡ b + length ps * b = grind arith in
    let most = at-most (is_missing (slot_of cache.entries p)) p.len b lens.0 in
    omega (arith, rest, more, most)

-- a block that is missing has at most as many bytes as all
pub missing-one : (p : Ptr) (bytes : List ℕ) (bs : List Fetched) (at : ℕ) → 0 < length bytes → next_missing bs ≡ Some (at, p) → p.len ≤ missing_bytes bs
missing-one p bytes bs at some h = let all = missing-filled p bytes some bs at h in omega (arith, all)
