-- The old blocks that a batch or a read wants: those that are there.
use Rattle.std.proofs.Common.{◌≡◌, ℕ, zero, suc, ◌+◌, Bool, true, false, List, [], ◌∷◌, length, Option, Some, None, refl, sym, ap, ◌∙◌, subst}
use Rattle.std.specs.Prelude.{◌==◌, if◌then◌else◌}
use Rattle.std.specs.List.{AllByRecursion}
use Rattle.zb_types.specs.declared.ids.Ptr.{Ptr}
use Rattle.zb_cache.specs.Entries.{SeenCache, bytes_under}
use Rattle.zb_basis.specs.declared.basis.Fetched.{Fetched}
use Rattle.zb_work.specs.Blocks.{AreSlots, filled, is_missing, next_missing, or_none, shifted, slot_of, slots_of, there}
use Rattle.zb_forming_laws.specs.Resting.{pairs_of}
use Rattle.zb_client_laws.proofs.Caching.{found_each}

-- ---- none is missing

module _ (b : Fetched) (bs : List Fetched) where
  none_by : (t : Bool) (found : Option (ℕ × Ptr)) → is_missing b ≡ t → next_missing bs ≡ found → next_missing (b ∷ bs) ≡ None → (is_missing b ≡ false) × (next_missing bs ≡ None)
  none_by true found e f h = absurd (cc (rw e at h))
  none_by false None e f h = (e, f)
  none_by false (Some m) e f h = let g : shifted 1 (next_missing bs) ≡ None = rw e at h in absurd (cc (rw f at g))

  pub none_missing : next_missing (b ∷ bs) ≡ None → (is_missing b ≡ false) × (next_missing bs ≡ None)
  none_missing h = none_by (is_missing b) (next_missing bs) refl refl h

-- then all are there
pub all_there : (bs : List Fetched) → next_missing bs ≡ None → there bs ≡ pairs_of bs
all_there [] h = refl
all_there (b ∷ bs) h =
    let two = none_missing b bs h in
    ap (λ (t : Bool). if t then there bs else (b.ptr, b.bytes) ∷ there bs) two.0 ∙ ap (λ (rest : List (Ptr × List ℕ)). (b.ptr, b.bytes) ∷ rest) (all_there bs two.1)

-- ---- one is missing

-- the block that is missing is wanted
module _ (Q : Ptr → Type 0) where
  missing_by : (w : Ptr) (b : Fetched) (bs : List Fetched) (at : ℕ) (p : Ptr) (t : Bool) (found : Option (ℕ × Ptr)) → is_missing b ≡ t → next_missing bs ≡ found
      → b.ptr ≡ w → Q w → ((k : ℕ) → next_missing bs ≡ Some (k, p) → Q p) → next_missing (b ∷ bs) ≡ Some (at, p) → Q p
  missing_by w b bs at p true found e f is own rest h =
      let g : Some (0, b.ptr) ≡ Some (at, p) = rw e at h in
      subst Q (sym is ∙ ap (ptr_or p) g) own where
        ptr_or : Ptr → Option (ℕ × Ptr) → Ptr
        ptr_or p None = p
        ptr_or p (Some m) = m.1
  missing_by w b bs at p false None e f is own rest h = let g : shifted 1 (next_missing bs) ≡ Some (at, p) = rw e at h in absurd (cc (rw f at g))
  missing_by w b bs at p false (Some m) e f is own rest h =
      let g : shifted 1 (next_missing bs) ≡ Some (at, p) = rw e at h in
      let g2 : Some (m.0 + 1, m.1) ≡ Some (at, p) = rw f at g in
      rest m.0 (f ∙ ap (λ (q : Ptr). Some (m.0, q)) (ap (ptr_or p) g2)) where
        ptr_or : Ptr → Option (ℕ × Ptr) → Ptr
        ptr_or p None = p
        ptr_or p (Some m) = m.1

  pub missing_each : (room : ℕ) (ws : List Ptr) (bs : List Fetched) (at : ℕ) (p : Ptr) → AreSlots room ws bs → AllByRecursion Q ws → next_missing bs ≡ Some (at, p) → Q p
  missing_each room ws [] at p s all h = absurd (cc h)
  missing_each room [] (b ∷ bs) at p s all h = absurd s
  missing_each room (w ∷ ws) (b ∷ bs) at p s all h =
      missing_by w b bs at p (is_missing b) (next_missing bs) refl refl s.0.is_from all.0 (λ k e. missing_each room ws bs k p s.1 all.1 e) h

-- ---- what holds of each block that is there

module _ (P : Ptr × List ℕ → Type 0) where
  -- a block more, or other bytes of one
  there_by : (b : Fetched) (rest : List (Ptr × List ℕ)) (t : Bool) → P (b.ptr, b.bytes) → AllByRecursion P rest → AllByRecursion P (if t then rest else (b.ptr, b.bytes) ∷ rest)
  there_by b rest true own all = all
  there_by b rest false own all = (own, all)

  tail_by : (b : Fetched) (rest : List (Ptr × List ℕ)) (t : Bool) → AllByRecursion P (if t then rest else (b.ptr, b.bytes) ∷ rest) → AllByRecursion P rest
  tail_by b rest true all = all
  tail_by b rest false all = all.1

  tail_on : (b : Fetched) (rest more : List (Ptr × List ℕ)) (t : Bool) → (AllByRecursion P rest → AllByRecursion P more)
      → AllByRecursion P (if t then rest else (b.ptr, b.bytes) ∷ rest) → AllByRecursion P (if t then more else (b.ptr, b.bytes) ∷ more)
  tail_on b rest more true f all = f all
  tail_on b rest more false f all = (all.0, f all.1)

  pub there_filled : (bs : List Fetched) (at : ℕ) (p : Ptr) (bytes : List ℕ) → P (p, bytes) → AllByRecursion P (there bs) → AllByRecursion P (there (filled bs at p bytes))
  there_filled [] at p bytes own all = tt
  there_filled (b ∷ bs) zero p bytes own all =
      there_by (record { ptr = p; bytes = bytes }) (there bs) (is_missing (record { ptr = p; bytes = bytes })) own (tail_by b (there bs) (is_missing b) all)
  there_filled (b ∷ bs) (suc k) p bytes own all = tail_on b (there bs) (there (filled bs k p bytes)) (is_missing b) (λ rest. there_filled bs k p bytes own rest) all

  -- what a cache has under a pointer
  slot_by : (cache : SeenCache) (p : Ptr) (under : Option (List ℕ)) → bytes_under p cache.entries ≡ under → AllByRecursion P cache.entries
      → is_missing (record { ptr = p; bytes = or_none p under }) ≡ false → P (p, or_none p under)
  slot_by cache p None e all there = absurd (cc there)
  slot_by cache p (Some bytes) e all there = long (length bytes == p.len) refl where
    long : (t : Bool) → (length bytes == p.len) ≡ t → P (p, (if length bytes == p.len then bytes else []))
    long true is = subst (λ (b : Bool). P (p, (if b then bytes else []))) (sym is) (found_each P p bytes cache.entries all e)
    long false is = absurd (cc (rw is at there))

  slots_by : (cache : SeenCache) (p : Ptr) (rest : List (Ptr × List ℕ)) (t : Bool) → is_missing (slot_of cache.entries p) ≡ t → AllByRecursion P cache.entries → AllByRecursion P rest
      → AllByRecursion P (if t then rest else ((slot_of cache.entries p).ptr, (slot_of cache.entries p).bytes) ∷ rest)
  slots_by cache p rest true e all more = more
  slots_by cache p rest false e all more = (slot_by cache p (bytes_under p cache.entries) refl all e, more)

  pub there_cached : (cache : SeenCache) (ws : List Ptr) → AllByRecursion P cache.entries → AllByRecursion P (there (slots_of cache ws))
  there_cached cache [] all = tt
  there_cached cache (p ∷ ws) all = slots_by cache p (there (slots_of cache ws)) (is_missing (slot_of cache.entries p)) refl all (there_cached cache ws all)
