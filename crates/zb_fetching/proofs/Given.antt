-- What the servers give of a stripe that they hold.
use Rattle.std.proofs.Common.{◌≡◌, ℕ, ◌+◌, ◌*◌, ◌/◌, ◌%◌, ◌<◌, ◌≤◌, Bool, true, false, cond, eqb, List, [], length, take, drop, get_or, Option, Some, None, bit_xor, sym, ap, ◌∙◌, refl, inl, inr, arith}
use Rattle.std.proofs.lemmas.Bool.{cases_Bool, eq-eqb, false≢true}
use Rattle.std.proofs.lemmas.Nat.{div-add-mod', mod_below, div_below}
use Rattle.std.proofs.lemmas.List.{get_or-take, get_or-drop, length-take-le, take-take, ext_get_or}
use Rattle.std.proofs.lemmas.List.FromFn.{length-map-range_with_len, get_or-map-range_with_len}
use Rattle.zb_types.specs.Bytes.{first_bytes}
use Rattle.zb_holding.specs.Fragments.{Fragment, share_fragment, parity_fragment}
use Rattle.zb_holding.specs.Placing.{share_length, share_of}
use Rattle.zb_holding.specs.Exclusive.{xor_at}
use Rattle.zb_holding.specs.Holding.{share_bytes, Begins, covered, ParityHolds, FragmentsHold}
use Rattle.zb_holding.proofs.Exclusives.{xor_same, xor_without, without}
use Rattle.zb_stripe_laws.specs.Restoring.{cut_to, lengths_in}
use Rattle.zb_stripe_laws.proofs.Agreeing.{begins_at}
use Rattle.zb_fetching.specs.Bytes.{parity_bytes, restored_byte, given_byte}

-- what stands of a share is what the parity covers of it
cut_covers : (o : Option Fragment) (bytes : List ℕ) (n : ℕ) → Begins o bytes → n ≤ length (share_bytes o) → take n (share_bytes o) ≡ take n bytes
cut_covers None bytes n b le =
    let none : n ≡ 0 = omega arith in
    ap (λ (k : ℕ). take k []) none ∙ ap (λ (k : ℕ). take k bytes) (sym none)
cut_covers (Some (share_fragment s)) bytes n b le = ap (take n) b.1 ∙ take-take n (length s) bytes le
cut_covers (Some (parity_fragment lengths parity)) bytes n b le = absurd b

-- two lists that stand in for none at one place are one there where they are elsewhere
beside : (b : Bool) (one other : List ℕ) (y : ℕ) → (b ≡ false → one ≡ other) → get_or (cond b [] one) y 0 ≡ get_or (cond b [] other) y 0
beside true one other y same = refl
beside false one other y same = ap (λ z. get_or z y 0) (same refl)

module _ (m f : ℕ) (stands : ℕ → Option Fragment) (away : ℕ → Bool) (end : ℕ) (bytes : List ℕ)
    (once : (j k : ℕ) → j < m + 1 → k < m + 1 → away j ≡ true → away k ≡ true → j ≡ k)
    (h : FragmentsHold m f stands away end bytes) where
  -- a byte of a share whose server doesn't serve, by the parity that stands
  by_parity : (k y : ℕ) → k < m → away k ≡ true → y < share_length f end k → (p : Option Fragment) → ParityHolds m f stands away end bytes p
      → bit_xor (get_or (parity_bytes p) y 0) (xor_at (λ j. cond (eqb j k) [] (cut_to stands (lengths_in p) j)) m y) ≡ get_or (share_of f bytes k) y 0
  by_parity k y km gone yl None holds = absurd holds
  by_parity k y km gone yl (Some (share_fragment s)) holds = absurd holds
  by_parity k y km gone yl (Some (parity_fragment lengths parity)) holds =
      let enough = holds.enough k km in
      let others : xor_at (λ j. cond (eqb j k) [] (cut_to stands lengths j)) m y ≡ xor_at (without (covered f bytes lengths) k) m y =
      xor_same (λ j. cond (eqb j k) [] (cut_to stands lengths j)) (without (covered f bytes lengths) k) m y (λ j jm.
      beside (eqb j k) (cut_to stands lengths j) (covered f bytes lengths j) y (λ ne.
      let here : away j ≡ false = elim (cases_Bool (away j)) as (λ _. away j ≡ false) [ inl t ↦ absurd (false≢true (sym ne ∙ eq-eqb j k (once j k (omega arith) (omega arith) t gone))) | inr t ↦ t ] in
      cut_covers (stands j) (share_of f bytes j) (get_or lengths j 0) (h.shares j jm here).begins (holds.stored j jm here))) in
      ap (λ z. bit_xor (get_or parity y 0) z) others
      ∙ ap (λ z. bit_xor z (xor_at (without (covered f bytes lengths) k) m y)) (holds.exclusive y)
      ∙ xor_without (covered f bytes lengths) k m y km
      ∙ get_or-take (get_or lengths k 0) (share_of f bytes k) y 0 (omega arith)

  -- a byte of a share, from its own server or by the parity
  given_one : (k y : ℕ) → k < m → y < share_length f end k → given_byte stands away m k y ≡ get_or (share_of f bytes k) y 0
  given_one k y km yl =
      elim (cases_Bool (away k)) [
        | inl gone ↦
            let there : away m ≡ false = elim (cases_Bool (away m)) as (λ _. away m ≡ false) [ inl t ↦ absurd (omega (arith, once m k (omega arith) (omega arith) t gone)) | inr t ↦ t ] in
            ap (λ (b : Bool). cond b (restored_byte stands m k y) (get_or (share_bytes (stands k)) y 0)) gone ∙ by_parity k y km gone yl (stands m) (h.parity there)
        | inr here ↦
            let share = h.shares k km here in
            let reaches = share.reaches in
            ap (λ (b : Bool). cond b (restored_byte stands m k y) (get_or (share_bytes (stands k)) y 0)) here
            ∙ sym (begins_at (stands k) (share_of f bytes k) y share.begins (omega arith))
      ]

  pub given_are : 0 < f → first_bytes end (λ i. given_byte stands away m (i / f) (i % f)) ≡ take end bytes
  given_are pos =
      let whole = h.whole in
      let room = h.room in
      let byte = λ (i : ℕ). given_byte stands away m (i / f) (i % f) in
      let long = length-map-range_with_len byte 0 end in
      ext_get_or 0 (first_bytes end byte) (take end bytes) (long ∙ sym (length-take-le end bytes whole)) (λ i l.
      let here : i < end = omega (arith, long) in
      let parts = div-add-mod' i f in
      let below = mod_below i f pos in
      let share = div_below i f m pos (omega arith) in
      get_or-map-range_with_len byte 0 end i i 0 here (omega arith)
      ∙ given_one (i / f) (i % f) share (omega arith)
      ∙ get_or-take f (drop (i / f * f) bytes) (i % f) 0 below ∙ get_or-drop (i / f * f) bytes (i % f) 0 ∙ ap (λ z. get_or bytes z 0) parts
      ∙ sym (get_or-take end bytes i 0 here))
