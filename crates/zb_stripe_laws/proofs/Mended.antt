-- A stripe whose missing fragment was restored holds, whichever server is missing.
use Rattle.std.proofs.Common.{◌≡◌, ◌≢◌, ℕ, ◌<◌, ◌≤◌, Bool, false, eqb, List, length, take, map, get_or, Option, Some, None, refl, sym, ap, ◌∙◌, subst, inl, inr, arith}
use Rattle.std.specs.Prelude.{slice_index, if◌then◌else◌}
use Rattle.std.specs.List.{range_with_len}
use Rattle.std.proofs.lemmas.Bool.{cases_eq, cases_lt, cond_both, eq-eqb, ne_eqb, eqb-true, eqb-false}
use Rattle.std.proofs.lemmas.List.{length-take-le, get_or_past, length-take}
use Rattle.std.proofs.lemmas.List.FromFn.{length-map-range_with_len, get_or-map-range_with_len}
use Rattle.zb_holding.specs.Fragments.{Fragment}
use Rattle.zb_holding.specs.Fragments.{share_fragment, parity_fragment}
use Rattle.zb_holding.specs.Exclusive.{xor_at, greatest}
use Rattle.zb_holding.specs.Placing.{share_of, share_length}
use Rattle.zb_holding.specs.Holding.{share_bytes, Begins, ShareHolds, ParityHolds, FragmentsHold}
use Rattle.zb_holding.proofs.Exclusives.{xor_past, le_greatest}
use Rattle.zb_holding.proofs.Shares.{length-share_of}
use Rattle.zb_stripe_laws.specs.Restoring.{share_or_none, end_lengths, end_parity, with_index, lengths_in}

begins_take : (n : ℕ) (bytes : List ℕ) → n ≤ length bytes → Begins (share_or_none (take n bytes)) bytes
begins_take n bytes le = cond_both (eqb (length (take n bytes)) 0) None (Some (share_fragment (take n bytes))) (λ o. Begins o bytes)
    (λ z. tt) (λ f. let some = eqb-false (length (take n bytes)) 0 f in (omega arith, ap (λ m. take m bytes) (sym (length-take-le n bytes le))))

length_restored : (bytes : List ℕ) → length (share_bytes (share_or_none bytes)) ≡ length bytes
length_restored bytes = cond_both (eqb (length bytes) 0) None (Some (share_fragment bytes)) (λ o. length (share_bytes o) ≡ length bytes)
    (λ z. sym (eqb-true (length bytes) 0 z)) (λ f. refl)

module _ (m f : ℕ) (view : ℕ → Option Fragment) (away : ℕ → Bool) (end : ℕ) (bytes : List ℕ) where
  -- more may be away
  pub holds_away : (more : ℕ → Bool) → ((k : ℕ) → more k ≡ false → away k ≡ false) → FragmentsHold m f view away end bytes → FragmentsHold m f view more end bytes
  holds_away more weaker h = record {
    whole = h.whole;
    room = h.room;
    shares = λ k l a. let s = h.shares k l (weaker k a) in record { begins = s.begins; reaches = s.reaches };
    parity = λ a. parity_away (view m) (h.parity (weaker m a));
  } where
    parity_away : (o : Option Fragment) → ParityHolds m f view away end bytes o → ParityHolds m f view more end bytes o
    parity_away None c = c
    parity_away (Some (share_fragment s)) c = c
    parity_away (Some (parity_fragment lengths parity)) c = record { count = c.count; enough = c.enough; within = c.within; stored = λ k l a. c.stored k l (weaker k a); exclusive = c.exclusive; longest = c.longest }

  module _ (h : FragmentsHold m f view away end bytes) (j : ℕ) (only : (k : ℕ) → k ≢ j → away k ≡ false) where
    at_restored : (o : Option Fragment) (P : Option Fragment → Type 0) (k : ℕ) → k ≡ j → P o → P (with_index view j o k)
    at_restored o P k e q = subst (λ (b : Bool). P (if b then o else view k)) (sym (eq-eqb j k (sym e))) q

    at_other : (o : Option Fragment) (P : Option Fragment → Type 0) (k : ℕ) → k ≢ j → P (view k) → P (with_index view j o k)
    at_other o P k ne q = subst (λ (b : Bool). P (if b then o else view k)) (sym (ne_eqb j k (λ e. ne (sym e)))) q

    other_share : (o : Option Fragment) (k : ℕ) → k < m → k ≢ j → ShareHolds m f (with_index view j o) (λ k. false) end bytes k
    other_share o k l ne =
        let s = h.shares k l (only k ne) in
        record {
          begins = at_other o (λ z. Begins z (share_of f bytes k)) k ne s.begins;
          reaches = at_other o (λ z. share_length f end k ≤ length (share_bytes z)) k ne s.reaches;
        }

    -- a low share, restored to the length that the parity covers
    module _ (low : j < m) where
      restored : (o : Option Fragment) → view m ≡ o → ParityHolds m f view away end bytes o
          → FragmentsHold m f (with_index view j (share_or_none (take (slice_index (lengths_in o) j) (share_of f bytes j)))) (λ k. false) end bytes
      restored None e c = absurd c
      restored (Some (share_fragment s)) e c = absurd c
      restored (Some (parity_fragment lengths parity)) e c =
          let n = slice_index lengths j in
          let r = share_or_none (take n (share_of f bytes j)) in
          let len : length (share_bytes r) ≡ n = length_restored (take n (share_of f bytes j)) ∙ length-take-le n (share_of f bytes j) (c.within j low) in
          record {
            whole = h.whole;
            room = h.room;
            shares = λ k l a. elim (cases_eq k j) as (λ _. ShareHolds m f (with_index view j r) (λ k. false) end bytes k) [
              | inr ne ↦ other_share r k l ne
              | inl same ↦
                  let reach = c.enough j low in
                  subst (λ (z : ℕ). ShareHolds m f (with_index view j r) (λ k. false) end bytes z) (sym same) (record {
                    begins = at_restored r (λ z. Begins z (share_of f bytes j)) j refl (begins_take n (share_of f bytes j) (c.within j low));
                    reaches = at_restored r (λ z. share_length f end j ≤ length (share_bytes z)) j refl (omega arith);
                  })
            ];
            parity = λ a. at_other r (ParityHolds m f (with_index view j r) (λ k. false) end bytes) m (λ e'. omega arith)
                (subst (ParityHolds m f (with_index view j r) (λ k. false) end bytes) (sym e) (record {
                  count = c.count;
                  enough = c.enough;
                  within = c.within;
                  stored = λ k l a'. elim (cases_eq k j) as (λ _. slice_index lengths k ≤ length (share_bytes (with_index view j r k))) [
                    | inr ne ↦ at_other r (λ z. slice_index lengths k ≤ length (share_bytes z)) k ne (c.stored k l (only k ne))
                    | inl same ↦ at_restored r (λ z. slice_index lengths k ≤ length (share_bytes z)) k same (let at = ap (slice_index lengths) same in omega arith)
                  ];
                  exclusive = c.exclusive;
                  longest = c.longest;
                }));
          }

      pub share_restored : FragmentsHold m f (with_index view j (share_or_none (take (slice_index (lengths_in (view m)) j) (share_of f bytes j)))) (λ k. false) end bytes
      share_restored = restored (view m) refl (h.parity (only m (λ e. omega arith)))

    length_at : (k : ℕ) → k < m → get_or (end_lengths m f end) k 0 ≡ share_length f end k
    length_at k l = get_or-map-range_with_len (share_length f end) 0 m k k 0 l (omega arith)

    abbrev Cut : ℕ → List ℕ
    Cut k = take (slice_index (end_lengths m f end) k) (share_of f bytes k)

    abbrev Top : ℕ
    Top = greatest (end_lengths m f end)

    parity_byte : (y : ℕ) → get_or (map (xor_at Cut m) (range_with_len 0 Top)) y 0 ≡ xor_at Cut m y
    parity_byte y = elim (cases_lt y Top) [
      | inl l ↦ get_or-map-range_with_len (xor_at Cut m) 0 Top y y 0 l (omega arith)
      | inr past ↦
          get_or_past (map (xor_at Cut m) (range_with_len 0 Top)) y 0 (omega (arith, length-map-range_with_len (xor_at Cut m) 0 Top))
          ∙ sym (xor_past Cut m y (λ k l. omega (arith, length-take (slice_index (end_lengths m f end) k) (share_of f bytes k), le_greatest (end_lengths m f end) k)))
    ]

    -- the parity, made over the committed end
    pub parity_restored : j ≡ m → FragmentsHold m f (with_index view j (end_parity m f end bytes)) (λ k. false) end bytes
    parity_restored is =
        let r = end_parity m f end bytes in
        record {
          whole = h.whole;
          room = h.room;
          shares = λ k l a. other_share r k l (λ e. omega arith);
          parity = λ a. at_restored r (ParityHolds m f (with_index view j r) (λ k. false) end bytes) m (sym is) (record {
            count = length-map-range_with_len (share_length f end) 0 m;
            enough = λ k l. omega (arith, length_at k l);
            within = λ k l. let w = h.whole in omega (arith, length_at k l, length-share_of f bytes k);
            stored = λ k l a'. let s = other_share r k l (λ e. omega arith) in let reach = s.reaches in omega (arith, length_at k l);
            exclusive = parity_byte;
            longest = length-map-range_with_len (xor_at Cut m) 0 Top;
          });
        }
