-- What the requests of a part keep.
use Rattle.std.proofs.Common.{◌≡◌, ◌⊎◌, ℕ, zero, suc, ◌-◌, ◌*◌, ◌<◌, ◌≤◌, Bool, false, eqb, List, [], ◌∷◌, ◌++◌, length, take, get_or, Option, Some, None, refl, sym, ap, ◌∙◌, subst, inl, inr, arith}
use Rattle.std.proofs.lemmas.Bool.{cases_lt, false≢true, cond_both}
use Rattle.std.proofs.lemmas.List.{length-take, length-append, take_all, take-append-le, get_or_past}
use Rattle.std.proofs.lemmas.List.FromFn.{length-map-range_with_len, get_or-map-range_with_len}
use Rattle.zb_types.specs.declared.ids.LogId.{LogId}
use Rattle.zb_types.specs.declared.ids.ServerId.{ServerId}
use Rattle.zb_holding.specs.Fragments.{Fragment}
use Rattle.zb_holding.specs.Fragments.{share_fragment, parity_fragment}
use Rattle.zb_types.specs.declared.nodes.Class.{Class}
use Rattle.zb_types.specs.declared.requests.Request.{Request}
use Rattle.zb_types.specs.declared.requests.Request.TheVariants as ask
use Rattle.zb_holding.specs.Exclusive.{xor_at, greatest}
use Rattle.zb_holding.specs.Placing.{share_length, share_of, frag_id, server_of}
use Rattle.zb_holding.specs.Holding.{Maps, share_bytes, Begins, covered, ShareHolds, CoversShares, ParityHolds, FragmentsHold, StripeHolds, is_away, standing, away_at, view_of}
use Rattle.zb_holding.specs.Carrying.{carried_all}
use Rattle.zb_holding.proofs.Exclusives.{xor_same, xor_past, le_greatest}
use Rattle.zb_stripe.specs.declared.flush.Part.{Part}
use Rattle.zb_stripe.specs.Writing.{new_bytes, share_request, share_requests, lengths_of, parity_bytes, parity_request, part_requests, IsWritable}
use Rattle.zb_stripe_laws.specs.PartAtWork.{IsSpared, HasBytes, StandsUpTo, IsUnwritten, IsWhole, StripeAtWork}
use Rattle.zb_stripe_laws.proofs.Carrying.{standing-carried, stepped_here, stepped_other, carried-append}
use Rattle.zb_holding.proofs.Shares.{length-share_of, share_of-take}
use Rattle.zb_stripe_laws.proofs.Cutting.{begins_longer, covered-take}
use Rattle.zb_stripe_laws.proofs.Growing.{grows_all, spared_away}

grown_begins : (stands : Option Fragment) (bytes : List ℕ) → IsWhole stands bytes → Begins stands bytes
grown_begins None bytes g = tt
grown_begins (Some (share_fragment old)) bytes g = (g.0, g.1 ∙ sym (ap (λ n. take n bytes) (ap length g.1) ∙ take_all (length bytes) bytes (omega arith)))
grown_begins (Some (parity_fragment lengths parity)) bytes g = absurd g

grown_length : (stands : Option Fragment) (bytes : List ℕ) → IsWhole stands bytes → length (share_bytes stands) ≡ length bytes
grown_length None bytes g = sym g
grown_length (Some (share_fragment old)) bytes g = ap length g.1
grown_length (Some (parity_fragment lengths parity)) bytes g = absurd g

module _ (m f : ℕ) (stands : ℕ → Option Fragment) (away : ℕ → Bool) (low high : ℕ) (bytes : List ℕ) (le : low ≤ high) where
  less_parity : (p : Option Fragment) → ParityHolds m f stands away high bytes p → ParityHolds m f stands away low bytes p
  less_parity None c = c
  less_parity (Some (share_fragment s)) c = c
  less_parity (Some (parity_fragment lengths parity)) c =
      record { count = c.count; enough = λ k l. let e = c.enough k l in omega arith; within = c.within; stored = c.stored; exclusive = c.exclusive; longest = c.longest }

  -- a stripe that is held up to an end is held up to each end before it
  pub holds_less : FragmentsHold m f stands away high bytes → FragmentsHold m f stands away low bytes
  holds_less h =
      let w = h.whole in
      record {
        whole = omega arith;
        room = h.room;
        shares = λ k l a. let s = h.shares k l a in let r = s.reaches in record { begins = s.begins; reaches = omega arith };
        parity = λ a. less_parity (stands m) (h.parity a);
      }

module _ (m f : ℕ) (bytes : List ℕ) (b end : ℕ) (away : ℕ → Bool) (old new : ℕ → Option Fragment) (j : ℕ) (room : length bytes ≤ m * f) (before : b ≤ length bytes) (le : j ≤ m) (g : StripeAtWork f bytes away old new j) where
  grown_parity : (p : Option Fragment) → ParityHolds m f old away end (take b bytes) p → ParityHolds m f new away end bytes p
  grown_parity None c = c
  grown_parity (Some (share_fragment s)) c = c
  grown_parity (Some (parity_fragment lengths parity)) c =
      record {
        count = c.count;
        enough = c.enough;
        within = λ k l. let w = c.within k l in omega (arith, ap length (share_of-take f bytes b k), length-take (share_length f b k) (share_of f bytes k));
        stored = λ k l a. let w = c.within k l in elim (cases_lt k j) [
          | inl done ↦ omega (arith, grown_length (new k) (share_of f bytes k) (g.done k done a), ap length (share_of-take f bytes b k), length-take (share_length f b k) (share_of f bytes k))
          | inr left ↦ subst (λ o. get_or lengths k 0 ≤ length (share_bytes o)) (sym (g.left k left a)) (c.stored k l a)
        ];
        exclusive = λ y. c.exclusive y ∙ xor_same (covered f (take b bytes) lengths) (covered f bytes lengths) m y (λ k l. ap (λ (z : List ℕ). get_or z y 0) (covered-take f bytes lengths b k (c.within k l)));
        longest = c.longest;
      }

  -- while shares grow, what was held stays held
  pub holds_grown : FragmentsHold m f old away end (take b bytes) → end ≤ b → FragmentsHold m f new away end bytes
  holds_grown h eb =
      record {
        whole = omega arith;
        room = room;
        shares = λ k l a. elim (cases_lt k j) [
          | inl done ↦
              let d = g.done k done a in
              record { begins = grown_begins (new k) (share_of f bytes k) d; reaches = omega (arith, grown_length (new k) (share_of f bytes k) d, length-share_of f bytes k) }
          | inr left ↦
              let s = h.shares k l a in
              let same : old k ≡ new k = sym (g.left k left a) in
              record {
                begins = subst (λ o. Begins o (share_of f bytes k)) same (begins_longer (old k) (share_of f bytes k) (share_length f b k) (subst (Begins (old k)) (share_of-take f bytes b k) s.begins));
                reaches = subst (λ o. share_length f end k ≤ length (share_bytes o)) same s.reaches;
              }
        ];
        parity = λ a. subst (ParityHolds m f new away end bytes) (sym (g.left m le a)) (grown_parity (old m) (h.parity a));
      }

module _ (n f : ℕ) (out x : Option ServerId) (class : Class) (log : LogId) (part : Part) (spared : IsSpared out x) (fits : IsWritable ((n - 1) * f) part) where
  abbrev Away : ℕ → Bool
  Away = away_at n x log part.stripe

  abbrev HoldsAll : (ℕ → Option Fragment) → Type 0
  HoldsAll view = FragmentsHold (n - 1) f view Away (length part.bytes) part.bytes

  shares_end : (view : ℕ → Option Fragment) → ((k : ℕ) → k < n - 1 → Away k ≡ false → IsWhole (view k) (share_of f part.bytes k))
      → (k : ℕ) → k < n - 1 → Away k ≡ false → ShareHolds (n - 1) f view Away (length part.bytes) part.bytes k
  shares_end view g k l a = record {
    begins = grown_begins (view k) (share_of f part.bytes k) (g k l a);
    reaches = omega (arith, grown_length (view k) (share_of f part.bytes k) (g k l a), length-share_of f part.bytes k);
  }

  length_at : (k : ℕ) → k < n - 1 → get_or (lengths_of n f part) k 0 ≡ share_length f (length part.bytes) k
  length_at k l = get_or-map-range_with_len (share_length f (length part.bytes)) 0 (n - 1) k k 0 l (omega arith)

  whole_covered : (k : ℕ) → k < n - 1 → covered f part.bytes (lengths_of n f part) k ≡ share_of f part.bytes k
  whole_covered k l = take_all (get_or (lengths_of n f part) k 0) (share_of f part.bytes k) (omega (arith, length_at k l, length-share_of f part.bytes k))

  parity_byte : (y : ℕ) → get_or (parity_bytes n f part) y 0 ≡ xor_at (share_of f part.bytes) (n - 1) y
  parity_byte y =
      let top = greatest (lengths_of n f part) in
      elim (cases_lt y top) [
        | inl here ↦ get_or-map-range_with_len (xor_at (share_of f part.bytes) (n - 1)) 0 top y y 0 here (omega arith)
        | inr past ↦
            get_or_past (parity_bytes n f part) y 0 (omega (arith, length-map-range_with_len (xor_at (share_of f part.bytes) (n - 1)) 0 top))
            ∙ sym (xor_past (share_of f part.bytes) (n - 1) y (λ k l. omega (arith, length-share_of f part.bytes k, length_at k l, le_greatest (lengths_of n f part) k)))
      ]

  covers_end : (view : ℕ → Option Fragment) → ((k : ℕ) → k < n - 1 → Away k ≡ false → IsWhole (view k) (share_of f part.bytes k))
      → CoversShares (n - 1) f view Away (length part.bytes) part.bytes (lengths_of n f part) (parity_bytes n f part)
  covers_end view g = record {
    count = length-map-range_with_len (share_length f (length part.bytes)) 0 (n - 1);
    enough = λ k l. omega (arith, length_at k l);
    within = λ k l. omega (arith, length_at k l, length-share_of f part.bytes k);
    stored = λ k l a. omega (arith, length_at k l, length-share_of f part.bytes k, grown_length (view k) (share_of f part.bytes k) (g k l a));
    exclusive = λ y. parity_byte y ∙ xor_same (share_of f part.bytes) (covered f part.bytes (lengths_of n f part)) (n - 1) y (λ k l. ap (λ (z : List ℕ). get_or z y 0) (sym (whole_covered k l)));
    longest = length-map-range_with_len (xor_at (share_of f part.bytes) (n - 1)) 0 (greatest (lengths_of n f part));
  }

  -- after all shares and their parity
  pub holds_end : (maps : Maps) → ((k : ℕ) → k < n - 1 → Away k ≡ false → IsWhole (standing n maps log part.stripe k) (share_of f part.bytes k))
      → HoldsAll (standing n (carried_all maps (parity_request n f out class log part)) log part.stripe)
  holds_end maps g =
      let id = frag_id log part.stripe (n - 1) in
      let request = ask.Parity id (lengths_of n f part) (parity_bytes n f part) class in
      let room = fits.room in
      cond_both (is_away out (server_of n id)) [] ((server_of n id, request) ∷ []) (λ rs. HoldsAll (standing n (carried_all maps rs) log part.stripe))
      (λ gone. record {
        whole = omega arith;
        room = room;
        shares = shares_end (standing n maps log part.stripe) g;
        parity = λ a. absurd (false≢true (sym a ∙ spared_away out x (server_of n id) spared gone));
      })
      (λ here.
      let view = standing n (carried_all maps ((server_of n id, request) ∷ [])) log part.stripe in
      let at = standing-carried n maps log part.stripe (n - 1) request (λ q. refl) in
      let grown = λ (k : ℕ) (l : k < n - 1) (a : Away k ≡ false).
      subst (λ o. IsWhole o (share_of f part.bytes k)) (sym (at k ∙ stepped_other (standing n maps log part.stripe) (n - 1) request k (λ e. omega arith))) (g k l a) in
      record {
        whole = omega arith;
        room = room;
        shares = shares_end view grown;
        parity = λ a. subst (ParityHolds (n - 1) f view Away (length part.bytes) part.bytes) (sym (at (n - 1) ∙ stepped_here (standing n maps log part.stripe) (n - 1) request)) (covers_end view grown);
      })

  -- one request at most for one identifier
  one_at_most : (k : ℕ) → length (share_request n f out class log part k) ≤ 1
  one_at_most k =
      cond_both (eqb (length (new_bytes f part k)) 0) [] _ (λ rs. length rs ≤ 1) (λ e. omega arith)
      (λ e. cond_both (is_away out (server_of n (frag_id log part.stripe k))) [] _ (λ rs. length rs ≤ 1) (λ e. omega arith) (λ e. omega arith))

  one_parity : length (parity_request n f out class log part) ≤ 1
  one_parity = cond_both (is_away out (server_of n (frag_id log part.stripe (n - 1)))) [] _ (λ rs. length rs ≤ 1) (λ e. omega arith) (λ e. omega arith)

  -- the first requests are those of the first shares
  share_prefix : (i j : ℕ) → (k : ℕ) × (k ≤ j) × (take i (share_requests n f out class log part j) ≡ share_requests n f out class log part k)
  share_prefix i zero = (0, omega arith, take_all i [] (omega arith))
  share_prefix i (suc j) =
      let front = share_requests n f out class log part j in
      let last = share_request n f out class log part j in
      elim (cases_lt (length front) i) as (λ _. (k : ℕ) × (k ≤ suc j) × (take i (front ++ last) ≡ share_requests n f out class log part k)) [
        | inl past ↦ (suc j, omega arith, take_all i (front ++ last) (omega (arith, length-append front last, one_at_most j)))
        | inr within ↦
            let r = share_prefix i j in
            (r.0, let le = r.1 in omega arith, take-append-le i front last within ∙ r.2)
      ]

  -- the first requests of a part are those of the first shares, or all
  pub part_prefix : (i : ℕ) → ((k : ℕ) × (k ≤ n - 1) × (take i (part_requests n f out class log part) ≡ share_requests n f out class log part k)) ⊎ (take i (part_requests n f out class log part) ≡ part_requests n f out class log part)
  part_prefix i =
      let front = share_requests n f out class log part (n - 1) in
      let last = parity_request n f out class log part in
      elim (cases_lt (length front) i) [
        | inl past ↦ inr (take_all i (front ++ last) (omega (arith, length-append front last, one_parity)))
        | inr within ↦ let r = share_prefix i (n - 1) in inl (r.0, r.1, take-append-le i front last within ∙ r.2)
      ]

  -- what the law of a part begins with
  module _ (maps : Maps) where
    abbrev View : ℕ → Option Fragment
    View = standing n maps log part.stripe

    pub whole_holds : ((k : ℕ) → k < n - 1 → Away k ≡ false → HasBytes (View k) (share_length f part.begin k))
        → ((k : ℕ) → k < n - 1 → Away k ≡ false → Begins (View k) (share_of f part.bytes k))
        → HoldsAll (standing n (carried_all maps (part_requests n f out class log part)) log part.stripe)
    whole_holds has begins =
        let g = grows_all n f out x class log part spared View maps (λ k. refl) (n - 1) (n - 1) (omega arith) has begins in
        subst (λ (ms : Maps). HoldsAll (standing n ms log part.stripe))
        (sym (carried-append maps (share_requests n f out class log part (n - 1)) (parity_request n f out class log part)))
        (holds_end (carried_all maps (share_requests n f out class log part (n - 1))) (λ k l a. g.done k l a))

    begins_all : (end : ℕ) → StripeHolds (view_of n f maps x) log part.stripe end (take part.begin part.bytes) → (k : ℕ) → k < n - 1 → Away k ≡ false → Begins (View k) (share_of f part.bytes k)
    begins_all end h k l a = begins_longer (View k) (share_of f part.bytes k) (share_length f part.begin k) (subst (Begins (View k)) (share_of-take f part.bytes part.begin k) (h.shares k l a).begins)

    pub whole_law : (end : ℕ) → StripeHolds (view_of n f maps x) log part.stripe end (take part.begin part.bytes) → StandsUpTo (view_of n f maps x) log part.stripe part.begin
        → HoldsAll (standing n (carried_all maps (part_requests n f out class log part)) log part.stripe)
    whole_law end h s = whole_holds s (begins_all end h)

    pub each_law : (end : ℕ) → end ≤ part.begin → StripeHolds (view_of n f maps x) log part.stripe end (take part.begin part.bytes) → StandsUpTo (view_of n f maps x) log part.stripe part.begin
        → (i : ℕ) → StripeHolds (view_of n f (carried_all maps (take i (part_requests n f out class log part))) x) log part.stripe end part.bytes
    each_law end le h s i =
        let new = fits.new in
        let room = fits.room in
        elim (part_prefix i) [
          | inl r ↦
              subst (λ (rs : List (ServerId × Request)). StripeHolds (view_of n f (carried_all maps rs) x) log part.stripe end part.bytes) (sym r.2)
              (holds_grown (n - 1) f part.bytes part.begin end Away View (standing n (carried_all maps (share_requests n f out class log part r.0)) log part.stripe) r.0 room (omega arith) r.1
              (grows_all n f out x class log part spared View maps (λ k. refl) (n - 1) r.0 r.1 s (begins_all end h)) h le)
          | inr all ↦
              subst (λ (rs : List (ServerId × Request)). StripeHolds (view_of n f (carried_all maps rs) x) log part.stripe end part.bytes) (sym all)
              (holds_less (n - 1) f (standing n (carried_all maps (part_requests n f out class log part)) log part.stripe) Away end (length part.bytes) part.bytes (omega arith) (whole_law end h s))
        ]

    pub fresh_law : part.begin ≡ 0 → IsUnwritten (view_of n f maps x) log part.stripe → HoldsAll (standing n (carried_all maps (part_requests n f out class log part)) log part.stripe)
    fresh_law start none =
        whole_holds
        (λ k l a. subst (λ o. HasBytes o (share_length f part.begin k)) (sym (none k (omega arith) a)) (omega arith))
        (λ k l a. subst (λ o. Begins o (share_of f part.bytes k)) (sym (none k (omega arith) a)) tt)
