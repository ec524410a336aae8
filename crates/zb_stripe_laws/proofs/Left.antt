-- What is held remains.
use Rattle.std.proofs.Common.{◌≡◌, ◌⊎◌, ℕ, ◌≤◌, Bool, false, ◌&&◌, cond, List, length, Option, Some, None, refl, inl, inr, subst, sym, arith}
use Rattle.std.proofs.lemmas.Bool.{cond_both}
use Rattle.zb_types.specs.declared.ids.FragId.{FragId}
use Rattle.std.specs.Prelude.{slice_index}
use Rattle.zb_holding.specs.Fragments.{Fragment, share_fragment, parity_fragment}
use Rattle.zb_holding.specs.Placing.{share_of, share_length}
use Rattle.zb_holding.specs.Holding.{share_bytes, Begins, IsGoneOrReaches, ParityHolds, FragmentsHold, ParityRemains, FragmentsRemain}
use Rattle.zb_holding.specs.Carrying.{same_frag}

-- a share that begins as it should and has so many bytes reaches that far
reaches_there : (o : Option Fragment) (bytes : List ℕ) (n : ℕ) → Begins o bytes → n ≤ length (share_bytes o) → IsGoneOrReaches n o
reaches_there None bytes n b le = tt
reaches_there (Some (share_fragment s)) bytes n b le = le
reaches_there (Some (parity_fragment l p)) bytes n b le = absurd b

module _ (m f : ℕ) (stands : ℕ → Option Fragment) (away : ℕ → Bool) (end : ℕ) (bytes : List ℕ) where
  parity_remains : FragmentsHold m f stands away end bytes → (o : Option Fragment) → ParityHolds m f stands away end bytes o → ParityRemains m f stands away end bytes o
  parity_remains h None c = absurd c
  parity_remains h (Some (share_fragment s)) c = absurd c
  parity_remains h (Some (parity_fragment lengths parity)) c = record {
    count = c.count;
    enough = c.enough;
    within = c.within;
    stored = λ k l a. reaches_there (stands k) (share_of f bytes k) (slice_index lengths k) (h.shares k l a).begins (c.stored k l a);
    exclusive = c.exclusive;
    longest = c.longest;
  }

  pub held_remains : FragmentsHold m f stands away end bytes → FragmentsRemain m f stands away end bytes
  held_remains h = record {
    whole = h.whole;
    room = h.room;
    shares = λ k l a. let s = h.shares k l a in record { begins = s.begins; reaches = reaches_there (stands k) (share_of f bytes k) (share_length f end k) s.begins s.reaches };
    parity = λ a. parity_remains h (stands m) (h.parity a);
  }

reaches_none : (n : ℕ) (now before : Option Fragment) → (now ≡ before) ⊎ (now ≡ None) → IsGoneOrReaches n before → IsGoneOrReaches n now
reaches_none n now before (inl same) r = subst (IsGoneOrReaches n) (sym same) r
reaches_none n now before (inr none) r = subst (IsGoneOrReaches n) (sym none) tt

begins_none : (bytes : List ℕ) (now before : Option Fragment) → (now ≡ before) ⊎ (now ≡ None) → Begins before bytes → Begins now bytes
begins_none bytes now before (inl same) b = subst (λ o. Begins o bytes) (sym same) b
begins_none bytes now before (inr none) b = subst (λ o. Begins o bytes) (sym none) tt

-- fragments may be lost
module _ (m f : ℕ) (before now : ℕ → Option Fragment) (away : ℕ → Bool) (end : ℕ) (bytes : List ℕ)
    (same : (k : ℕ) → away k ≡ false → (now k ≡ before k) ⊎ (now k ≡ None)) where
  parity_left : (o : Option Fragment) → ParityRemains m f before away end bytes o → ParityRemains m f now away end bytes o
  parity_left None c = tt
  parity_left (Some (share_fragment s)) c = absurd c
  parity_left (Some (parity_fragment lengths parity)) c = record {
    count = c.count;
    enough = c.enough;
    within = c.within;
    stored = λ k l a. reaches_none (slice_index lengths k) (now k) (before k) (same k a) (c.stored k l a);
    exclusive = c.exclusive;
    longest = c.longest;
  }

  parity_now : (now m ≡ before m) ⊎ (now m ≡ None) → ParityRemains m f before away end bytes (before m) → ParityRemains m f now away end bytes (now m)
  parity_now (inl is) p = subst (ParityRemains m f now away end bytes) (sym is) (parity_left (before m) p)
  parity_now (inr none) p = subst (ParityRemains m f now away end bytes) (sym none) tt

  pub remains_less : FragmentsRemain m f before away end bytes → FragmentsRemain m f now away end bytes
  remains_less h = record {
    whole = h.whole;
    room = h.room;
    shares = λ k l a.
        let s = h.shares k l a in
        record { begins = begins_none (share_of f bytes k) (now k) (before k) (same k a) s.begins; reaches = reaches_none (share_length f end k) (now k) (before k) (same k a) s.reaches };
    parity = λ a. parity_now (same m a) (h.parity a);
  }

-- more may be away
module _ (m f : ℕ) (stands : ℕ → Option Fragment) (away more : ℕ → Bool) (end : ℕ) (bytes : List ℕ) (weaker : (k : ℕ) → more k ≡ false → away k ≡ false) where
  parity_more : (o : Option Fragment) → ParityRemains m f stands away end bytes o → ParityRemains m f stands more end bytes o
  parity_more None c = tt
  parity_more (Some (share_fragment s)) c = absurd c
  parity_more (Some (parity_fragment lengths parity)) c = record {
    count = c.count;
    enough = c.enough;
    within = c.within;
    stored = λ k l a. c.stored k l (weaker k a);
    exclusive = c.exclusive;
    longest = c.longest;
  }

  pub remains_away : FragmentsRemain m f stands away end bytes → FragmentsRemain m f stands more end bytes
  remains_away h = record {
    whole = h.whole;
    room = h.room;
    shares = λ k l a. let s = h.shares k l (weaker k a) in record { begins = s.begins; reaches = s.reaches };
    parity = λ a. parity_more (stands m) (h.parity (weaker m a));
  }

reaches_less : (low high : ℕ) (o : Option Fragment) → low ≤ high → IsGoneOrReaches high o → IsGoneOrReaches low o
reaches_less low high None le r = tt
reaches_less low high (Some (share_fragment s)) le r = omega (arith, le, r)
reaches_less low high (Some (parity_fragment l p)) le r = absurd r

-- what remains up to an end does so up to a lower one
module _ (m f : ℕ) (stands : ℕ → Option Fragment) (away : ℕ → Bool) (low high : ℕ) (bytes : List ℕ) (le : low ≤ high) where
  parity_lower : (o : Option Fragment) → ParityRemains m f stands away high bytes o → ParityRemains m f stands away low bytes o
  parity_lower None c = tt
  parity_lower (Some (share_fragment s)) c = absurd c
  parity_lower (Some (parity_fragment lengths parity)) c = record {
    count = c.count;
    enough = λ k l. omega (arith, le, c.enough k l);
    within = c.within;
    stored = c.stored;
    exclusive = c.exclusive;
    longest = c.longest;
  }

  pub remains_lower : FragmentsRemain m f stands away high bytes → FragmentsRemain m f stands away low bytes
  remains_lower h = record {
    whole = omega (arith, le, h.whole);
    room = h.room;
    shares = λ k l a.
        let s = h.shares k l a in
        record { begins = s.begins; reaches = reaches_less (share_length f low k) (share_length f high k) (stands k) (omega (arith, le)) s.reaches };
    parity = λ a. parity_lower (stands m) (h.parity a);
  }

-- what a delete leaves is what stood, or nothing
pub after_delete : (id q : FragId) (o : Option Fragment) (here : Bool)
    → (cond (here && same_frag id q) None o ≡ o) ⊎ (cond (here && same_frag id q) None o ≡ None)
after_delete id q o here = cond_both (here && same_frag id q) None o (λ z. (z ≡ o) ⊎ (z ≡ None)) (λ _. inr refl) (λ _. inl refl)
