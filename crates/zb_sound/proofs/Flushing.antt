-- What a flush that came to its end leaves for its commit, and for the next one.
use Rattle.std.proofs.Common.{◌≡◌, ◌≢◌, ◌⊎◌, ℕ, suc, ◌+◌, ◌<◌, ◌≤◌, max, Bool, true, false, eqb, List, [], ◌∷◌, ◌++◌, length, take, get_or, Option, Some, None, refl, sym, ap, ◌∙◌, subst, inl, inr, arith}
use Rattle.std.specs.Prelude.{All, ◌&&◌, if◌then◌else◌}
use Rattle.std.proofs.lemmas.Bool.{cases_eq, eq-eqb, ne_eqb, and_left, and_right}
use Rattle.std.proofs.lemmas.List.{take-take}
use Rattle.zb_types.specs.declared.ids.LogId.{LogId}
use Rattle.zb_types.specs.declared.ids.Piece.{Piece}
use Rattle.zb_types.specs.declared.tables.HeldUse.{HeldUse}
use Rattle.zb_holding.specs.Holding.{View, StripeHolds}
use Rattle.zb_stripe.specs.declared.flush.Part.{Part}
use Rattle.zb_stripe.specs.declared.flush.Flush.{Flush}
use Rattle.zb_stripe.specs.Writing.{IsWritable}
use Rattle.zb_stripe_laws.specs.PartAtWork.{MayBegin, StandsUpTo, AreElsewhere, StripesDiffer}
use Rattle.zb_stripe_laws.proofs.Standings.{stands_whole}
use Rattle.zb_stripe_laws.proofs.Working.{others_elsewhere}
use Rattle.zb_tables.specs.Tables.{Contents, SameIn, held_at, end_at, end_of}
use Rattle.zb_tables.specs.Fold.{held_with, held_with_all, born_of}
use Rattle.zb_tables.specs.Taking.{Sizes, stripe_room}
use Rattle.zb_tables.proofs.Holding.{end-put}
use Rattle.zb_recovery.specs.Agreeing.{ViewAgrees}
use Rattle.zb_sound.specs.Delivering.{PartFits, CoversHeld, PartStands, IsNext, with_parts}
use Rattle.zb_sound.specs.Committing.{IsInFlush, AreInFlush}
use Rattle.zb_sound.proofs.Listed.{Among, at_part, find_part}
use Rattle.zb_sound.proofs.Rebasing.{agree_same}
use Rattle.zb_sound.proofs.Raising.{PieceStands, PiecesStand, pieces_stand}

-- a part behind a former one may begin where that stands
pub next_begins : (v : View) (log : LogId) (former part : Part) → PartStands v log former → IsNext former part → MayBegin v log part
next_begins v log former part stands next =
    inl (record {
      holds = subst (λ (t : ℕ). StripeHolds v log t part.begin (take part.begin part.bytes)) (sym next.stripe)
          (subst (λ (n : ℕ). StripeHolds v log former.stripe n (take part.begin part.bytes)) (sym next.begin)
          (subst (λ (bytes : List ℕ). StripeHolds v log former.stripe (length former.bytes) bytes) (sym next.bytes) stands));
      stands = subst (λ (t : ℕ). StandsUpTo v log t part.begin) (sym next.stripe)
          (subst (λ (n : ℕ). StandsUpTo v log former.stripe n) (sym next.begin) (stands_whole v log former.stripe former.bytes stands));
    })

-- what fits covers what is held
pub fits_covers : (z : Sizes) (contents : Contents) (held : List HeldUse) (log : LogId) (part : Part) → PartFits z contents held log part → CoversHeld contents held log part
fits_covers z contents held log part fit = record {
  within = λ h e. let a = fit.before h e in let c = fit.writable.new in omega arith;
  same = fit.same;
}

-- a part behind a former one that covers what is held fits
pub next_fits : (z : Sizes) (contents : Contents) (held : List HeldUse) (log : LogId) (former part : Part) → CoversHeld contents held log former → IsNext former part → IsWritable (stripe_room z) part
    → PartFits z contents held log part
next_fits z contents held log former part covers next writable = record {
  writable = writable;
  before = λ h e. let le = covers.within h (here h e) in let b = next.begin in omega arith;
  same = λ h e.
      let le = covers.within h (here h e) in
      let b = next.begin in
      cut_of h.end part.begin part.bytes (omega arith) ∙ ap (take h.end) next.bytes ∙ covers.same h (here h e) ∙ ap (λ (t : ℕ). take h.end (contents log t)) (sym next.stripe);
} where
  here : (h : HeldUse) → held_at log part.stripe held ≡ Some h → held_at log former.stripe held ≡ Some h
  here h e = subst (λ (t : ℕ). held_at log t held ≡ Some h) next.stripe e

  cut_of : (n k : ℕ) (xs : List ℕ) → n ≤ k → take n xs ≡ take n (take k xs)
  cut_of n k xs le = sym (take-take n k xs le)

-- the contents with the bytes of some parts

module _ (contents : Contents) (log : LogId) where
  other_at : (l : LogId) (s : ℕ) (part : Part) → (l.0 ≢ log.0) ⊎ (part.stripe ≢ s) → (eqb l.0 log.0 && eqb s part.stripe) ≡ false
  other_at l s part (inl ne) = and_left (eqb l.0 log.0) (eqb s part.stripe) (ne_eqb l.0 log.0 ne)
  other_at l s part (inr ne) = and_right (eqb l.0 log.0) (eqb s part.stripe) (ne_eqb s part.stripe (λ e. ne (sym e)))

  pub parts_others : (l : LogId) (s : ℕ) (parts : List Part) → (l.0 ≢ log.0) ⊎ AreElsewhere s parts → with_parts contents log parts l s ≡ contents l s
  parts_others l s [] a = refl
  parts_others l s (p ∷ ps) (inl ne) =
      ap (λ (b : Bool). if b then p.bytes else with_parts contents log ps l s) (other_at l s p (inl ne)) ∙ parts_others l s ps (inl ne)
  parts_others l s (p ∷ ps) (inr a) =
      ap (λ (b : Bool). if b then p.bytes else with_parts contents log ps l s) (other_at l s p (inr a.0)) ∙ parts_others l s ps (inr a.1)

  here_at : (part : Part) → (eqb log.0 log.0 && eqb part.stripe part.stripe) ≡ true
  here_at part = ap (λ (b : Bool). b && eqb part.stripe part.stripe) (eq-eqb log.0 log.0 refl) ∙ eq-eqb part.stripe part.stripe refl

  bytes_at_place : (before after : List Part) (part : Part) → AreElsewhere part.stripe before → with_parts contents log (before ++ part ∷ after) log part.stripe ≡ part.bytes
  bytes_at_place [] after part a = ap (λ (b : Bool). if b then part.bytes else with_parts contents log after log part.stripe) (here_at part)
  bytes_at_place (p ∷ ps) after part a =
      ap (λ (b : Bool). if b then p.bytes else with_parts contents log (ps ++ part ∷ after) log part.stripe) (other_at log part.stripe p (inr a.0)) ∙ bytes_at_place ps after part a.1

  pub parts_bytes : (parts : List Part) → StripesDiffer parts → (part : Part) → Among parts part → with_parts contents log parts log part.stripe ≡ part.bytes
  parts_bytes parts differ part a =
      ap (λ (ps : List Part). with_parts contents log ps log part.stripe) a.is
      ∙ bytes_at_place a.before a.after part (others_elsewhere a.before a.after part (subst StripesDiffer a.is differ)).0

  module _ (z : Sizes) (held : List HeldUse) (parts : List Part) (fits : All (PartFits z contents held log) parts) where
    -- what was committed stays
    pub parts_same : StripesDiffer parts → SameIn held contents (with_parts contents log parts)
    parts_same differ l s = elim (cases_eq l.0 log.0) as (λ _. take (end_at held l s) (contents l s) ≡ take (end_at held l s) (with_parts contents log parts l s)) [
      | inr ne ↦ ap (take (end_at held l s)) (sym (parts_others l s parts (inl ne)))
      | inl same ↦ elim (find_part parts s) as (λ _. take (end_at held l s) (contents l s) ≡ take (end_at held l s) (with_parts contents log parts l s)) [
        | inr away ↦ ap (take (end_at held l s)) (sym (parts_others l s parts (inr away)))
        | inl found ↦
            let el : log ≡ l = ap (λ (n : ℕ). record { 0 = n }) (sym same) in
            let part = found.part in
            let fit = at_part parts (PartFits z contents held log) part found.among fits in
            subst (λ (m : LogId). take (end_at held m s) (contents m s) ≡ take (end_at held m s) (with_parts contents log parts m s)) el
            (subst (λ (t : ℕ). take (end_at held log t) (contents log t) ≡ take (end_at held log t) (with_parts contents log parts log t)) found.stripe_is
            (kept part fit (held_at log part.stripe held) refl ∙ ap (take (end_at held log part.stripe)) (sym (parts_bytes parts differ part found.among))))
      ]
    ] where
      kept : (part : Part) → PartFits z contents held log part → (o : Option HeldUse) → held_at log part.stripe held ≡ o
          → take (end_at held log part.stripe) (contents log part.stripe) ≡ take (end_at held log part.stripe) part.bytes
      kept part fit None e = ap (λ (o : Option HeldUse). take (end_of o) (contents log part.stripe)) e ∙ sym (ap (λ (o : Option HeldUse). take (end_of o) part.bytes) e)
      kept part fit (Some h) e =
          ap (λ (o : Option HeldUse). take (end_of o) (contents log part.stripe)) e ∙ sym (fit.same h e) ∙ sym (ap (λ (o : Option HeldUse). take (end_of o) part.bytes) e)

-- raised ends

-- what is held of the stripe of a part ends within the bytes, once pieces within the bytes have raised it
ends_within : (log : LogId) (born : ℕ) (stripe most : ℕ) (pieces : List Piece) (held : List HeldUse)
    → ((i : ℕ) (d : Piece) → i < length pieces → (get_or pieces i d).stripe ≡ stripe → (get_or pieces i d).offset + (get_or pieces i d).len ≤ most)
    → end_at held log stripe ≤ most → end_at (held_with_all log born pieces held) log stripe ≤ most
ends_within log born stripe most [] held all le = le
ends_within log born stripe most (p ∷ ps) held all le =
    ends_within log born stripe most ps (held_with log born p held) (λ i d l. all (suc i) d (omega arith))
    (end-put (record { log = log; stripe = p.stripe; end = max (end_at held log p.stripe) (p.offset + p.len); born = born_of born (held_at log p.stripe held) }) held (λ e. e ≤ most) log stripe
    (λ el es.
    let piece = all 0 p (omega arith) (sym es) in
    let same : end_at held log p.stripe ≡ end_at held log stripe = ap (end_at held log) (sym es) in
    omega arith)
    le)

module _ (z : Sizes) (contents : Contents) (held : List HeldUse) (flush : Flush) (differ : StripesDiffer flush.parts) (fits : All (PartFits z contents held flush.log) flush.parts) where
  abbrev New : Contents
  New = with_parts contents flush.log flush.parts

  end_below : (part : Part) → PartFits z contents held flush.log part → (o : Option HeldUse) → held_at flush.log part.stripe held ≡ o → end_at held flush.log part.stripe ≤ length part.bytes
  end_below part fit None e = let z = ap end_of e in omega arith
  end_below part fit (Some h) e =
      let a = fit.before h e in
      let c = fit.writable.new in
      let is = ap end_of e in
      omega arith

  -- each part covers what is held once pieces of the flush are committed
  pub commit_covers : (born : ℕ) (pieces : List Piece) → AreInFlush flush pieces → (part : Part) → Among flush.parts part → CoversHeld New (held_with_all flush.log born pieces held) flush.log part
  commit_covers born pieces are part a = record {
    within = λ h e.
        let fit = at_part flush.parts (PartFits z contents held flush.log) part a fits in
        let le = ends_within flush.log born part.stripe (length part.bytes) pieces held (λ i d l same. piece_in i d l same) (end_below part fit (held_at flush.log part.stripe held) refl) in
        let is = ap end_of e in
        omega arith;
    same = λ h e. ap (take h.end) (sym (parts_bytes contents flush.log flush.parts differ part a));
  } where
    piece_in : (i : ℕ) (d : Piece) → i < length pieces → (get_or pieces i d).stripe ≡ part.stripe → (get_or pieces i d).offset + (get_or pieces i d).len ≤ length part.bytes
    piece_in i d l same =
        let inside = are i d l in
        let own : Among flush.parts inside.part = record { before = inside.before; after = inside.after; is = inside.is } in
        let stripes : inside.part.stripe ≡ part.stripe = sym inside.stripe_is ∙ same in
        let bytes : inside.part.bytes ≡ part.bytes =
        sym (parts_bytes contents flush.log flush.parts differ inside.part own)
        ∙ ap (λ (t : ℕ). New flush.log t) stripes ∙ parts_bytes contents flush.log flush.parts differ part a in
        let long = ap length bytes in
        let within = inside.within in
        omega arith

  module _ (v : View) (stand : All (PartStands v flush.log) flush.parts) where
    piece_stands : (q : Piece) → IsInFlush flush q → PieceStands v New held flush.log q
    piece_stands q i =
        let part = i.part in
        let among : Among flush.parts part = record { before = i.before; after = i.after; is = i.is } in
        let whole = at_part flush.parts (PartStands v flush.log) part among stand in
        let fit = at_part flush.parts (PartFits z contents held flush.log) part among fits in
        let below = end_below part fit (held_at flush.log part.stripe held) refl in
        let bytes = parts_bytes contents flush.log flush.parts differ part among in
        record {
          within = subst (λ (k : ℕ). q.offset + q.len ≤ length (New flush.log k)) (sym i.stripe_is) (subst (λ (bs : List ℕ). q.offset + q.len ≤ length bs) (sym bytes) i.within);
          before = subst (λ (k : ℕ). end_at held flush.log k ≤ length (New flush.log k)) (sym i.stripe_is) (subst (λ (bs : List ℕ). end_at held flush.log part.stripe ≤ length bs) (sym bytes) below);
          holds = subst (λ (k : ℕ). StripeHolds v flush.log k (length (New flush.log k)) (New flush.log k)) (sym i.stripe_is)
              (subst (λ (bs : List ℕ). StripeHolds v flush.log part.stripe (length bs) bs) (sym bytes) whole);
        }

    all_pieces : (qs : List Piece) → AreInFlush flush qs → PiecesStand v New held flush.log qs
    all_pieces [] all = tt
    all_pieces (q ∷ qs) all = (piece_stands q (all 0 q (omega arith)), all_pieces qs (λ i d l. all (suc i) d (omega arith)))

    -- each held stripe stands up to the end that the pieces raise it to
    pub flushed_stand : ViewAgrees v contents held → (born : ℕ) (pieces : List Piece) → AreInFlush flush pieces → ViewAgrees v New (held_with_all flush.log born pieces held)
    flushed_stand agrees born pieces all =
        pieces_stand v New flush.log born pieces held
        (agree_same v contents New held (parts_same contents flush.log z held flush.parts fits differ) agrees) (all_pieces pieces all)
