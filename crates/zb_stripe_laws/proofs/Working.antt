-- A part of a flush, request by request.
use Rattle.std.proofs.Common.{◌≡◌, ◌≢◌, ◌⊎◌, ℕ, zero, suc, ◌+◌, ◌-◌, ◌*◌, ◌<◌, ◌≤◌, Bool, false, List, [], ◌∷◌, ◌++◌, length, take, Option, Some, refl, sym, ap, ◌∙◌, subst, inl, inr, arith}
use Rattle.std.specs.Prelude.{◌&&◌, ◌==◌, if◌then◌else◌, slice_get}
use Rattle.std.specs.List.{flat_map}
use Rattle.std.proofs.lemmas.Bool.{and_right}
use Rattle.std.proofs.lemmas.List.{take_all, append_assoc, length-append, length-take}
use Rattle.std.proofs.lemmas.Option.{none-some, same_Some}
use Rattle.zb_types.specs.declared.ids.LogId.{LogId}
use Rattle.zb_types.specs.declared.ids.ServerId.{ServerId}
use Rattle.zb_types.specs.declared.ids.FragId.{FragId}
use Rattle.zb_types.specs.declared.nodes.Class.{Class}
use Rattle.zb_types.specs.declared.requests.Request.{Request}
use Rattle.zb_holding.specs.Fragments.{Fragment}
use Rattle.zb_holding.specs.Placing.{frag_id, server_of, share_of, share_length}
use Rattle.zb_holding.specs.Holding.{Maps, Begins, StripeHolds, standing, away_at, view_of}
use Rattle.zb_holding.specs.Carrying.{stands_after, is_about, carried, carried_all}
use Rattle.zb_stripe.specs.declared.flush.Part.{Part}
use Rattle.zb_stripe.specs.Writing.{part_requests, IsWritable}
use Rattle.zb_stripe_laws.specs.PartAtWork.{IsSpared, HasBytes, IsWhole, StripeAtWork, MayBegin, PartAtWork, AreElsewhere, StripesDiffer}
use Rattle.zb_stripe_laws.proofs.Carrying.{carried-append}
use Rattle.zb_stripe_laws.proofs.Elsewhere.{Silent, silent_part}
use Rattle.zb_stripe_laws.proofs.Keeping.{holds_less, part_prefix, each_law, whole_law, fresh_law}
use Rattle.zb_stripe_laws.proofs.Growing.{grows_all}
use Rattle.zb_stripe_laws.proofs.Cutting.{begins_longer}
use Rattle.zb_holding.proofs.Shares.{share_of-take}
use Rattle.zb_stripe_laws.proofs.Seeing.{holds_seen}

carried_next : (maps : Maps) (rs : List (ServerId × Request)) (i : ℕ) (r : ServerId × Request) → slice_get rs i ≡ Some r → carried_all maps (take (suc i) rs) ≡ carried (carried_all maps (take i rs)) r
carried_next maps [] i r e = absurd (none-some r e)
carried_next maps (q ∷ qs) zero r e = ap (carried maps) (same_Some q r e)
carried_next maps (q ∷ qs) (suc i) r e = carried_next (carried maps q) qs i r e

-- what a request leaves in one place
abbrev pub placed : ServerId → FragId → ServerId × Request → Option Fragment → Option Fragment
placed server id r before = if r.0.0 == server.0 && is_about r.1 id then stands_after r.1 before else before

module _ (n f : ℕ) (out : Option ServerId) (class : Class) (log : LogId) (part : Part) where
  abbrev pub Requests : List (ServerId × Request)
  Requests = part_requests n f out class log part

  pub at_work_begins : (maps : Maps) (x : Option ServerId) → MayBegin (view_of n f maps x) log part → PartAtWork (view_of n f maps x) out class log part 0
  at_work_begins maps x b = record { start = maps; begins = b; now = λ k away. refl }

  -- the next request is carried out
  pub at_work_next : (maps : Maps) (x : Option ServerId) (i : ℕ) (r : ServerId × Request) → slice_get Requests i ≡ Some r
      → PartAtWork (view_of n f maps x) out class log part i → PartAtWork (view_of n f (carried maps r) x) out class log part (suc i)
  at_work_next maps x i r is w = record {
    start = w.start;
    begins = w.begins;
    now = λ k away.
        ap (placed (server_of n (frag_id log part.stripe k)) (frag_id log part.stripe k) r) (w.now k away)
        ∙ ap (λ (ms : Maps). standing n ms log part.stripe k) (sym (carried_next w.start Requests i r is));
  }

  -- whatever else changes, the part stays at work where its stripe is as before
  pub at_work_stays : (maps new : Maps) (x : Option ServerId) (i : ℕ) → ((k : ℕ) → away_at n x log part.stripe k ≡ false → standing n new log part.stripe k ≡ standing n maps log part.stripe k)
      → PartAtWork (view_of n f maps x) out class log part i → PartAtWork (view_of n f new x) out class log part i
  at_work_stays maps new x i same w = record { start = w.start; begins = w.begins; now = λ k away. same k away ∙ w.now k away }

  seen : (maps start : Maps) (x : Option ServerId) (end i : ℕ)
      → ((k : ℕ) → away_at n x log part.stripe k ≡ false → standing n maps log part.stripe k ≡ standing n (carried_all start (take i Requests)) log part.stripe k)
      → StripeHolds (view_of n f (carried_all start (take i Requests)) x) log part.stripe end part.bytes → StripeHolds (view_of n f maps x) log part.stripe end part.bytes
  seen maps start x end i now h =
      holds_seen (n - 1) f (standing n (carried_all start (take i Requests)) log part.stripe) (standing n maps log part.stripe) (away_at n x log part.stripe) end part.bytes now h

  module _ (fits : IsWritable ((n - 1) * f) part) where
    -- what is committed stands with the part's bytes
    pub at_work_holds : (maps : Maps) (x : Option ServerId) (end i : ℕ) → IsSpared out x → 0 < end → end ≤ part.begin
        → PartAtWork (view_of n f maps x) out class log part i → StripeHolds (view_of n f maps x) log part.stripe end part.bytes
    at_work_holds maps x end i spared some le w = elim w.begins as (λ _. StripeHolds (view_of n f maps x) log part.stripe end part.bytes) [
      | inl b ↦
          seen maps w.start x end i w.now
          (each_law n f out x class log part spared fits w.start end le
          (holds_less (n - 1) f (standing n w.start log part.stripe) (away_at n x log part.stripe) end part.begin (take part.begin part.bytes) le b.holds) b.stands i)
      | inr b ↦ let none = b.begin in absurd (omega arith)
    ]

    -- a part whose requests were all carried out stands whole
    pub at_work_ends : (maps : Maps) (x : Option ServerId) (i : ℕ) → IsSpared out x → length Requests ≤ i → PartAtWork (view_of n f maps x) out class log part i
        → StripeHolds (view_of n f maps x) log part.stripe (length part.bytes) part.bytes
    at_work_ends maps x i spared le w =
        let all = λ (h : StripeHolds (view_of n f (carried_all w.start Requests) x) log part.stripe (length part.bytes) part.bytes).
        seen maps w.start x (length part.bytes) i w.now
        (subst (λ (rs : List (ServerId × Request)). StripeHolds (view_of n f (carried_all w.start rs) x) log part.stripe (length part.bytes) part.bytes) (sym (take_all i Requests le)) h) in
        elim w.begins as (λ _. StripeHolds (view_of n f maps x) log part.stripe (length part.bytes) part.bytes) [
          | inl b ↦ all (whole_law n f out x class log part spared fits w.start part.begin b.holds b.stands)
          | inr b ↦ all (fresh_law n f out x class log part spared fits w.start b.begin b.unwritten)
        ]

-- what stands as a part begins is the beginning of its shares
module _ (n f : ℕ) (x : Option ServerId) (log : LogId) (part : Part) (start : Maps) where
  begins_so : MayBegin (view_of n f start x) log part → (k : ℕ) → k < n - 1 → away_at n x log part.stripe k ≡ false
      → HasBytes (standing n start log part.stripe k) (share_length f part.begin k) × Begins (standing n start log part.stripe k) (share_of f part.bytes k)
  begins_so (inl b) k l a = (
    b.stands k l a,
    begins_longer (standing n start log part.stripe k) (share_of f part.bytes k) (share_length f part.begin k)
        (subst (Begins (standing n start log part.stripe k)) (share_of-take f part.bytes part.begin k) (b.holds.shares k l a).begins),
  )
  begins_so (inr b) k l a =
      let none = b.unwritten k (omega arith) a in
      let start_at = b.begin in (
        subst (λ o. HasBytes o (share_length f part.begin k)) (sym none) (omega arith),
        subst (λ o. Begins o (share_of f part.bytes k)) (sym none) tt,
      )

module _ (n f : ℕ) (x out : Option ServerId) (class : Class) (log : LogId) (part : Part) (spared : IsSpared out x) (fits : IsWritable ((n - 1) * f) part) where
  -- before the last of its requests, a part's stripe is at work
  pub between_requests : (maps : Maps) (i : ℕ) (w : PartAtWork (view_of n f maps x) out class log part i) → i < length (part_requests n f out class log part)
      → (j : ℕ) × (j ≤ n - 1) × StripeAtWork f part.bytes (away_at n x log part.stripe) (standing n w.start log part.stripe) (standing n maps log part.stripe) j
  between_requests maps i w below =
      let rs = part_requests n f out class log part in
      let away = away_at n x log part.stripe in
      elim (part_prefix n f out x class log part spared fits i) [
        | inr all ↦ absurd (omega (arith, ap length all, length-take i rs))
        | inl r ↦
            let so = begins_so n f x log part w.start w.begins in
            let g = grows_all n f out x class log part spared (standing n w.start log part.stripe) w.start (λ k. refl) (n - 1) r.0 r.1 (λ k l a. (so k l a).0) (λ k l a. (so k l a).1) in
            let is = λ (k : ℕ) (a : away k ≡ false). w.now k a ∙ ap (λ (qs : List (ServerId × Request)). standing n (carried_all w.start qs) log part.stripe k) r.2 in (
              r.0,
              r.1,
              record {
                done = λ k l a. subst (λ o. IsWhole o (share_of f part.bytes k)) (sym (is k a)) (g.done k l a);
                left = λ k l a. is k a ∙ g.left k l a;
              },
            )
      ]

-- Several parts.

-- what a place is after requests depends on what it was alone
placed_same : (rs : List (ServerId × Request)) (one other : Maps) (server : ServerId) (id : FragId) → one server id ≡ other server id
    → carried_all one rs server id ≡ carried_all other rs server id
placed_same [] one other server id e = e
placed_same (r ∷ rs) one other server id e = placed_same rs (carried one r) (carried other r) server id (ap (placed server id r) e)

silent_all : (rs : List (ServerId × Request)) (maps : Maps) (server : ServerId) (id : FragId) → Silent id rs → carried_all maps rs server id ≡ maps server id
silent_all [] maps server id s = refl
silent_all (r ∷ rs) maps server id s =
    silent_all rs (carried maps r) server id s.1
    ∙ ap (λ (b : Bool). if b then stands_after r.1 (maps server id) else maps server id) (and_right (r.0.0 == server.0) (is_about r.1 id) s.0)

silent_take : (i : ℕ) (rs : List (ServerId × Request)) (id : FragId) → Silent id rs → Silent id (take i rs)
silent_take zero rs id s = tt
silent_take (suc i) [] id s = tt
silent_take (suc i) (r ∷ rs) id s = (s.0, silent_take i rs id s.1)

take_join : (i : ℕ) (xs ys : List (ServerId × Request)) → take i (xs ++ ys) ≡ take i xs ++ take (i - length xs) ys
take_join zero [] ys = refl
take_join zero (x ∷ xs) ys =
    let none : 0 ≡ 0 - suc (length xs) = omega arith in
    ap (λ (m : ℕ). take m ys) none
take_join (suc i) [] ys =
    let all : suc i ≡ suc i - 0 = omega arith in
    ap (λ (m : ℕ). take m ys) all
take_join (suc i) (x ∷ xs) ys =
    let less : i - length xs ≡ suc i - suc (length xs) = omega arith in
    ap (λ rs. x ∷ rs) (take_join i xs ys) ∙ ap (λ (m : ℕ). x ∷ (take i xs ++ take m ys)) less

flat-append : (g : Part → List (ServerId × Request)) (xs ys : List Part) → flat_map g (xs ++ ys) ≡ flat_map g xs ++ flat_map g ys
flat-append g [] ys = refl
flat-append g (x ∷ xs) ys = ap (λ rs. g x ++ rs) (flat-append g xs ys) ∙ sym (append_assoc (g x) (flat_map g xs) (flat_map g ys))

joined : (id : FragId) (xs ys : List (ServerId × Request)) → Silent id xs → Silent id ys → Silent id (xs ++ ys)
joined id [] ys a b = b
joined id (x ∷ xs) ys a b = (a.0, joined id xs ys a.1 b)

module _ (n f : ℕ) (out : Option ServerId) (class : Class) (log : LogId) where
  abbrev pub All_requests : List Part → List (ServerId × Request)
  All_requests parts = flat_map (part_requests n f out class log) parts

  silent_parts : (stripe k : ℕ) (parts : List Part) → AreElsewhere stripe parts → Silent (frag_id log stripe k) (All_requests parts)
  silent_parts stripe k [] away = tt
  silent_parts stripe k (p ∷ ps) away =
      joined (frag_id log stripe k) (part_requests n f out class log p) (All_requests ps)
      (silent_part n f out class log p (frag_id log stripe k) (inr (λ e. away.0 (sym e)))) (silent_parts stripe k ps away.1)

  -- the requests of the other parts leave a part's stripe
  pub others_leave : (maps : Maps) (before after : List Part) (part : Part) (i k : ℕ) → AreElsewhere part.stripe before → AreElsewhere part.stripe after
      → standing n (carried_all maps (take i (All_requests (before ++ part ∷ after)))) log part.stripe k
      ≡ standing n (carried_all maps (take (i - length (All_requests before)) (part_requests n f out class log part))) log part.stripe k
  others_leave maps before after part i k a b =
      let id = frag_id log part.stripe k in
      let server = server_of n id in
      let first = All_requests before in
      let own = part_requests n f out class log part in
      let last = All_requests after in
      let j = i - length first in
      let cut : take i (All_requests (before ++ part ∷ after)) ≡ take i first ++ (take j own ++ take (j - length own) last) =
      ap (take i) (flat-append (part_requests n f out class log) before (part ∷ after)) ∙ take_join i first (own ++ last)
      ∙ ap (λ rs. take i first ++ rs) (take_join j own last) in
      ap (λ (rs : List (ServerId × Request)). carried_all maps rs server id) cut
      ∙ ap (λ (ms : Maps). ms server id) (carried-append maps (take i first) (take j own ++ take (j - length own) last) ∙ carried-append (carried_all maps (take i first)) (take j own) (take (j - length own) last))
      ∙ silent_all (take (j - length own) last) (carried_all (carried_all maps (take i first)) (take j own)) server id (silent_take (j - length own) last id (silent_parts part.stripe k after b))
      ∙ placed_same (take j own) (carried_all maps (take i first)) maps server id
      (silent_all (take i first) maps server id (silent_take i first id (silent_parts part.stripe k before a)))

  -- a plan has the requests of the parts before one, and that one's
  pub long_enough : (before after : List Part) (part : Part)
      → length (All_requests before) + length (part_requests n f out class log part) ≤ length (All_requests (before ++ part ∷ after))
  long_enough before after part =
      let first = All_requests before in
      let own = part_requests n f out class log part in
      let last = All_requests after in
      omega (arith, ap length (flat-append (part_requests n f out class log) before (part ∷ after)), length-append first (own ++ last), length-append own last)

  -- each part of a plan is at work as its own requests are carried out
  pub parts_at_work : (maps : Maps) (x : Option ServerId) (before after : List Part) (part : Part) (i : ℕ) → AreElsewhere part.stripe before → AreElsewhere part.stripe after
      → MayBegin (view_of n f maps x) log part
      → PartAtWork (view_of n f (carried_all maps (take i (All_requests (before ++ part ∷ after)))) x) out class log part (i - length (All_requests before))
  parts_at_work maps x before after part i a b begins = record { start = maps; begins = begins; now = λ k away. others_leave maps before after part i k a b }

  -- names of stripes of none of the parts keep what they had
  pub elsewhere_stays : (maps : Maps) (l : LogId) (stripe k : ℕ) (parts : List Part) (i : ℕ) → (l.0 ≢ log.0) ⊎ AreElsewhere stripe parts
      → standing n (carried_all maps (take i (All_requests parts))) l stripe k ≡ standing n maps l stripe k
  elsewhere_stays maps l stripe k parts i away =
      let id = frag_id l stripe k in
      silent_all (take i (All_requests parts)) maps (server_of n id) id (silent_take i (All_requests parts) id (silent_away parts away))
    where
      silent_away : (ps : List Part) → (l.0 ≢ log.0) ⊎ AreElsewhere stripe ps → Silent (frag_id l stripe k) (All_requests ps)
      silent_away [] a = tt
      silent_away (p ∷ ps) (inl ne) =
          joined (frag_id l stripe k) (part_requests n f out class log p) (All_requests ps) (silent_part n f out class log p (frag_id l stripe k) (inl ne)) (silent_away ps (inl ne))
      silent_away (p ∷ ps) (inr a) =
          joined (frag_id l stripe k) (part_requests n f out class log p) (All_requests ps)
          (silent_part n f out class log p (frag_id l stripe k) (inr (λ e. a.0 (sym e)))) (silent_away ps (inr a.1))

-- the parts before and behind one are of other stripes, where all stripes differ
pub others_elsewhere : (before after : List Part) (part : Part) → StripesDiffer (before ++ part ∷ after) → AreElsewhere part.stripe before × AreElsewhere part.stripe after
others_elsewhere [] after part d = (tt, d.0)
others_elsewhere (p ∷ ps) after part d =
    let r = others_elsewhere ps after part d.1 in
    ((last_of ps d.0, r.0), r.1)
  where
    last_of : (qs : List Part) → AreElsewhere p.stripe (qs ++ part ∷ after) → p.stripe ≢ part.stripe
    last_of [] a = λ e. a.0 (sym e)
    last_of (q ∷ qs) a = last_of qs a.1
