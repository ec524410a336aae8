-- Each request of a plan finds its place.
use Rattle.std.proofs.Common.{◌≡◌, ◌≢◌, ◌⊎◌, ℕ, zero, suc, ◌-◌, ◌<◌, ◌≤◌, false, eqb, List, [], ◌∷◌, ◌++◌, length, Option, Some, None, refl, sym, ◌∙◌, subst, inl, inr, arith, append_assoc}
use Rattle.std.specs.Prelude.{◌&&◌, slice_get}
use Rattle.std.specs.List.{flat_map}
use Rattle.std.proofs.lemmas.Bool.{cond_both, eqb-true, eqb-false, ne_eqb, and_right}
use Rattle.std.proofs.lemmas.List.{append-nil}
use Rattle.std.proofs.lemmas.Option.{none-some, same_Some}
use Rattle.zb_types.specs.declared.ids.LogId.{LogId}
use Rattle.zb_types.specs.declared.ids.ServerId.{ServerId}
use Rattle.zb_types.specs.declared.ids.FragId.{FragId}
use Rattle.zb_types.specs.declared.nodes.Class.{Class}
use Rattle.zb_types.specs.declared.requests.Request.{Request}
use Rattle.zb_types.specs.declared.requests.Request.TheVariants as ask
use Rattle.zb_holding.specs.Fragments.{Fragment, share_fragment, parity_fragment}
use Rattle.zb_holding.specs.Placing.{frag_id, server_of, share_length}
use Rattle.zb_holding.specs.Holding.{Maps, View, is_away, standing, with_maps}
use Rattle.zb_holding.specs.Carrying.{carried, carried_all, is_about, same_frag}
use Rattle.zb_stripe.specs.declared.flush.Part.{Part}
use Rattle.zb_stripe.specs.declared.flush.Flush.{Flush}
use Rattle.zb_stripe.specs.Writing.{grow, unless_out, new_bytes, share_request, share_requests, lengths_of, parity_bytes, parity_request, part_requests}
use Rattle.zb_stripe_laws.specs.PartAtWork.{AreElsewhere, HasBytes, MayBegin, StripesDiffer}
use Rattle.zb_stripe_laws.specs.PlanAtWork.{PlanAtWork}
use Rattle.zb_stripe_laws.proofs.Elsewhere.{Silent, silent_part}
use Rattle.zb_stripe_laws.proofs.Growing.{about_grow}
use Rattle.zb_sound.specs.LastFlush.{EndsAt, FindsItsPlace}
use Rattle.zb_sound.proofs.Delivering.{silent_both, silent_leaves}
use Rattle.zb_sound.proofs.Listed.{Among, among_here, among_more, at_part}

abbrev Requests : Type 0
Requests = List (ServerId × Request)

-- ---- what holds of each request of a list and of those before it

module _ (P : Requests → ServerId × Request → Type 0) where
  abbrev Each : Requests → Requests → Type 0
  Each done [] = Unit {0}
  Each done (r ∷ rs) = P done r × Each (done ++ r ∷ []) rs

  each_both : (done xs ys : Requests) → Each done xs → Each (done ++ xs) ys → Each done (xs ++ ys)
  each_both done [] ys a b = subst (λ (d : Requests). Each d ys) (append-nil done) b
  each_both done (x ∷ xs) ys a b = (a.0, each_both (done ++ x ∷ []) xs ys a.1 (subst (λ (d : Requests). Each d ys) (sym (append_assoc done (x ∷ []) xs)) b))

  each_at : (done first : Requests) (r : ServerId × Request) (rest : Requests) → Each done (first ++ r ∷ rest) → P (done ++ first) r
  each_at done [] r rest a = subst (λ (d : Requests). P d r) (sym (append-nil done)) a.0
  each_at done (q ∷ first) r rest a = subst (λ (d : Requests). P d r) (append_assoc done (q ∷ []) first) (each_at (done ++ q ∷ []) first r rest a.1)

-- ---- the requests of a plan

unless_silent : (n : ℕ) (out : Option ServerId) (q id : FragId) (request : Request) → is_about request q ≡ false → Silent q (unless_out n out id request)
unless_silent n out q id request e = cond_both (is_away out (server_of n id)) [] ((server_of n id, request) ∷ []) (Silent q) (λ _. tt) (λ _. (e, tt))

module _ (n f : ℕ) (out : Option ServerId) (class : Class) (log : LogId) (all : List Part) where
  -- the request for a share of a part, before which none is about the share
  record OfShare (part : Part) (done : Requests) (r : ServerId × Request) : Type 0 where
    index : ℕ
    low : index < n - 1
    is : r ≡ (server_of n (frag_id log part.stripe index), grow (frag_id log part.stripe index) class (share_length f part.begin index) (new_bytes f part index))
    first : Silent (frag_id log part.stripe index) done

  -- it is such a one of a part, or finds its place anywhere
  record IsSited (done : Requests) (r : ServerId × Request) : Type 0 where
    part : Part
    among : Among all part
    sited : OfShare part done r ⊎ ((stands : FragId → Option Fragment) → FindsItsPlace r.1 stands)

  other_index : (stripe j k : ℕ) → j ≢ k → same_frag (frag_id log stripe j) (frag_id log stripe k) ≡ false
  other_index stripe j k ne = and_right (eqb log.0 log.0 && eqb stripe stripe) (eqb j k) (ne_eqb j k ne)

  module _ (part : Part) (among : Among all part) (done : Requests) (quiet : (k : ℕ) → Silent (frag_id log part.stripe k) done) where
    share_silent : (j k : ℕ) → j ≢ k → Silent (frag_id log part.stripe k) (share_request n f out class log part j)
    share_silent j k ne =
        let id = frag_id log part.stripe j in
        let request = grow id class (share_length f part.begin j) (new_bytes f part j) in
        cond_both (eqb (length (new_bytes f part j)) 0) [] (unless_out n out id request) (Silent (frag_id log part.stripe k)) (λ _. tt)
        (λ _. unless_silent n out (frag_id log part.stripe k) id request (about_grow id class (share_length f part.begin j) (new_bytes f part j) (frag_id log part.stripe k) ∙ other_index part.stripe j k ne))

    shares_silent : (m k : ℕ) → m ≤ k → Silent (frag_id log part.stripe k) (share_requests n f out class log part m)
    shares_silent zero k le = tt
    shares_silent (suc m) k le =
        silent_both (frag_id log part.stripe k) (share_requests n f out class log part m) (share_request n f out class log part m) (shares_silent m k (omega arith)) (share_silent m k (λ e. absurd (omega (arith, e, le))))

    one_sited : (k : ℕ) → k < n - 1 → Each IsSited (done ++ share_requests n f out class log part k) (share_request n f out class log part k)
    one_sited k low =
        let id = frag_id log part.stripe k in
        let before = done ++ share_requests n f out class log part k in
        let request = grow id class (share_length f part.begin k) (new_bytes f part k) in
        cond_both (eqb (length (new_bytes f part k)) 0) [] (unless_out n out id request) (Each IsSited before) (λ _. tt)
        (λ _. cond_both (is_away out (server_of n id)) [] ((server_of n id, request) ∷ []) (Each IsSited before) (λ _. tt)
        (λ _. (
          record {
            part = part;
            among = among;
            sited = inl (record { index = k; low = low; is = refl; first = silent_both id done (share_requests n f out class log part k) (quiet k) (shares_silent k k (omega arith)) });
          },
          tt,
        )))

    shares_sited : (m : ℕ) → m ≤ n - 1 → Each IsSited done (share_requests n f out class log part m)
    shares_sited zero le = tt
    shares_sited (suc m) le =
        each_both IsSited done (share_requests n f out class log part m) (share_request n f out class log part m) (shares_sited m (omega arith)) (one_sited m (omega arith))

    part_sited : Each IsSited done (part_requests n f out class log part)
    part_sited =
        let id = frag_id log part.stripe (n - 1) in
        let request : Request = ask.Parity id (lengths_of n f part) (parity_bytes n f part) class in
        let before = done ++ share_requests n f out class log part (n - 1) in
        each_both IsSited done (share_requests n f out class log part (n - 1)) (parity_request n f out class log part) (shares_sited (n - 1) (omega arith))
        (cond_both (is_away out (server_of n id)) [] ((server_of n id, request) ∷ []) (Each IsSited before) (λ _. tt) (λ _. (record { part = part; among = among; sited = inr (λ stands. tt) }, tt)))

  elsewhere_at : (stripe : ℕ) (ps : List Part) (q : Part) → AreElsewhere stripe ps → Among ps q → q.stripe ≢ stripe
  elsewhere_at stripe ps q away a = middle a.before a.after (subst (AreElsewhere stripe) a.is away) where
    middle : (before after : List Part) → AreElsewhere stripe (before ++ q ∷ after) → q.stripe ≢ stripe
    middle [] after away = away.0
    middle (b ∷ before) after away = middle before after away.1

  plan_sited : (ps : List Part) (done : Requests) → ((q : Part) → Among ps q → Among all q) → StripesDiffer ps → ((q : Part) → Among ps q → (k : ℕ) → Silent (frag_id log q.stripe k) done)
      → Each IsSited done (flat_map (part_requests n f out class log) ps)
  plan_sited [] done in_all differ quiet = tt
  plan_sited (p ∷ ps) done in_all differ quiet =
      let here = among_here p ps in
      each_both IsSited done (part_requests n f out class log p) (flat_map (part_requests n f out class log) ps) (part_sited p (in_all p here) done (quiet p here))
      (plan_sited ps (done ++ part_requests n f out class log p) (λ q a. in_all q (among_more p q ps a)) differ.1
      (λ q a k. silent_both (frag_id log q.stripe k) done (part_requests n f out class log p) (quiet q (among_more p q ps a) k)
      (silent_part n f out class log p (frag_id log q.stripe k) (inr (elsewhere_at p.stripe ps q differ.0 a)))))

-- ---- what stands there

-- what is silent about a name leaves what stands there
silent_stands : (n : ℕ) (rs : Requests) (maps : Maps) (log : LogId) (stripe k : ℕ) → Silent (frag_id log stripe k) rs → standing n (carried_all maps rs) log stripe k ≡ standing n maps log stripe k
silent_stands n [] maps log stripe k s = refl
silent_stands n (r ∷ rs) maps log stripe k s = silent_stands n rs (carried maps r) log stripe k s.1 ∙ silent_leaves n maps r log stripe k s.0

no_bytes : (o : Option Fragment) → HasBytes o 0 → o ≡ None
no_bytes None h = refl
no_bytes (Some (share_fragment bytes)) h = absurd (let some = h.0 in omega (arith, some))
no_bytes (Some (parity_fragment lengths bytes)) h = absurd h

ends_at : (o : Option Fragment) (had : ℕ) → (had ≡ 0 → ⊥) → HasBytes o had → EndsAt o had
ends_at None had some h = absurd (some h)
ends_at (Some (share_fragment bytes)) had some h = h.1
ends_at (Some (parity_fragment lengths bytes)) had some h = absurd h

grow_finds : (id : FragId) (class : Class) (had : ℕ) (new : List ℕ) (stands : FragId → Option Fragment) → HasBytes (stands id) had → FindsItsPlace (grow id class had new) stands
grow_finds id class had new stands h =
    cond_both (eqb had 0) (ask.Store id new class) (ask.Append id had new) (λ (r : Request). FindsItsPlace r stands)
    (λ t. no_bytes (stands id) (subst (HasBytes (stands id)) (eqb-true had 0 t) h)) (λ f. ends_at (stands id) had (eqb-false had 0 f) h)

none_before : (f begin k : ℕ) → begin ≡ 0 → share_length f begin k ≡ 0
none_before f begin k e = omega (arith, e)

module _ (v : View) (out : Option ServerId) (class : Class) (flush : Flush) where
  -- the share of a part is as it was when the plan began
  begun : (maps : Maps) (part : Part) → MayBegin (with_maps v maps) flush.log part → (k : ℕ) → k < v.servers - 1 → is_away v.away (server_of v.servers (frag_id flush.log part.stripe k)) ≡ false
      → HasBytes (standing v.servers maps flush.log part.stripe k) (share_length v.fragment part.begin k)
  begun maps part (inl on) k low looked = on.stands k low looked
  begun maps part (inr first) k low looked =
      subst (λ (o : Option Fragment). HasBytes o (share_length v.fragment part.begin k)) (sym (first.unwritten k (omega arith) looked)) (none_before v.fragment part.begin k first.begin)

  finds : (r : ServerId × Request) (rest : Requests) (w : PlanAtWork v out class flush (r ∷ rest)) → is_away v.away r.0 ≡ false → FindsItsPlace r.1 (v.maps r.0)
  finds r rest w looked =
      let each = plan_sited v.servers v.fragment out class flush.log flush.parts flush.parts [] (λ q a. a) w.differ (λ q a k. tt) in
      let sited = each_at (IsSited v.servers v.fragment out class flush.log flush.parts) [] w.done r rest (subst (Each (IsSited v.servers v.fragment out class flush.log flush.parts) []) w.all each) in
      by sited.part sited.among sited.sited where
        by : (part : Part) → Among flush.parts part → OfShare v.servers v.fragment out class flush.log flush.parts part w.done r ⊎ ((stands : FragId → Option Fragment) → FindsItsPlace r.1 stands)
            → FindsItsPlace r.1 (v.maps r.0)
        by part a (inr anywhere) = anywhere (v.maps r.0)
        by part a (inl o) =
            let id = frag_id flush.log part.stripe o.index in
            let there : is_away v.away (server_of v.servers id) ≡ false = subst (λ (q : ServerId × Request). is_away v.away q.0 ≡ false) o.is looked in
            let began = begun w.start part (at_part flush.parts (MayBegin (with_maps v w.start) flush.log) part a w.begins) o.index o.low there in
            let same = at_part flush.parts (λ (q : Part). (k : ℕ) → is_away v.away (server_of v.servers (frag_id flush.log q.stripe k)) ≡ false
            → standing v.servers v.maps flush.log q.stripe k ≡ standing v.servers (carried_all w.start w.done) flush.log q.stripe k) part a w.now in
            let now = same o.index there ∙ silent_stands v.servers w.done w.start flush.log part.stripe o.index o.first in
            subst (λ (q : ServerId × Request). FindsItsPlace q.1 (v.maps q.0)) (sym o.is)
            (grow_finds id class (share_length v.fragment part.begin o.index) (new_bytes v.fragment part o.index) (v.maps (server_of v.servers id))
            (subst (λ (s : Option Fragment). HasBytes s (share_length v.fragment part.begin o.index)) (sym now) began))

  pub next_finds : (left : Requests) (r : ServerId × Request) → PlanAtWork v out class flush left → slice_get left 0 ≡ Some r → is_away v.away r.0 ≡ false → FindsItsPlace r.1 (v.maps r.0)
  next_finds [] r w is looked = absurd (none-some r is)
  next_finds (q ∷ rest) r w is looked =
      let same : q ≡ r = same_Some q r is in
      subst (λ (a : ServerId × Request). FindsItsPlace a.1 (v.maps a.0)) same (finds q rest w (subst (λ (a : ServerId × Request). is_away v.away a.0 ≡ false) (sym same) looked))
