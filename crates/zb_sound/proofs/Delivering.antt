-- What the requests of a flush, and requests about other stripes, leave of what stands.
use Rattle.std.proofs.Common.{◌≡◌, ◌≢◌, ◌⊎◌, ℕ, ◌-◌, ◌<◌, Bool, false, List, [], ◌∷◌, ◌++◌, length, get_or, Option, Some, refl, sym, ap, ◌∙◌, subst, inl, inr}
use Rattle.std.specs.Prelude.{◌==◌, if◌then◌else◌, slice_get}
use Rattle.std.specs.List.{flat_map}
use Rattle.std.proofs.lemmas.Bool.{cases_eq, and_right}
use Rattle.std.proofs.lemmas.Option.{none-some, same_Some}
use Rattle.zb_types.specs.declared.ids.LogId.{LogId}
use Rattle.zb_types.specs.declared.ids.ServerId.{ServerId}
use Rattle.zb_types.specs.declared.ids.FragId.{FragId}
use Rattle.zb_types.specs.declared.nodes.Class.{Class}
use Rattle.zb_types.specs.declared.requests.Request.{Request}
use Rattle.zb_types.specs.declared.requests.Response.TheVariants as told
use Rattle.zb_types.specs.declared.tables.HeldUse.{HeldUse}
use Rattle.zb_types.specs.Tree.{Tree}
use Rattle.zb_holding.specs.Placing.{frag_id, server_of}
use Rattle.zb_holding.specs.Holding.{Maps, standing, away_at}
use Rattle.zb_holding.specs.Carrying.{stands_after, is_about, carried}
use Rattle.zb_stripe.specs.declared.flush.Part.{Part}
use Rattle.zb_stripe.specs.declared.flush.Flush.{Flush}
use Rattle.zb_stripe.specs.Writing.{part_requests, plan_requests}
use Rattle.zb_stripe.specs.Feeding.{left_after}
use Rattle.zb_stripe_laws.specs.PartAtWork.{AreElsewhere}
use Rattle.zb_stripe_laws.specs.PlanAtWork.{IsBeside, StoresBytes}
use Rattle.zb_stripe_laws.proofs.Beside.{beside}
use Rattle.zb_stripe_laws.proofs.Elsewhere.{Silent, silent_part}
use Rattle.zb_stripe_laws.proofs.NotEmpty.{kept_by, plan_stores}
use Rattle.zb_stripe_laws.proofs.Seeing.{holds_seen}
use Rattle.zb_stripe_laws.proofs.Plans.{begins, goes_on, holds, ends}
use Rattle.zb_tables.specs.Tables.{Tables, held_at, Contents}
use Rattle.zb_tables.specs.Replay.{Platter}
use Rattle.zb_tables.specs.Taking.{Sizes}
use Rattle.zb_recovery.specs.Missing.{Servers}
use Rattle.zb_recovery.specs.Agreeing.{StripeAgrees, ViewAgrees}
use Rattle.zb_sound.specs.Standing.{StandFor, seen}
use Rattle.zb_sound.specs.Delivering.{after_asked, allowed, any_one, FlushBegins, FlushWorks, Missing, Misses, PartFits, PartsStand, WorksIn}
use Rattle.zb_sound.specs.Staying.{LeavesParts}
use Rattle.zb_sound.proofs.Listed.{Among, among_at, at_part, find_part}
use Rattle.zb_sound.proofs.Missing.{some_may}
use Rattle.zb_sound.proofs.Saying.{HoldSome, said_some}

-- a stripe is held where each index that is looked at stands as before
pub stripe_same : (n f : ℕ) (maps new : Maps) (x : Option ServerId) (contents : Contents) (log : LogId) (stripe end : ℕ)
    → ((k : ℕ) → away_at n x log stripe k ≡ false → standing n new log stripe k ≡ standing n maps log stripe k)
    → StripeAgrees (record { servers = n; fragment = f; maps = maps; away = x }) contents log stripe end
    → StripeAgrees (record { servers = n; fragment = f; maps = new; away = x }) contents log stripe end
stripe_same n f maps new x contents log stripe end same s = record {
  bytes = s.bytes;
  held = holds_seen (n - 1) f (standing n maps log stripe) (standing n new log stripe) (away_at n x log stripe) end s.bytes same s.held;
  first = s.first;
}

pub silent_both : (q : FragId) (xs ys : List (ServerId × Request)) → Silent q xs → Silent q ys → Silent q (xs ++ ys)
silent_both q [] ys a b = b
silent_both q (x ∷ xs) ys a b = (a.0, silent_both q xs ys a.1 b)

-- a request behind others of a list that is silent about a name is so too
silent_behind : (q : FragId) (done left : List (ServerId × Request)) (r : ServerId × Request) → Silent q (done ++ left) → slice_get left 0 ≡ Some r → is_about r.1 q ≡ false
silent_behind q [] [] r s e = absurd (none-some r e)
silent_behind q [] (a ∷ rest) r s e = subst (λ (y : ServerId × Request). is_about y.1 q ≡ false) (same_Some a r e) s.0
silent_behind q (d ∷ done) left r s e = silent_behind q done left r s.1 e

-- the first of those that are left stands behind those that are done
pub get_behind : (done left : List (ServerId × Request)) → slice_get (done ++ left) (length done) ≡ slice_get left 0
get_behind [] left = refl
get_behind (d ∷ done) left = get_behind done left

-- what a request that isn't about a name leaves there
pub silent_leaves : (n : ℕ) (maps : Maps) (r : ServerId × Request) (l : LogId) (t k : ℕ) → is_about r.1 (frag_id l t k) ≡ false
    → standing n (carried maps r) l t k ≡ standing n maps l t k
silent_leaves n maps r l t k e =
    ap (λ (y : Bool). if y then stands_after r.1 (standing n maps l t k) else standing n maps l t k)
    (and_right (r.0.0 == (server_of n (frag_id l t k)).0) (is_about r.1 (frag_id l t k)) e)

module _ (z : Sizes) (contents : Contents) (out : Option ServerId) (class : Class) (flush : Flush) where
  abbrev Requests : Type 0
  Requests = List (ServerId × Request)

  abbrev Plan : Requests
  Plan = plan_requests z.servers z.fragment out class flush

  silent_plan : (l : LogId) (t k : ℕ) (parts : List Part) → (l.0 ≢ flush.log.0) ⊎ AreElsewhere t parts
      → Silent (frag_id l t k) (flat_map (part_requests z.servers z.fragment out class flush.log) parts)
  silent_plan l t k [] a = tt
  silent_plan l t k (p ∷ ps) (inl ne) =
      silent_both (frag_id l t k) (part_requests z.servers z.fragment out class flush.log p) (flat_map (part_requests z.servers z.fragment out class flush.log) ps)
      (silent_part z.servers z.fragment out class flush.log p (frag_id l t k) (inl ne)) (silent_plan l t k ps (inl ne))
  silent_plan l t k (p ∷ ps) (inr a) =
      silent_both (frag_id l t k) (part_requests z.servers z.fragment out class flush.log p) (flat_map (part_requests z.servers z.fragment out class flush.log) ps)
      (silent_part z.servers z.fragment out class flush.log p (frag_id l t k) (inr (λ e. a.0 (sym e)))) (silent_plan l t k ps (inr a.1))

  -- the first requests may be asked
  pub flush_begins : (st : Servers) (held : List HeldUse) (who : Missing) → FlushBegins z contents st held who out flush → FlushWorks z contents st held who out class flush Plan
  flush_begins st held who b = record {
    fits = b.fits;
    each = λ x may. let at = b.each x may in record { spared = at.spared; work = begins (seen z st x) out class flush b.differ at.begin };
  }

  module _ (st : Servers) (held : List HeldUse) (who : Missing)
      (left : Requests) (r : ServerId × Request) (is : slice_get left 0 ≡ Some r) (w : FlushWorks z contents st held who out class flush left) where
    abbrev New : Servers
    New = after_asked st r

    abbrev Left : Requests
    Left = left_after left told.Done

    -- a request leaves which servers may be missing
    misses : (of : Missing) (x : Option ServerId) → Misses z.servers New of x → Misses z.servers st of x
    misses (allowed members) x may = may
    misses any_one x may = may

    misses_still : (of : Missing) (x : Option ServerId) → Misses z.servers st of x → Misses z.servers New of x
    misses_still (allowed members) x may = may
    misses_still any_one x may = may

    pub next_works : FlushWorks z contents New held who out class flush Left
    next_works = record {
      fits = w.fits;
      each = λ x may. let at = w.each x (misses who x may) in record { spared = at.spared; work = goes_on (seen z st x) out class flush left r is at.work };
    }

    module _ (x : Option ServerId) (may : Misses z.servers st who x) where
      abbrev Now : WorksIn (seen z New x) out class flush Left
      Now = next_works.each x (misses_still who x may)

      other_same : (l : LogId) (t k : ℕ) → (l.0 ≢ flush.log.0) ⊎ AreElsewhere t flush.parts → standing z.servers New.maps l t k ≡ standing z.servers st.maps l t k
      other_same l t k a =
          let work = (w.each x may).work in
          silent_leaves z.servers st.maps r l t k (silent_behind (frag_id l t k) work.done left r (subst (Silent (frag_id l t k)) work.all (silent_plan l t k flush.parts a)) is)

      own_agrees : (part : Part) → Among flush.parts part → (h : HeldUse) → held_at flush.log part.stripe held ≡ Some h → 0 < h.end
          → StripeAgrees (seen z New x) contents flush.log part.stripe h.end
      own_agrees part a h e some =
          let fit = at_part flush.parts (PartFits z contents held flush.log) part a w.fits in
          record {
            bytes = part.bytes;
            held = holds (seen z New x) out class flush Left Now.work a.before a.after part a.is h.end fit.writable Now.spared some (fit.before h e);
            first = sym (fit.same h e);
          }

      -- one held stripe
      pub next_one : HoldSome held → (l : LogId) (t : ℕ) (h : HeldUse) → held_at l t held ≡ Some h → StripeAgrees (seen z st x) contents l t h.end → StripeAgrees (seen z New x) contents l t h.end
      next_one hold_some l t h e old = elim (cases_eq l.0 flush.log.0) as (λ _. StripeAgrees (seen z New x) contents l t h.end) [
        | inr ne ↦ stripe_same z.servers z.fragment st.maps New.maps x contents l t h.end (λ k a. other_same l t k (inl ne)) old
        | inl same ↦ elim (find_part flush.parts t) as (λ _. StripeAgrees (seen z New x) contents l t h.end) [
          | inr away ↦ stripe_same z.servers z.fragment st.maps New.maps x contents l t h.end (λ k a. other_same l t k (inr away)) old
          | inl found ↦
              let el : l ≡ flush.log = ap (λ (n : ℕ). record { 0 = n }) same in
              let some = hold_some l t h e in
              let here = subst (λ (y : ℕ). held_at flush.log y held ≡ Some h) (sym found.stripe_is) (subst (λ (m : LogId). held_at m t held ≡ Some h) el e) in
              subst (λ (m : LogId). StripeAgrees (seen z New x) contents m t h.end) (sym el)
              (subst (λ (y : ℕ). StripeAgrees (seen z New x) contents flush.log y h.end) found.stripe_is (own_agrees found.part found.among h here some))
        ]
      ]

      pub next_agrees : HoldSome held → ViewAgrees (seen z st x) contents held → ViewAgrees (seen z New x) contents held
      next_agrees hold_some all l t h e = next_one hold_some l t h e (all l t h e)

    -- what another log has stands as before
    pub others_stand : (log : LogId) (parts : List Part) → log.0 ≢ flush.log.0 → LeavesParts z st New who who log parts
    others_stand log parts ne = record {
      fewer = λ x may. misses who x may;
      same = λ x may i d l k a. other_same x (misses who x may) log (get_or parts i d).stripe k (inl ne);
    }

  module _ (p : Platter) (st : Servers) (tables : Tables) (tree : Tree) (s : StandFor z contents p st tables tree)
      (left : Requests) (r : ServerId × Request) (is : slice_get left 0 ≡ Some r) (w : FlushWorks z contents st tables.held (allowed tables.members) out class flush left) where
    next_stores : StoresBytes r.1
    next_stores =
        let some = some_may z.servers tables.members st s.agree.one_unfit in
        let work = (w.each some.0 some.1).work in
        plan_stores z.servers z.fragment out class flush.log flush.parts (length work.done) r
        (ap (λ (rs : Requests). slice_get rs (length work.done)) work.all ∙ get_behind work.done left ∙ is)

    pub next_stands : StandFor z contents p (after_asked st r) tables tree
    next_stands = record {
      says = s.says;
      agree = record { one_unfit = s.agree.one_unfit; agree = λ x may. next_agrees st tables.held (allowed tables.members) left r is w x may (said_some z contents p tables tree s.says) (s.agree.agree x may) };
      none_empty = kept_by st.maps r next_stores s.none_empty;
    }

  -- with no requests left each part's stripe stands
  pub flush_ends : (st : Servers) (held : List HeldUse) (who : Missing) → FlushWorks z contents st held who out class flush [] → PartsStand z st who flush.log flush.parts
  flush_ends st held who w x may i d l =
      let at = w.each x may in
      let part = get_or flush.parts i d in
      let a = among_at flush.parts i d l in
      let fit = at_part flush.parts (PartFits z contents held flush.log) part a w.fits in
      ends (seen z st x) out class flush [] at.work a.before a.after part a.is refl fit.writable at.spared

-- a request about no held stripe leaves what stands
pub beside_stands : (z : Sizes) (contents : Contents) (p : Platter) (st : Servers) (tables : Tables) (tree : Tree) (r : ServerId × Request) → StandFor z contents p st tables tree → StoresBytes r.1
    → ((l : LogId) (t : ℕ) (h : HeldUse) → held_at l t tables.held ≡ Some h → IsBeside r.1 l t) → StandFor z contents p (after_asked st r) tables tree
beside_stands z contents p st tables tree r s stores others = record {
  says = s.says;
  agree = record {
    one_unfit = s.agree.one_unfit;
    agree = λ x may l t h e. stripe_same z.servers z.fragment st.maps (carried st.maps r) x contents l t h.end (λ k a. beside z.servers st.maps r l t k (others l t h e)) (s.agree.agree x may l t h e);
  };
  none_empty = kept_by st.maps r stores s.none_empty;
}
