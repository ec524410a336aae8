-- Where the next flush of a log begins, and how its last flush goes on.
use Rattle.std.proofs.Common.{◌≡◌, ◌≢◌, ℕ, suc, ◌+◌, ◌<◌, ◌≤◌, max, Bool, eqb, List, [], ◌∷◌, ◌++◌, length, length-append, get_or, take, Option, Some, None, refl, sym, ap, ◌∙◌, subst, inl, inr, arith, append_assoc}
use Rattle.std.specs.Prelude.{All, if◌then◌else◌, slice_get}
use Rattle.std.proofs.lemmas.Bool.{cases_eq, cond_both, eq-eqb, ne_eqb}
use Rattle.std.proofs.lemmas.Option.{none-some, same_Some}
use Rattle.zb_types.specs.declared.ids.LogId.{LogId}
use Rattle.zb_types.specs.declared.ids.ServerId.{ServerId}
use Rattle.zb_types.specs.declared.ids.Piece.{Piece}
use Rattle.zb_types.specs.declared.nodes.Class.{Class}
use Rattle.zb_types.specs.declared.requests.Request.{Request}
use Rattle.zb_types.specs.declared.requests.Response.TheVariants as told
use Rattle.zb_types.specs.declared.tables.HeldUse.{HeldUse}
use Rattle.zb_types.specs.Tree.{Tree}
use Rattle.zb_holding.specs.Placing.{frag_id, server_of}
use Rattle.zb_stripe.specs.declared.flush.Part.{Part}
use Rattle.zb_stripe.specs.declared.flush.Flush.{Flush}
use Rattle.zb_stripe.specs.Writing.{StripesRise, plan_requests}
use Rattle.zb_stripe.specs.Feeding.{left_after}
use Rattle.zb_stripe_laws.specs.PartAtWork.{IsUnwritten, IsSpared, MayBegin}
use Rattle.zb_stripe_laws.proofs.Plans.{rise_differ}
use Rattle.zb_log.specs.Sealing.{GoesNext, given_of}
use Rattle.zb_tables.specs.Tables.{Contents, SameIn, Tables, end_of, held_at}
use Rattle.zb_tables.specs.Fold.{held_with_all}
use Rattle.zb_batch.specs.declared.batch.Batch.{Batch}
use Rattle.zb_entries.specs.declared.entry.Entry.TheVariants.{Commit}
use Rattle.zb_tables.specs.Pointing.{OpsLie}
use Rattle.zb_tables.specs.Replay.{IsBatchOf, Platter}
use Rattle.zb_tables.specs.Taking.{MayCommit, Sizes, commit_refusal, stripe_room}
use Rattle.zb_recovery.specs.Missing.{Servers}
use Rattle.zb_sound.specs.Standing.{StandFor, seen}
use Rattle.zb_sound.specs.Delivering.{BeginsAsHeld, after_asked, allowed, FlushBegins, ForEach, IsNext, MayGoOn, Missing, PartFits, PartStands, with_parts}
use Rattle.zb_sound.specs.Committing.{AreInFlush, IsFlushed}
use Rattle.zb_sound.specs.Staying.{LeavesParts, SameStripes}
use Rattle.zb_sound.specs.LastFlush.{after_all, IsLastOf, LastFlush, NothingFrom, Phase, anew, behind, flushing, parts_in, PhaseStands, stripe_of}
use Rattle.zb_sound.proofs.Listed.{Among, at_part}
use Rattle.zb_sound.proofs.Delivering.{next_stands, flush_begins, flush_ends, next_works, get_behind}
use Rattle.zb_sound.proofs.Flushing.{commit_covers, flushed_stand, parts_same, fits_covers, next_begins, next_fits}
use Rattle.zb_sound.proofs.Staying.{go_on_stays, works_stay}
use Rattle.zb_sound.proofs.Unheld.{unwritten_not_held}
use Rattle.zb_sound.proofs.Fronts.{behind_request, last_greatest, nothing_still, plan_of, stripe_within}

abbrev Requests : Type 0
Requests = List (ServerId × Request)

given_here : (at : ℕ) (given : List ℕ) (stripe : ℕ) → stripe ≡ at → given_of at given stripe ≡ given
given_here at given stripe e = ap (λ (b : Bool). if b then given else []) (eq-eqb stripe at e)

given_later : (at : ℕ) (given : List ℕ) (stripe : ℕ) → stripe ≢ at → given_of at given stripe ≡ []
given_later at given stripe ne = ap (λ (b : Bool). if b then given else []) (ne_eqb stripe at ne)

given_none : (at stripe : ℕ) → given_of at [] stripe ≡ []
given_none at stripe = cond_both (eqb stripe at) [] [] (λ (bytes : List ℕ). bytes ≡ []) (λ _. refl) (λ _. refl)

module _ (z : Sizes) (contents : Contents) (p : Platter) (st : Servers) (tables : Tables) (tree : Tree) (who : Missing) (front : ℕ) (flush : Flush)
    (s : StandFor z contents p st tables tree) (two : 2 ≤ z.servers) (pos : 0 < z.fragment) (nothing : NothingFrom st.maps flush.log front) where
  unwritten : (stripe : ℕ) → front ≤ stripe → (x : Option ServerId) → IsUnwritten (seen z st x) flush.log stripe
  unwritten stripe le x k lt looked = nothing (server_of z.servers (frag_id flush.log stripe k)) (frag_id flush.log stripe k) refl le

  not_held : (stripe : ℕ) → front ≤ stripe → held_at flush.log stripe tables.held ≡ None
  not_held stripe le = unwritten_not_held z contents p st tables tree flush.log stripe s two pos (λ x may. unwritten stripe le x) (held_at flush.log stripe tables.held) refl

  module _ (at : ℕ) (given : List ℕ) (part : Part) (next : GoesNext (stripe_room z) at given part) where
    -- the first part of a stripe of which nothing stands
    first_fits : front ≤ part.stripe → PartFits z contents tables.held flush.log part
    first_fits le = record {
      writable = next.writable;
      before = λ h e. absurd (none-some h (sym (not_held part.stripe le) ∙ e));
      same = λ h e. absurd (none-some h (sym (not_held part.stripe le) ∙ e));
    }

    first_begins : given_of at given part.stripe ≡ [] → front ≤ part.stripe → (x : Option ServerId) → MayBegin (seen z st x) flush.log part
    first_begins none le x = inr (record { begin = next.begin ∙ ap length none; unwritten = unwritten part.stripe le x })

  module _ (out : Option ServerId) (rise : StripesRise flush.parts) (spared : ForEach z.servers st who (λ x. IsSpared out x)) where
    pub anew_begins : (at : ℕ) → front ≤ at → All (GoesNext (stripe_room z) at []) flush.parts → FlushBegins z contents st tables.held who out flush
    anew_begins at le nexts = record {
      differ = rise_differ flush.parts rise;
      fits = λ i d l. let next = nexts i d l in let above = next.above in first_fits at [] (get_or flush.parts i d) next (omega arith);
      each = λ x may. record {
        spared = spared x may;
        begin = λ i d l.
            let next = nexts i d l in
            let above = next.above in
            first_begins at [] (get_or flush.parts i d) next (given_none at (get_or flush.parts i d).stripe) (omega arith) x;
      };
    }

    module _ (former : Part) (reached : front ≤ former.stripe + 1) (go : MayGoOn z contents st tables.held who flush.log former) where
      is_next : (part : Part) → GoesNext (stripe_room z) former.stripe former.bytes part → part.stripe ≡ former.stripe → IsNext former part
      is_next part next e =
          let here = given_here former.stripe former.bytes part.stripe e in
          record { stripe = e; begin = next.begin ∙ ap length here; bytes = next.front ∙ here }

      behind_fits : (part : Part) → GoesNext (stripe_room z) former.stripe former.bytes part → PartFits z contents tables.held flush.log part
      behind_fits part next = elim (cases_eq part.stripe former.stripe) as (λ _. PartFits z contents tables.held flush.log part) [
        | inl e ↦ next_fits z contents tables.held flush.log former part go.covers (is_next part next e) next.writable
        | inr ne ↦ let above = next.above in first_fits former.stripe former.bytes part next (omega (arith, ne))
      ]

      behind_begin : (part : Part) → GoesNext (stripe_room z) former.stripe former.bytes part → (x : Option ServerId) → PartStands (seen z st x) flush.log former → MayBegin (seen z st x) flush.log part
      behind_begin part next x stands = elim (cases_eq part.stripe former.stripe) as (λ _. MayBegin (seen z st x) flush.log part) [
        | inl e ↦ next_begins (seen z st x) flush.log former part stands (is_next part next e)
        | inr ne ↦ let above = next.above in first_begins former.stripe former.bytes part next (given_later former.stripe former.bytes part.stripe ne) (omega (arith, ne)) x
      ]

      pub behind_begins : All (GoesNext (stripe_room z) former.stripe former.bytes) flush.parts → FlushBegins z contents st tables.held who out flush
      behind_begins nexts = record {
        differ = rise_differ flush.parts rise;
        fits = λ i d l. behind_fits (get_or flush.parts i d) (nexts i d l);
        each = λ x may. record { spared = spared x may; begin = λ i d l. behind_begin (get_or flush.parts i d) (nexts i d l) x (go.stands x may) };
      }

-- ---- how the last flush goes on

-- there is no last of no parts
pub none_last : (front : ℕ) (part : Part) → IsLastOf part [] → front ≤ part.stripe + 1
none_last front part last = none last.0 last.1 where
  none : (before : List Part) → [] ≡ before ++ part ∷ [] → front ≤ part.stripe + 1
  none [] e = let long = ap length e in absurd (omega arith)
  none (q ∷ before) e = let long = ap length e in absurd (omega arith)

-- the last of one part
last_of_one : (part other : Part) → IsLastOf other (part ∷ []) → part.stripe ≡ other.stripe
last_of_one part other one = only one.0 one.1 where
  only : (before : List Part) → part ∷ [] ≡ before ++ other ∷ [] → part.stripe ≡ other.stripe
  only [] e = ap (λ (ps : List Part). (get_or ps 0 part).stripe) e
  only (q ∷ before) e =
      let long : 1 ≡ suc (length (before ++ other ∷ [])) = ap length e in
      let more = length-append before (other ∷ []) in
      absurd (omega (arith, long, more))

-- a part among some, once the last of them is known
last_among : (part : Part) (parts : List Part) → IsLastOf part parts → Among parts part
last_among part parts last = record { before = last.0; after = []; is = last.1 }

pub last_begins : (z : Sizes) (contents : Contents) (st : Servers) (held : List HeldUse) (who : Missing) (front at : ℕ) (phase : Phase)
    (given : List ℕ) (out : Option ServerId) (class : Class) (flush : Flush)
    → LastFlush z contents st held who flush.log front phase → FlushBegins z contents st held who out flush → StripesRise flush.parts
    → front ≤ at + 1 → All (GoesNext (stripe_room z) at given) flush.parts
    → LastFlush z contents st held who flush.log front (flushing out class flush (plan_requests z.servers z.fragment out class flush))
last_begins z contents st held who front at phase given out class flush w b rise le nexts = record {
  nothing = w.nothing;
  reached = λ part last. let above = (at_part flush.parts (GoesNext (stripe_room z) at given) part (last_among part flush.parts last) nexts).above in omega arith;
  stands = record {
    log_is = refl;
    rise = rise;
    done = [];
    all = refl;
    works = flush_begins z contents out class flush st held who b;
  };
}

module _ (z : Sizes) (contents : Contents) (st : Servers) (held : List HeldUse) (who : Missing) (log : LogId) (front : ℕ) (out : Option ServerId) (class : Class) (flush : Flush) where
  one_more : (done left : Requests) (r : ServerId × Request) → slice_get left 0 ≡ Some r → plan_requests z.servers z.fragment out class flush ≡ done ++ left
      → plan_requests z.servers z.fragment out class flush ≡ (done ++ r ∷ []) ++ left_after left told.Done
  one_more done [] r is all = absurd (none-some r is)
  one_more done (a ∷ rest) r is all =
      all ∙ sym (append_assoc done (a ∷ []) rest) ∙ ap (λ (q : ServerId × Request). (done ++ q ∷ []) ++ rest) (same_Some a r is)

  pub last_goes_on : (left : Requests) (r : ServerId × Request) → slice_get left 0 ≡ Some r → LastFlush z contents st held who log front (flushing out class flush left)
      → LastFlush z contents (after_asked st r) held who log (max front (stripe_of r.1 + 1)) (flushing out class flush (left_after left told.Done))
  last_goes_on left r is w =
      let s = w.stands in
      let below : (part : Part) → IsLastOf part flush.parts → stripe_of r.1 ≤ part.stripe = λ part last.
      stripe_within part.stripe r.1 (plan_of (λ id. id.stripe ≤ part.stripe) z.servers z.fragment out class flush (λ q a k. last_greatest flush.parts s.rise part q last a)
      (length s.done) r (ap (λ (rs : Requests). slice_get rs (length s.done)) s.all ∙ get_behind s.done left ∙ is)) in
      record {
        nothing = nothing_still st.maps r log (max front (stripe_of r.1 + 1)) (behind_request log front r.1) (λ server id el le. w.nothing server id el (omega arith));
        reached = λ part last. let a = w.reached part last in let b = below part last in omega arith;
        stands = record {
          log_is = s.log_is;
          rise = s.rise;
          done = s.done ++ r ∷ [];
          all = one_more s.done left r is s.all;
          works = next_works z contents out class flush st held who left r is s.works;
        };
      }

  module _ (part : Part) (w : LastFlush z contents st held who log front (flushing out class flush [])) (last : IsLastOf part flush.parts) where
    part_stands : ForEach z.servers st who (λ x. PartStands (seen z st x) flush.log part)
    part_stands x may = at_part flush.parts (PartStands (seen z st x) flush.log) part (last_among part flush.parts last) (flush_ends z contents out class flush st held who w.stands.works x may)

    behind_one : (other : Part) → IsLastOf other (part ∷ []) → front ≤ other.stripe + 1
    behind_one other one = let a = w.reached part last in let same = last_of_one part other one in omega arith

    pub last_ends : LastFlush z contents st held who log front (behind part)
    last_ends = record {
      nothing = w.nothing;
      reached = behind_one;
      stands = subst (λ (l : LogId). MayGoOn z contents st held who l part) w.stands.log_is (record {
        stands = part_stands;
        covers = fits_covers z contents held flush.log part (at_part flush.parts (PartFits z contents held flush.log) part (last_among part flush.parts last) w.stands.works.fits);
      });
    }

    pub last_commits : (born : ℕ) (pieces : List Piece) → AreInFlush flush pieces → LastFlush z (with_parts contents log flush.parts) st (held_with_all log born pieces held) who log front (behind part)
    last_commits born pieces are = record {
      nothing = w.nothing;
      reached = behind_one;
      stands = subst (λ (l : LogId). MayGoOn z (with_parts contents l flush.parts) st (held_with_all l born pieces held) who l part) w.stands.log_is (record {
        stands = part_stands;
        covers = commit_covers z contents held flush (rise_differ flush.parts w.stands.rise) w.stands.works.fits born pieces are part (last_among part flush.parts last);
      });
    }

-- what leaves the parts leaves the last flush
module _ (z : Sizes) (contents new_contents : Contents) (st new : Servers) (held later : List HeldUse) (who after : Missing) (log : LogId) where
  phase_stays : (phase : Phase) → LeavesParts z st new who after log (parts_in phase) → SameStripes contents new_contents held later log (parts_in phase)
      → PhaseStands z contents st held who log phase → PhaseStands z new_contents new later after log phase
  phase_stays anew leaves same s = tt
  phase_stays (flushing out class flush left) leaves same s = record {
    log_is = s.log_is;
    rise = s.rise;
    done = s.done;
    all = s.all;
    works = works_stay z st new who after contents new_contents held later out class flush left
        (subst (λ (l : LogId). LeavesParts z st new who after l flush.parts) (sym s.log_is) leaves)
        (subst (λ (l : LogId). SameStripes contents new_contents held later l flush.parts) (sym s.log_is) same) s.works;
  }
  phase_stays (behind part) leaves same s = go_on_stays z log st new who after contents new_contents held later part leaves (same 0 part (omega arith)) s

  pub last_stays : (front : ℕ) (phase : Phase) → LeavesParts z st new who after log (parts_in phase) → SameStripes contents new_contents held later log (parts_in phase)
      → NothingFrom new.maps log front → LastFlush z contents st held who log front phase → LastFlush z new_contents new later after log front phase
  last_stays front phase leaves same nothing w = record { nothing = nothing; reached = w.reached; stands = phase_stays phase leaves same w.stands }

-- contents that agree on what is committed
module _ (z : Sizes) (contents new : Contents) (st : Servers) (held : List HeldUse) (who : Missing) (log : LogId) (same : SameIn held contents new) where
  begins_grown : (l : LogId) (part : Part) → BeginsAsHeld contents held l part → BeginsAsHeld new held l part
  begins_grown l part begins h e = begins h e ∙ subst (λ (o : Option HeldUse). take (end_of o) (contents l part.stripe) ≡ take (end_of o) (new l part.stripe)) e (same l part.stripe)

  phase_grows : (phase : Phase) → PhaseStands z contents st held who log phase → PhaseStands z new st held who log phase
  phase_grows anew s = tt
  phase_grows (flushing out class flush left) s = record {
    log_is = s.log_is;
    rise = s.rise;
    done = s.done;
    all = s.all;
    works = record {
      fits = λ i d l. let fit = s.works.fits i d l in record { writable = fit.writable; before = fit.before; same = begins_grown flush.log (get_or flush.parts i d) fit.same };
      each = s.works.each;
    };
  }
  phase_grows (behind part) s = record { stands = s.stands; covers = record { within = s.covers.within; same = begins_grown log part s.covers.same } }

  pub last_grows : (front : ℕ) (phase : Phase) → LastFlush z contents st held who log front phase → LastFlush z new st held who log front phase
  last_grows front phase w = record { nothing = w.nothing; reached = w.reached; stands = phase_grows phase w.stands }

-- ---- a flush to its end

module _ (z : Sizes) (contents : Contents) (p : Platter) (tables : Tables) (tree : Tree) (log : LogId) (out : Option ServerId) (class : Class) (flush : Flush) where
  abbrev AtWork : Servers → ℕ → Requests → Type 0
  AtWork st front left = LastFlush z contents st tables.held (allowed tables.members) log front (flushing out class flush left)

  pub to_end : (left : Requests) (st : Servers) (front : ℕ) → StandFor z contents p st tables tree → AtWork st front left
      → (later : ℕ) × StandFor z contents p (after_all st left) tables tree × AtWork (after_all st left) later []
  to_end [] st front s w = (front, s, w)
  to_end (r ∷ rest) st front s w =
      to_end rest (after_asked st r) (max front (stripe_of r.1 + 1)) (next_stands z contents out class flush p st tables tree s (r ∷ rest) r refl w.stands.works)
      (last_goes_on z contents st tables.held (allowed tables.members) log front out class flush (r ∷ rest) r refl w)

pub ended_flushed : (z : Sizes) (contents : Contents) (p : Platter) (st : Servers) (tables : Tables) (tree : Tree) (front : ℕ) (out : Option ServerId) (class : Class) (flush : Flush)
    (number generation : ℕ) (pieces : List Piece) (batch : Batch) → StandFor z contents p st tables tree → LastFlush z contents st tables.held (allowed tables.members) flush.log front (flushing out class flush [])
    → AreInFlush flush pieces → IsBatchOf (with_parts contents flush.log flush.parts) (Commit flush.log number generation pieces) batch → MayCommit z tables batch pieces
    → commit_refusal z.block tables batch pieces generation ≡ None → OpsLie (held_with_all flush.log tables.next_entry pieces tables.held) batch.ops
    → IsFlushed z contents (with_parts contents flush.log flush.parts) st tables flush.log number generation pieces batch
ended_flushed z contents p st tables tree front out class flush number generation pieces batch s w are spells may taken lie =
    let differ = rise_differ flush.parts w.stands.rise in
    let fits = w.stands.works.fits in
    record {
      same = parts_same contents flush.log z tables.held flush.parts fits differ;
      spells = spells;
      may = may;
      taken = taken;
      stand = λ x missing. flushed_stand z contents tables.held flush differ fits (seen z st x)
          (flush_ends z contents out class flush st tables.held (allowed tables.members) w.stands.works x missing) (s.agree.agree x missing) tables.next_entry pieces are;
      lie = lie;
    }
