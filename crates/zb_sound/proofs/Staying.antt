-- What leaves a flush as it is, at work or at its end.
use Rattle.std.proofs.Common.{◌≡◌, ◌≢◌, ◌⊎◌, ℕ, ◌<◌, ◌-◌, true, false, eqb, List, [], ◌∷◌, length, take, get_or, Option, refl, sym, ap, ◌∙◌, subst, inl, inr, arith}
use Rattle.std.proofs.lemmas.Bool.{eqb-false, ne_eqb, and_left, and_right}
use Rattle.zb_types.specs.declared.ids.LogId.{LogId}
use Rattle.zb_types.specs.declared.ids.Piece.{Piece}
use Rattle.zb_types.specs.declared.ids.ServerId.{ServerId}
use Rattle.zb_types.specs.declared.nodes.Class.{Class}
use Rattle.zb_types.specs.declared.nodes.Members.{Members}
use Rattle.zb_types.specs.declared.nodes.State.TheVariants.{Out, Mending}
use Rattle.zb_types.specs.declared.requests.Request.{Request}
use Rattle.zb_types.specs.declared.tables.HeldUse.{HeldUse}
use Rattle.zb_holding.specs.Placing.{frag_id, server_of}
use Rattle.zb_holding.specs.Holding.{standing, away_at}
use Rattle.zb_stripe.specs.declared.flush.Part.{Part}
use Rattle.zb_stripe.specs.declared.flush.Flush.{Flush}
use Rattle.zb_stripe_laws.specs.PlanAtWork.{IsBesideEach}
use Rattle.zb_stripe_laws.proofs.Beside.{beside}
use Rattle.zb_stripe_laws.proofs.Seeing.{holds_seen}
use Rattle.zb_stripe_laws.proofs.Plans.{stays}
use Rattle.zb_tables.specs.Tables.{Contents, held_at}
use Rattle.zb_tables.specs.Fold.{held_with, held_with_all, retired}
use Rattle.zb_tables.specs.Taking.{Sizes, IsServer, IsOther}
use Rattle.zb_tables.proofs.Holding.{held_at-put_other, held_at-retired_other}
use Rattle.zb_recovery.specs.Missing.{Servers, MayMiss, is_unfit}
use Rattle.zb_sound.specs.Standing.{seen}
use Rattle.zb_sound.specs.Delivering.{after_asked, allowed, any_one, CoversHeld, FlushWorks, MayGoOn, Missing, Misses, PartFits, PartsStand, PartStands}
use Rattle.zb_sound.specs.Changing.{OthersFit, OthersSame}
use Rattle.zb_sound.specs.Staying.{LeavesParts, SameStripe, SameStripes}
use Rattle.zb_sound.proofs.Changing.{others_may, mark_unfit}

module _ (z : Sizes) (log : LogId) where
  -- a part fits where what is held of its stripe is as before
  fits_same : (contents new : Contents) (held after : List HeldUse) (part : Part) → SameStripe contents new held after log part → PartFits z contents held log part → PartFits z new after log part
  fits_same contents new held after part same fit = record {
    writable = fit.writable;
    before = λ h e. fit.before h (sym same.same_held ∙ e);
    same = λ h e. fit.same h (sym same.same_held ∙ e) ∙ ap (take h.end) (sym same.same_contents);
  }

  covers_same : (contents new : Contents) (held after : List HeldUse) (part : Part) → SameStripe contents new held after log part → CoversHeld contents held log part → CoversHeld new after log part
  covers_same contents new held after part same c = record {
    within = λ h e. c.within h (sym same.same_held ∙ e);
    same = λ h e. c.same h (sym same.same_held ∙ e) ∙ ap (take h.end) (sym same.same_contents);
  }

  module _ (st new : Servers) (who after : Missing) where
    part_stays : (parts : List Part) (leaves : LeavesParts z st new who after log parts) (x : Option ServerId) → Misses z.servers new after x → (i : ℕ) (d : Part) → i < length parts
        → PartStands (seen z st x) log (get_or parts i d) → PartStands (seen z new x) log (get_or parts i d)
    part_stays parts leaves x may i d l stand =
        let part = get_or parts i d in
        holds_seen (z.servers - 1) z.fragment (standing z.servers st.maps log part.stripe) (standing z.servers new.maps log part.stripe)
        (away_at z.servers x log part.stripe) (length part.bytes) part.bytes (λ k a. leaves.same x may i d l k a) stand

    pub stands_stay : (parts : List Part) → LeavesParts z st new who after log parts → PartsStand z st who log parts → PartsStand z new after log parts
    stands_stay parts leaves stand x may i d l = part_stays parts leaves x may i d l (stand x (leaves.fewer x may) i d l)

    pub go_on_stays : (contents new_contents : Contents) (held later : List HeldUse) (part : Part) → LeavesParts z st new who after log (part ∷ []) → SameStripe contents new_contents held later log part
        → MayGoOn z contents st held who log part → MayGoOn z new_contents new later after log part
    go_on_stays contents new_contents held later part leaves same go = record {
      stands = λ x may. part_stays (part ∷ []) leaves x may 0 part (omega arith) (go.stands x (leaves.fewer x may));
      covers = covers_same contents new_contents held later part same go.covers;
    }

pub works_stay : (z : Sizes) (st new : Servers) (who after : Missing) (contents new_contents : Contents) (held later : List HeldUse) (out : Option ServerId) (class : Class) (flush : Flush) (left : List (ServerId × Request))
    → LeavesParts z st new who after flush.log flush.parts → SameStripes contents new_contents held later flush.log flush.parts
    → FlushWorks z contents st held who out class flush left → FlushWorks z new_contents new later after out class flush left
works_stay z st new who after contents new_contents held later out class flush left leaves same w = record {
  fits = λ i d l. fits_same z flush.log contents new_contents held later (get_or flush.parts i d) (same i d l) (w.fits i d l);
  each = λ x may.
      let at = w.each x (leaves.fewer x may) in
      record { spared = at.spared; work = stays (seen z st x) out class flush new.maps left (leaves.same x may) at.work };
}

module _ (z : Sizes) (log : LogId) (parts : List Part) where
  -- nothing that changed leaves them
  pub nothing_leaves : (st : Servers) (who : Missing) → LeavesParts z st st who who log parts
  nothing_leaves st who = record { fewer = λ x may. may; same = λ x may i d l k a. refl }

  misses : (st : Servers) (asked : ServerId × Request) (who : Missing) (x : Option ServerId) → Misses z.servers (after_asked st asked) who x → Misses z.servers st who x
  misses st asked (allowed members) x may = may
  misses st asked any_one x may = may

  -- a request about other stripes
  pub beside_leaves : (st : Servers) (who : Missing) (asked : ServerId × Request) → IsBesideEach asked.1 log parts → LeavesParts z st (after_asked st asked) who who log parts
  beside_leaves st who asked is = record {
    fewer = λ x may. misses st asked who x may;
    same = λ x may i d l k a. beside z.servers st.maps asked log (get_or parts i d).stripe k (is i d l);
  }

  -- those that the members allow may be missing, in place of any one
  pub fewer_leaves : (st : Servers) (members : Members) → LeavesParts z st st any_one (allowed members) log parts
  fewer_leaves st members = record { fewer = λ x may. may.among; same = λ x may i d l k a. refl }

  -- a server is marked where all others are fit
  pub mark_leaves : (st : Servers) (before members : Members) (a : ServerId) → IsServer z.servers a → (members.state ≡ Out a) ⊎ (members.state ≡ Mending a)
      → OthersFit z before st a → LeavesParts z st st (allowed before) (allowed members) log parts
  mark_leaves st before members a is state others = record {
    fewer = λ x may. subst (λ (y : Option ServerId). MayMiss z.servers before st.blank y) (sym (may.covers a is (mark_unfit members st a state))) (others_may z st before a is others);
    same = λ x may i d l k away. refl;
  }

  -- whatever becomes of one server that isn't fit, where all others are
  pub away_leaves : (st new : Servers) (members : Members) (a : ServerId) → IsServer z.servers a → is_unfit members new.blank a ≡ true → OthersFit z members st a → OthersSame st new a
      → LeavesParts z st new (allowed members) (allowed members) log parts
  away_leaves st new members a is unfit others same = record {
    fewer = λ x may. subst (λ (y : Option ServerId). MayMiss z.servers members st.blank y) (sym (may.covers a is unfit)) (others_may z st members a is others);
    same = λ x may i d l k away.
        let id = frag_id log (get_or parts i d).stripe k in
        let there = subst (λ (y : Option ServerId). away_at z.servers y log (get_or parts i d).stripe k ≡ false) (may.covers a is unfit) away in
        same.maps (server_of z.servers id) id (λ y. eqb-false a.0 (server_of z.servers id).0 there (sym y));
  }

-- a commit of another log leaves what is held of a log
pub commit_leaves : (log : LogId) (born : ℕ) (pieces : List Piece) (held : List HeldUse) (l : LogId) (t : ℕ) → l.0 ≢ log.0 → held_at l t (held_with_all log born pieces held) ≡ held_at l t held
commit_leaves log born [] held l t ne = refl
commit_leaves log born (p ∷ ps) held l t ne =
    commit_leaves log born ps (held_with log born p held) l t ne
    ∙ held_at-put_other _ l t held (and_left (eqb log.0 l.0) (eqb p.stripe t) (ne_eqb log.0 l.0 (λ e. ne (sym e))))

-- so does a stripe that is given up, of each other stripe
pub retire_leaves : (log : LogId) (stripe : ℕ) (held : List HeldUse) (l : LogId) (t : ℕ) → IsOther log stripe l t → held_at l t (retired log stripe held) ≡ held_at l t held
retire_leaves log stripe held l t (inl ne) = held_at-retired_other log stripe l t held (and_left (eqb l.0 log.0) (eqb t stripe) (ne_eqb l.0 log.0 ne))
retire_leaves log stripe held l t (inr ne) = held_at-retired_other log stripe l t held (and_right (eqb l.0 log.0) (eqb t stripe) (ne_eqb t stripe ne))
