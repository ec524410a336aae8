-- A plan of several parts, request by request.
use Rattle.std.proofs.Common.{◌≡◌, ℕ, suc, ◌-◌, ◌*◌, ◌<◌, ◌≤◌, List, [], ◌∷◌, ◌++◌, length, take, get_or, Option, Some, refl, sym, ap, ◌∙◌, subst, arith}
use Rattle.std.specs.Prelude.{All, slice_get}
use Rattle.std.proofs.lemmas.List.{append_assoc, append-nil, take_at, get_or_at, length-append}
use Rattle.std.proofs.lemmas.Option.{none-some, same_Some}
use Rattle.zb_types.specs.declared.ids.ServerId.{ServerId}
use Rattle.zb_types.specs.declared.nodes.Class.{Class}
use Rattle.zb_types.specs.declared.requests.Request.{Request}
use Rattle.zb_types.specs.declared.requests.Response.TheVariants as told
use Rattle.zb_holding.specs.Placing.{frag_id, server_of}
use Rattle.zb_holding.specs.Holding.{Maps, View, with_maps, StripeHolds, standing}
use Rattle.zb_holding.specs.Carrying.{carried_all, after_request}
use Rattle.zb_stripe.specs.declared.flush.Part.{Part}
use Rattle.zb_stripe.specs.declared.flush.Flush.{Flush}
use Rattle.zb_stripe.specs.Writing.{plan_requests, IsWritable, StripesRise}
use Rattle.zb_stripe.specs.Feeding.{left_after}
use Rattle.zb_stripe_laws.specs.PartAtWork.{IsSpared, MayBegin, PartAtWork, AreElsewhere, StripesDiffer, StandsAsIn}
use Rattle.zb_stripe_laws.specs.PlanAtWork.{EachStandsAsIn, PlanAtWork}
use Rattle.zb_stripe_laws.proofs.Carrying.{carried-append}
use Rattle.zb_stripe_laws.proofs.Working.{placed, All_requests, others_leave, others_elsewhere, long_enough, at_work_holds, at_work_ends}

abbrev Requests : Type 0
Requests = List (ServerId × Request)

-- what holds of each part holds of one
at_part : (P : Part → Type 0) (before after : List Part) (part : Part) → All P (before ++ part ∷ after) → P part
at_part P before after part all =
    subst P (get_or_at before part after part (length before) refl) (all (length before) part (omega (arith, length-append before (part ∷ after))))

-- stripes that rise differ
elsewhere_above : (stripe : ℕ) (parts : List Part) → ((j : ℕ) (d : Part) → j < length parts → stripe < (get_or parts j d).stripe) → AreElsewhere stripe parts
elsewhere_above stripe [] above = tt
elsewhere_above stripe (part ∷ parts) above =
    let lt = above 0 part (omega arith) in
    ((λ e. omega arith), elsewhere_above stripe parts (λ j d l. above (suc j) d (omega arith)))

pub rise_differ : (parts : List Part) → StripesRise parts → StripesDiffer parts
rise_differ [] r = tt
rise_differ (part ∷ parts) r = (
  elsewhere_above part.stripe parts (λ j d l. r 0 (suc j) d (omega arith) (omega arith)),
  rise_differ parts (λ i j d lt l. r (suc i) (suc j) d (omega arith) (omega arith)),
)

module _ (v : View) (out : Option ServerId) (class : Class) (flush : Flush) where
  abbrev Plan : Requests
  Plan = plan_requests v.servers v.fragment out class flush

  pub begins : StripesDiffer flush.parts → All (MayBegin v flush.log) flush.parts → PlanAtWork v out class flush Plan
  begins differ begin = record { start = v.maps; done = []; all = refl; differ = differ; begins = begin; now = λ i d l k a. refl }

  -- the next request is carried out
  pub goes_on : (left : Requests) (request : ServerId × Request) → slice_get left 0 ≡ Some request → PlanAtWork v out class flush left
      → PlanAtWork (after_request v request) out class flush (left_after left told.Done)
  goes_on [] request is w = absurd (none-some request is)
  goes_on (r ∷ rest) request is w = subst (λ (q : ServerId × Request). PlanAtWork (after_request v q) out class flush rest) (same_Some r request is) (record {
    start = w.start;
    done = w.done ++ r ∷ [];
    all = w.all ∙ sym (append_assoc w.done (r ∷ []) rest);
    differ = w.differ;
    begins = w.begins;
    now = λ i d l k a.
        let stripe = (get_or flush.parts i d).stripe in
        let id = frag_id flush.log stripe k in
        ap (placed (server_of v.servers id) id r) (w.now i d l k a)
        ∙ ap (λ (ms : Maps). standing v.servers ms flush.log stripe k) (sym (carried-append w.start w.done (r ∷ [])));
  })

  -- whatever else changes, the plan stays at work where its stripes are as before
  pub stays : (new : Maps) (left : Requests) → EachStandsAsIn (with_maps v new) v.maps flush.log flush.parts → PlanAtWork v out class flush left
      → PlanAtWork (with_maps v new) out class flush left
  stays new left same w = record {
    start = w.start;
    done = w.done;
    all = w.all;
    differ = w.differ;
    begins = w.begins;
    now = λ i d l k a. same i d l k a ∙ w.now i d l k a;
  }

  module _ (left : Requests) (w : PlanAtWork v out class flush left) (before after : List Part) (part : Part) (is : flush.parts ≡ before ++ part ∷ after) where
    abbrev First : Requests
    First = All_requests v.servers v.fragment out class flush.log before

    abbrev Behind : Requests
    Behind = All_requests v.servers v.fragment out class flush.log (before ++ part ∷ after)

    -- the requests that were carried out are the plan's first
    first_done : w.done ≡ take (length w.done) Behind
    first_done =
        sym (take_at w.done left (length w.done) refl) ∙ ap (take (length w.done)) (sym w.all)
        ∙ ap (λ (ps : List Part). take (length w.done) (All_requests v.servers v.fragment out class flush.log ps)) is

    -- each part is at work
    pub part_of_plan : PartAtWork v out class flush.log part (length w.done - length First)
    part_of_plan =
        let away = others_elsewhere before after part (subst StripesDiffer is w.differ) in
        record {
          start = w.start;
          begins = at_part (MayBegin (with_maps v w.start) flush.log) before after part (subst (All (MayBegin (with_maps v w.start) flush.log)) is w.begins);
          now = λ k a.
              at_part (λ (p : Part). StandsAsIn v (carried_all w.start w.done) flush.log p.stripe) before after part
              (subst (All (λ (p : Part). StandsAsIn v (carried_all w.start w.done) flush.log p.stripe)) is w.now) k a
              ∙ ap (λ (rs : Requests). standing v.servers (carried_all w.start rs) flush.log part.stripe k) first_done
              ∙ others_leave v.servers v.fragment out class flush.log w.start before after part (length w.done) k away.0 away.1;
        }

    pub holds : (end : ℕ) → IsWritable ((v.servers - 1) * v.fragment) part → IsSpared out v.away → 0 < end → end ≤ part.begin
        → StripeHolds v flush.log part.stripe end part.bytes
    holds end fits spared some le =
        at_work_holds v.servers v.fragment out class flush.log part fits v.maps v.away end (length w.done - length First) spared some le part_of_plan

    -- with no requests left the part stands whole
    pub ends : left ≡ [] → IsWritable ((v.servers - 1) * v.fragment) part → IsSpared out v.away
        → StripeHolds v flush.log part.stripe (length part.bytes) part.bytes
    ends none fits spared =
        let long = long_enough v.servers v.fragment out class flush.log before after part in
        let all : Behind ≡ w.done =
        ap (λ (ps : List Part). All_requests v.servers v.fragment out class flush.log ps) (sym is) ∙ w.all
        ∙ ap (λ (rs : Requests). w.done ++ rs) none ∙ append-nil w.done in
        let count = ap length all in
        at_work_ends v.servers v.fragment out class flush.log part fits v.maps v.away (length w.done - length First) spared (omega arith) part_of_plan
