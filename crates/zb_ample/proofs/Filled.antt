-- Servers have fragments of the stripes that were begun, and room for one more while there are few.
use Rattle.std.proofs.Common.{◌≡◌, ℕ, zero, suc, ◌+◌, ◌-◌, ◌*◌, ◌<◌, ◌≤◌, true, false, eqb, leb, List, [], ◌∷◌, length, Option, Some, None, refl, sym, ap, ◌∙◌, subst, arith, inl, inr}
use Rattle.std.specs.Prelude.{filter, if◌then◌else◌, is_some, map, option_map, slice_get, slice_set}
use Rattle.std.specs.List.{AllByRecursion, sum, sum_by}
use Rattle.std.proofs.lemmas.Bool.{cases_Bool, cond-true, cond-false, eqb-true, false_from_ne_true, leb-true, true≢false}
use Rattle.std.proofs.lemmas.List.Sums.{sum_by-cons}
use Rattle.std.proofs.lemmas.Option.{none-some, same_Some, slice_get-map}
use Rattle.zb_types.specs.declared.calls.Call.{Call}
use Rattle.zb_types.specs.declared.geometry.Geometry.{Geometry}
use Rattle.zb_types.specs.declared.ids.FragId.{FragId}
use Rattle.zb_types.specs.declared.ids.ServerId.{ServerId}
use Rattle.zb_types.specs.declared.nodes.Class.{Class}
use Rattle.zb_types.specs.declared.nodes.Class.TheVariants.{Cleaner, Client}
use Rattle.zb_types.specs.declared.requests.Request.{Request}
use Rattle.zb_types.specs.declared.requests.Request.TheVariants as ask
use Rattle.zb_types.specs.Apply.{is_update}
use Rattle.zb_holding.specs.Fragments.{Fragment}
use Rattle.zb_holding.specs.Carrying.{is_about, same_frag}
use Rattle.zb_holding.specs.Rules.{Holdings, is_full}
use Rattle.zb_holding.proofs.Keys.{same_frag-is, same_frag-of}
use Rattle.zb_headline.specs.Need.{space_needed, weight}
use Rattle.zb_given.specs.Given.{Given, calls_of, script_of}
use Rattle.zb_servers_laws.specs.Answered.{IsClients, IsWrite, lacks_slot}
use Rattle.zb_sound.specs.LastFlush.{FindsItsPlace}
use Rattle.zb_need.specs.Filling.{stripes_begun}
use Rattle.zb_need.specs.Weights.{weights}
use Rattle.zb_need.proofs.Beginning.{begun-few}
use Rattle.zb_client.specs.Seen.{SeenClient}
use Rattle.zb_ample.specs.Reaching.{IsPaid, begun_by, load, loads, reached}
use Rattle.zb_ample.specs.Taking.{Belongs, Differ, SlotsAreTaken}
use Rattle.zb_ample.proofs.Counting.{few_belong}
use Rattle.zb_ample.proofs.Needing.{script_needs, sum_spans, updates_want, wants}
use Rattle.zb_ample.proofs.Slots.{all_weaker}

-- ---- what a client's log has begun is few

module _ (geo : Geometry) where
  pub updates_load : (calls : List Call) → weights geo (filter is_update calls) ≡ loads geo calls
  updates_load [] = refl
  updates_load (call ∷ calls) =
      let rest = updates_load calls in
      elim (cases_Bool (is_update call)) [
        | inl update ↦
            let here : load geo call ≡ weight geo call = cond-true (is_update call) (weight geo call) 0 update in
            let kept : filter is_update (call ∷ calls) ≡ call ∷ filter is_update calls = cond-true (is_update call) (call ∷ filter is_update calls) (filter is_update calls) update in
            let more = ap (weights geo) kept in
            omega (arith, rest, here, more, sum_by-cons (load geo) call calls, sum_by-cons (λ (y : ℕ). y) (weight geo call) (map (weight geo) (filter is_update calls)))
        | inr other ↦
            let here : load geo call ≡ 0 = cond-false (is_update call) (weight geo call) 0 other in
            let kept : filter is_update (call ∷ calls) ≡ filter is_update calls = cond-false (is_update call) (call ∷ filter is_update calls) (filter is_update calls) other in
            let more = ap (weights geo) kept in
            omega (arith, rest, here, more, sum_by-cons (load geo) call calls)
      ]

  -- at most as many stripes as the calls that were given to the client want
  pub client_begins_few : (given : Given) (c : SeenClient) → c.log.room ≡ (geo.servers - 1) * geo.fragment → 0 < c.log.room → IsPaid geo given c
      → stripes_begun (reached c) ≤ sum_by (wants geo) (calls_of given c.client)
  client_begins_few given c room some p =
      let all = updates_load (calls_of given c.client) in
      let want = updates_want geo (calls_of given c.client) in
      let paid = p.paid in
      let half = p.half in
      let few = begun-few geo c.log.room (reached c) (filter is_update (calls_of given c.client)) room some (omega (arith, half, paid, all)) in
      omega (arith, few, want)

  -- all logs have begun at most as many as the script needs
  pub all_begin_few : (given : Given) (cs : List SeenClient) → ((i : ℕ) (c : SeenClient) → slice_get cs i ≡ Some c → stripes_begun (reached c) ≤ sum_by (wants geo) (calls_of given (i + 1)))
      → sum (begun_by cs) ≤ space_needed geo (script_of given)
  all_begin_few given cs each =
      let spans = sum_spans (λ i. sum_by (wants geo) (calls_of given (i + 1))) 0 (begun_by cs) (λ i x e. at_place cs i x e each) in
      let needs_all = script_needs geo given (length (begun_by cs)) in
      omega (arith, spans, needs_all) where
        at_place : (cs : List SeenClient) (i x : ℕ) → slice_get (begun_by cs) i ≡ Some x
            → ((i : ℕ) (c : SeenClient) → slice_get cs i ≡ Some c → stripes_begun (reached c) ≤ sum_by (wants geo) (calls_of given (i + 1))) → x ≤ sum_by (wants geo) (calls_of given (0 + i + 1))
        at_place cs i x e each = by (slice_get cs i) refl where
          by : (o : Option SeenClient) → slice_get cs i ≡ o → x ≤ sum_by (wants geo) (calls_of given (0 + i + 1))
          by None nothing = absurd (none-some x (sym (slice_get-map (λ (c : SeenClient). stripes_begun (reached c)) cs i ∙ ap (option_map (λ (c : SeenClient). stripes_begun (reached c))) nothing) ∙ e))
          by (Some c) is =
              let same = same_Some (stripes_begun (reached c)) x (sym (slice_get-map (λ (d : SeenClient). stripes_begun (reached d)) cs i ∙ ap (option_map (λ (d : SeenClient). stripes_begun (reached d))) is) ∙ e) in
              let few = each i c is in
              let place : 0 + i + 1 ≡ i + 1 = omega arith in
              subst (λ (n : ℕ). x ≤ sum_by (wants geo) (calls_of given n)) (sym place) (omega (arith, same, few))

-- a client is at its place among the counts
pub begun_at : (cs : List SeenClient) (i : ℕ) (c : SeenClient) → slice_get cs i ≡ Some c → slice_get (begun_by cs) i ≡ Some (stripes_begun (reached c))
begun_at cs i c is = slice_get-map (λ (d : SeenClient). stripes_begun (reached d)) cs i ∙ ap (option_map (λ (d : SeenClient). stripes_begun (reached d))) is

-- where one of the clients has come as far, or further, so have all
pub begun_grows : (cs : List SeenClient) (i : ℕ) (c d : SeenClient) → slice_get cs i ≡ Some c → stripes_begun (reached c) ≤ stripes_begun (reached d)
    → (j n : ℕ) → slice_get (begun_by cs) j ≡ Some n → (m : ℕ) × ((slice_get (begun_by (slice_set cs i d)) j ≡ Some m) × (n ≤ m))
begun_grows [] i c d is more j n e = absurd (none-some c is)
begun_grows (x ∷ cs) zero c d is more zero n e =
    let same = ap (λ (y : SeenClient). stripes_begun (reached y)) (same_Some x c is) in
    let here = same_Some (stripes_begun (reached x)) n e in
    (stripes_begun (reached d), (refl, omega (arith, same, here, more)))
begun_grows (x ∷ cs) zero c d is more (suc j) n e = (n, (e, omega arith))
begun_grows (x ∷ cs) (suc i) c d is more zero n e = (n, (e, omega arith))
begun_grows (x ∷ cs) (suc i) c d is more (suc j) n e = begun_grows cs i c d is more j n e

-- ---- a server has room for what goes to it

-- while fewer stripes were begun than a server has slots but four, it lacks no slot for a write of one of them
module _ (slots servers : ℕ) (begun : List ℕ) (server : ServerId) (h : Holdings) (taken : SlotsAreTaken slots h)
    (own : (id : FragId) → is_some (h.map id) ≡ true → Belongs servers begun server id) (few : sum begun ≤ slots - 4) where
  owned : (ids : List FragId) → AllByRecursion (λ id. is_some (h.map id) ≡ true) ids → AllByRecursion (Belongs servers begun server) ids
  owned ids stand = all_weaker (λ id. is_some (h.map id) ≡ true) (Belongs servers begun server) ids own stand

  -- a name under which nothing stands
  new_free : (id : FragId) → h.map id ≡ None → Belongs servers begun server id → 5 ≤ h.free
  new_free id none belongs =
      let differ : Differ (id ∷ taken.names) = (all_weaker (λ q. is_some (h.map q) ≡ true) (λ q. same_frag id q ≡ false) taken.names other taken.stand, taken.differ) in
      let most = few_belong servers begun server (id ∷ taken.names) (belongs, owned taken.names taken.stand) differ in
      let many = taken.many in
      omega (arith, most, many, few) where
        other : (q : FragId) → is_some (h.map q) ≡ true → same_frag id q ≡ false
        other q there = false_from_ne_true (same_frag id q) (λ one. true≢false (sym there ∙ ap (λ (x : FragId). is_some (h.map x)) (sym (same_frag-is id q one)) ∙ ap is_some none))

  -- a name under which something stands
  old_free : (id : FragId) → is_some (h.map id) ≡ true → 1 ≤ h.free
  old_free id there =
      let one = few_belong servers begun server (id ∷ []) (own id there, tt) (tt, tt) in
      let most = few_belong servers begun server taken.names (owned taken.names taken.stand) taken.differ in
      let many = taken.many in
      omega (arith, one, most, many, few)

  not_full : 5 ≤ h.free → is_full Client h.free ≡ false
  not_full free = false_from_ne_true (leb h.free 4) (λ low. let l = leb-true h.free 4 low in absurd (omega (arith, l, free)))

  some_slot : 1 ≤ h.free → is_full Cleaner h.free ≡ false
  some_slot free = false_from_ne_true (eqb h.free 0) (λ none. let e = eqb-true h.free 0 none in absurd (omega (arith, e, free)))

  pub lacks_none : (request : Request) → IsWrite request → IsClients request → FindsItsPlace request h.map → ((q : FragId) → is_about request q ≡ true → Belongs servers begun server q) → lacks_slot h request ≡ false
  lacks_none (ask.Store id bytes class) write clients none belongs =
      ap (λ (k : Class). is_full k h.free) clients ∙ not_full (new_free id none (belongs id (same_frag-of id id refl)))
  lacks_none (ask.Append id place bytes) write clients finds belongs = refl
  lacks_none (ask.Parity id lengths bytes class) write clients finds belongs = by (h.map id) refl where
    by : (o : Option Fragment) → h.map id ≡ o → is_full (if is_some (h.map id) then Cleaner else class) h.free ≡ false
    by (Some fragment) e =
        ap (λ (k : Class). is_full k h.free) (cond-true (is_some (h.map id)) Cleaner class (ap is_some e)) ∙ some_slot (old_free id (ap is_some e))
    by None e =
        ap (λ (k : Class). is_full k h.free) (cond-false (is_some (h.map id)) Cleaner class (ap is_some e) ∙ clients) ∙ not_full (new_free id e (belongs id (same_frag-of id id refl)))
  lacks_none (ask.Retrieve id place len) write clients finds belongs = absurd write
  lacks_none (ask.Delete id) write clients finds belongs = absurd write
  lacks_none (ask.Identify after) write clients finds belongs = absurd write
  lacks_none (ask.Fence generation) write clients finds belongs = absurd write
