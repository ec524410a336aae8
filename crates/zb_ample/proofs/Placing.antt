-- Each request of a plan is about a fragment on the server that has it.
use Rattle.std.proofs.Common.{◌≡◌, ℕ, ◌-◌, ◌<◌, ◌≤◌, ◌&&◌, true, eqb, List, Option, Some, refl, ap, sym, ◌∙◌, arith, inl, inr}
use Rattle.std.specs.Prelude.{is_some, slice_get}
use Rattle.std.proofs.lemmas.Bool.{and_parts, cases_Bool, cond-false, cond_both, eqb-true}
use Rattle.zb_types.specs.declared.ids.LogId.{LogId}
use Rattle.zb_types.specs.declared.ids.ServerId.{ServerId}
use Rattle.zb_types.specs.declared.ids.FragId.{FragId}
use Rattle.zb_types.specs.declared.nodes.Class.{Class}
use Rattle.zb_types.specs.declared.requests.Request.{Request}
use Rattle.zb_types.specs.declared.requests.Request.TheVariants as ask
use Rattle.zb_holding.specs.Carrying.{carried, is_about, stands_after}
use Rattle.zb_holding.specs.Holding.{Maps}
use Rattle.zb_holding.specs.Placing.{frag_id, server_of, share_length}
use Rattle.zb_holding.proofs.Keys.{same_frag-is}
use Rattle.zb_stripe.specs.declared.flush.Flush.{Flush}
use Rattle.zb_stripe.specs.Writing.{grow, lengths_of, new_bytes, parity_bytes, plan_requests}
use Rattle.zb_servers_laws.proofs.Planned.{each_at, each_request}
use Rattle.zb_basis.specs.Delivering.{stripe_of}
use Rattle.zb_ample.specs.Taking.{Belongs}

-- whatever it is about is a fragment of this log's, in the request's stripe, on the server that is asked
pub record IsOnItsServer (n : ℕ) (log : LogId) (asked : ServerId × Request) (q : FragId) : Type 0 where
  pub log_is : q.log ≡ log
  pub stripe : q.stripe ≡ stripe_of asked.1
  pub index : q.index < n
  pub on : server_of n q ≡ asked.0

abbrev GoesToItsServer : ℕ → LogId → ServerId × Request → Type 0
GoesToItsServer n log asked = (q : FragId) → is_about asked.1 q ≡ true → IsOnItsServer n log asked q

module _ (n : ℕ) (log : LogId) (stripe k : ℕ) (low : k < n) where
  on_its_server : (request : Request) → stripe_of request ≡ stripe → ((q : FragId) → is_about request q ≡ true → q ≡ frag_id log stripe k) → GoesToItsServer n log (server_of n (frag_id log stripe k), request)
  on_its_server request stripe_is one q about =
      let same = one q about in
      record {
        log_is = ap (λ (x : FragId). x.log) same;
        stripe = ap (λ (x : FragId). x.stripe) same ∙ sym stripe_is;
        index = let e = ap (λ (x : FragId). x.index) same in omega (arith, e, low);
        on = ap (server_of n) same;
      }

  stores : (bytes : List ℕ) (class : Class) → GoesToItsServer n log (server_of n (frag_id log stripe k), ask.Store (frag_id log stripe k) bytes class)
  stores bytes class = on_its_server (ask.Store (frag_id log stripe k) bytes class) refl (λ q about. sym (same_frag-is (frag_id log stripe k) q about))

  appends : (had : ℕ) (bytes : List ℕ) → GoesToItsServer n log (server_of n (frag_id log stripe k), ask.Append (frag_id log stripe k) had bytes)
  appends had bytes = on_its_server (ask.Append (frag_id log stripe k) had bytes) refl (λ q about. sym (same_frag-is (frag_id log stripe k) q about))

  pub parities : (lengths bytes : List ℕ) (class : Class) → GoesToItsServer n log (server_of n (frag_id log stripe k), ask.Parity (frag_id log stripe k) lengths bytes class)
  parities lengths bytes class = on_its_server (ask.Parity (frag_id log stripe k) lengths bytes class) refl (λ q about. sym (same_frag-is (frag_id log stripe k) q about))

  pub grows : (class : Class) (had : ℕ) (bytes : List ℕ) → GoesToItsServer n log (server_of n (frag_id log stripe k), grow (frag_id log stripe k) class had bytes)
  grows class had bytes =
      cond_both (eqb had 0) (ask.Store (frag_id log stripe k) bytes class) (ask.Append (frag_id log stripe k) had bytes) (λ (r : Request). GoesToItsServer n log (server_of n (frag_id log stripe k), r))
      (λ _. stores bytes class) (λ _. appends had bytes)

-- so is each request of a plan
pub plan_goes : (n f : ℕ) (out : Option ServerId) (class : Class) (flush : Flush) (i : ℕ) (asked : ServerId × Request) → 0 < n → slice_get (plan_requests n f out class flush) i ≡ Some asked
    → (q : FragId) → is_about asked.1 q ≡ true → IsOnItsServer n flush.log asked q
plan_goes n f out class flush i asked some is =
    each_at (GoesToItsServer n flush.log) (plan_requests n f out class flush) i asked
    (each_request (GoesToItsServer n flush.log) n f out class flush.log
    (λ part k below. grows n flush.log part.stripe k (omega (arith, below)) class (share_length f part.begin k) (new_bytes f part k))
    (λ part. parities n flush.log part.stripe (n - 1) (omega (arith, some)) (lengths_of n f part) (parity_bytes n f part) class)
    flush.parts)
    is

-- what stands once a request was carried out stood before, or is what the request is about
pub stood_or_new : (maps : Maps) (asked : ServerId × Request) (server : ServerId) (id : FragId) (P : Type 0) → is_some (carried maps asked server id) ≡ true
    → (is_some (maps server id) ≡ true → P) → (asked.0.0 ≡ server.0 → is_about asked.1 id ≡ true → P) → P
stood_or_new maps asked server id P some stood new =
    elim (cases_Bool (eqb asked.0.0 server.0 && is_about asked.1 id)) [
      | inl about ↦ let parts = and_parts (eqb asked.0.0 server.0) (is_about asked.1 id) about in new (eqb-true asked.0.0 server.0 parts.0) parts.1
      | inr other ↦ stood (ap is_some (sym (cond-false (eqb asked.0.0 server.0 && is_about asked.1 id) (stands_after asked.1 (maps server id)) (maps server id) other)) ∙ some)
    ]

-- more stripes may have been begun
pub belongs_still : (servers : ℕ) (begun more : List ℕ) (server : ServerId) (id : FragId)
    → ((i n : ℕ) → slice_get begun i ≡ Some n → (m : ℕ) × ((slice_get more i ≡ Some m) × (n ≤ m))) → Belongs servers begun server id → Belongs servers more server id
belongs_still servers begun more server id grows b =
    let m = grows b.place b.count b.is in
    record {
      place = b.place;
      count = m.0;
      is = m.1.0;
      log = b.log;
      stripe = let low = b.stripe in let high = m.1.1 in omega (arith, low, high);
      index = b.index;
      on = b.on;
    }
