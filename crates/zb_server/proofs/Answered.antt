-- What a store answers, and what the answer says was done.
use Rattle.std.proofs.Common.{◌≡◌, ◌≢◌, ◌⊎◌, inl, inr, ⊎_elim, ℕ, ◌+◌, ◌-◌, Bool, true, false, if◌then◌else◌, List, is_some, Result, Ok, Err, OnOk, IfErr, Option, None, Some, sym, ◌∙◌, ap, arith}
use Rattle.zb_outside.specs.Meaning.{Meaning, Standing}
use Rattle.zb_types.specs.declared.geometry.Geometry.{Geometry}
use Rattle.zb_types.specs.declared.ids.FragId.{FragId}
use Rattle.zb_types.specs.declared.ids.ServerId.{ServerId}
use Rattle.zb_types.specs.declared.requests.Request.{Request}
use Rattle.zb_types.specs.declared.requests.Response.{Response}
use Rattle.zb_types.specs.declared.requests.Response.TheVariants as told
use Rattle.zb_types.specs.declared.requests.StoreFault.{StoreFault}
use Rattle.zb_types.specs.declared.requests.StoreFault.TheVariants.{Stopped}
use Rattle.zb_holding.specs.Fragments.{Fragment}
use Rattle.zb_holding.specs.Rules.{known_refusal, refusal_of, IsServed, MayAnswer, FitsOutline, TakesMemory, LacksMemory, fence_after, free_after}
use Rattle.zb_fragstore.specs.Seen.{SeenStore, ChangesLength, IsStoreOf, known, holding, is_there, free_of}
use Rattle.zb_fragstore.specs.Answers.{HasStopped, IsUnforeseen, is_stopped}
use Rattle.zb_fragstore.specs.Images.{map_on}
use Rattle.zb_fragstore.specs.Changing.{map_in, IsOpen, CarriesOut}
use Rattle.zb_fragstore.specs.Appending.{HasGrown}
use Rattle.zb_fragstore.proofs.Outlined.{there_is}
use Rattle.zb_server.specs.Answering.{done, said, IsKnown, Answers}

-- an answer of this fault has stopped
pub stopped_is : (T : Type 0) (fault : StoreFault) → fault ≡ Stopped → HasStopped {T = T} (Err fault)
stopped_is T fault e = ap (λ (f : StoreFault). is_stopped {T = T} (Err f)) e

-- a call that gives nothing stops as its answer does
pub runs_too : (r : Result (Unit {0}) StoreFault) → (HasStopped (done r) → ⊥) → HasStopped r → ⊥
runs_too (Ok u) runs e = absurd (cc e)
runs_too (Err fault) runs e = runs e

abbrev pub Said : Result (Unit {0}) StoreFault → Response
Said r = said (done r)

-- what none refuses is done, or memory ran out
pub served_by : (request : Request) (P : Response → Type 0) (r : Result (Unit {0}) StoreFault) → P told.Done → TakesMemory request → IfErr r IsUnforeseen → (HasStopped r → ⊥) → P (Said r) ⊎ LacksMemory request (Said r)
served_by request P (Ok u) is_done takes is runs = inl is_done
served_by request P (Err fault) is_done takes is runs = ⊎_elim (λ e. inr (record { takes = takes; told = ap told.Refused e })) (λ e. absurd (runs (stopped_is (Unit {0}) fault e))) is

-- or is done, where no memory is taken
pub done_by : (request : Request) (P : Response → Type 0) (r : Result (Unit {0}) StoreFault) → P told.Done → IfErr r (λ fault. fault ≡ Stopped) → (HasStopped r → ⊥) → P (Said r) ⊎ LacksMemory request (Said r)
done_by request P (Ok u) is_done is runs = inl is_done
done_by request P (Err fault) is_done is runs = absurd (runs (stopped_is (Unit {0}) fault is))

-- what rules refuse is refused, and what they don't is served
pub may_answer : (request : Request) (generation : ℕ) (store : SeenStore) (map : FragId → Option Fragment) (response : Response) → refusal_of (holding store map) generation request ≡ known_refusal (known store) generation request
    → ((fault : StoreFault) → known_refusal (known store) generation request ≡ Some fault → response ≡ told.Refused fault)
    → (known_refusal (known store) generation request ≡ None → IsServed (holding store map) request response ⊎ LacksMemory request response) → MayAnswer (holding store map) generation request response
may_answer request generation store map response same refused served = record {
  refused = λ fault e. refused fault (sym same ∙ e);
  served = λ none. served (sym same ∙ none);
}

pub fence_kept : (id : FragId) (len : Option ℕ) (old new : SeenStore) (r : Result (Unit {0}) StoreFault) → OnOk r (ChangesLength id len old new) → OnOk r (new.fence ≡ old.fence)
fence_kept id len old new (Ok u) h = h.fence
fence_kept id len old new (Err fault) h = tt

pub fence_grown : (id : FragId) (place len : ℕ) (old new : SeenStore) (r : Result (Unit {0}) StoreFault) → OnOk r (HasGrown id place len old new) → OnOk r (new.fence ≡ old.fence)
fence_grown id place len old new (Ok u) h = ⊎_elim (λ same. ap (λ (s : SeenStore). s.fence) same) (λ grown. grown.1.1.fence) h
fence_grown id place len old new (Err fault) h = tt

pub fence_raised : (fence : ℕ) (old new : SeenStore) (r : Result (Unit {0}) StoreFault) → OnOk r (new ≡ record old { fence = fence }) → OnOk r (new.fence ≡ fence)
fence_raised fence old new (Ok u) h = ap (λ (s : SeenStore). s.fence) h
fence_raised fence old new (Err fault) h = tt

pub free_raised : (fence : ℕ) (old new : SeenStore) (r : Result (Unit {0}) StoreFault) → OnOk r (new ≡ record old { fence = fence }) → OnOk r (free_of new ≡ free_of old)
free_raised fence old new (Ok u) h = ap free_of h
free_raised fence old new (Err fault) h = tt

pub free_less : (old new : ℕ) (r : Result (Unit {0}) StoreFault) → OnOk r (new + 1 ≡ old) → OnOk r (new ≡ old - 1)
free_less old new (Ok u) h = omega (arith, h)
free_less old new (Err fault) h = tt

pub free_parity : (there : Bool) (old new : ℕ) (r : Result (Unit {0}) StoreFault) → OnOk r (new + (if there then 0 else 1) ≡ old) → OnOk r (new ≡ (if there then old else old - 1))
free_parity true old new (Ok u) h = omega (arith, h)
free_parity false old new (Ok u) h = omega (arith, h)
free_parity there old new (Err fault) h = tt

-- the map of a store of the same server of the same system is the same
pub same_place : (old new : SeenStore) → IsStoreOf old.geo old.server new → (s : Standing) (id : FragId) → map_in new s id ≡ map_in old s id
same_place old new is s id =
    ap (λ (g : Geometry). map_on g (s.seen new.server.0) id) is.geo_is ∙ ap (λ (n : ServerId). map_on old.geo (s.seen n.0) id) is.server_is

module _ (request : Request) (generation : ℕ) (old new : SeenStore) (r : Result (Unit {0}) StoreFault) where
  abbrev IsDone : Type 0
  IsDone = OnOk r (new.fence ≡ fence_after request old.fence) × (OnOk r (free_of new ≡ free_after request (is_there old) (free_of old)) × IfErr r (λ fault. fault ≢ Stopped → new ≡ old))

-- what the store knows of it in memory
pub known_of : (request : Request) (generation : ℕ) (old new : SeenStore) (r : Result (Unit {0}) StoreFault) → IsDone request generation old new r → (HasStopped r → ⊥) → FitsOutline (known old) generation request (Said r) → IsKnown old generation request new (Said r)
known_of request generation old new (Ok u) h runs answer = record { answer = answer; fence = h.0; free = h.1.0 }
known_of request generation old new (Err fault) h runs answer =
    let same = h.1.1 (λ e. runs (stopped_is (Unit {0}) fault e)) in
    record { answer = answer; fence = ap (λ (s : SeenStore). s.fence) same; free = ap free_of same }

module _ (request : Request) (generation : ℕ) (old new : SeenStore) (a b : Meaning) (is_open : IsOpen old a.now) (system : IsStoreOf old.geo old.server new) where
  there_same : (λ (id : FragId). is_some (map_in old a.now id)) ≡ is_there old
  there_same = λ i id. there_is old a.now is_open id i

  -- a request that was carried out, or was refused
  pub carried : (r : Result (Unit {0}) StoreFault) → CarriesOut request old new r a b → IsDone request generation old new r
      → ((HasStopped r → ⊥) → MayAnswer (holding old (map_in old a.now)) generation request (Said r)) → Answers old generation request new (done r) a b
  carried (Ok u) h is_done answer = record {
    run = h.run;
    answered = λ runs. record {
      is_open = h.is_open (runs_too (Ok u) runs);
      answer = answer (runs_too (Ok u) runs);
      left = record {
        map = λ id. same_place old new system b.now id ∙ h.map id;
        fence = is_done.0;
        free = is_done.1.0 ∙ ap (λ (there : FragId → Bool). free_after request there (free_of old)) (sym there_same);
      };
    };
  }
  carried (Err fault) h is_done answer = record {
    run = h.run;
    answered = λ runs.
        let other : fault ≢ Stopped = λ e. runs_too (Err fault) runs (stopped_is (Unit {0}) fault e) in
        let same = is_done.1.1 other in
        record {
          is_open = h.is_open (runs_too (Err fault) runs);
          answer = answer (runs_too (Err fault) runs);
          left = record {
            map = λ id. same_place old new system b.now id ∙ ap (λ (i : List ℕ). map_on old.geo i id) (h.refused other);
            fence = ap (λ (s : SeenStore). s.fence) same;
            free = ap free_of same;
          };
        };
  }
