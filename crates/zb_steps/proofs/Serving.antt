-- What a server's response makes of the work.
use Rattle.std.proofs.Common.{◌≡◌, ℕ, ◌<◌, ◌≤◌, Bool, true, false, List, [], ◌∷◌, length, Option, Some, None, refl, ap, sym, subst, ◌∙◌, arith}
use Rattle.std.specs.Prelude.{◌||◌, if◌then◌else◌}
use Rattle.std.specs.Bool.{MatchBool}
use Rattle.zb_types.specs.declared.ids.Ptr.{Ptr}
use Rattle.zb_types.specs.declared.ids.ServerId.{ServerId}
use Rattle.zb_types.specs.declared.requests.Request.{Request}
use Rattle.zb_types.specs.declared.requests.Response.{Response}
use Rattle.zb_types.specs.declared.requests.Response.TheVariants as told
use Rattle.zb_types.specs.declared.requests.StoreFault.TheVariants as fault
use Rattle.zb_stripe.specs.declared.read_plan.Got.{Got}
use Rattle.zb_stripe.specs.declared.read_plan.Got.TheVariants as got
use Rattle.zb_stripe.specs.declared.write_plan.Fed.{Fed}
use Rattle.zb_stripe.specs.declared.write_plan.Fed.TheVariants as fed
use Rattle.zb_stripe.specs.Reading.{Reading, fed as read_fed}
use Rattle.zb_stripe.specs.Feeding.{fed_by, left_after, became, done_by}
use Rattle.zb_log.specs.Logs.{SeenLog}
use Rattle.zb_basis.specs.declared.calls.Numbered.{Numbered}
use Rattle.zb_basis.specs.declared.basis.Basis.{Basis}
use Rattle.zb_basis.specs.declared.basis.Formed.{Formed}
use Rattle.zb_basis.specs.Looking.{room_of}
use Rattle.zb_work.specs.declared.work.Step.{Step}
use Rattle.zb_work.specs.declared.work.Step.TheVariants.{Lookup, Fetch, Store, Mark, Commit}
use Rattle.zb_work.specs.Fitting.{Rests, IsFetching, Stands, IsStoring, StepFits}
use Rattle.zb_steps.specs.declared.next.Next.{Next}
use Rattle.zb_steps.specs.declared.next.Next.TheVariants as next
use Rattle.zb_steps.specs.Desks.{SeenDesk, HasGiven}
use Rattle.zb_steps.specs.Going.{Onward, NextFits, GoesOn, steps, with_block, caches, is_whole}
use Rattle.zb_steps.specs.Serving.{HasMemory, CanServe, BytesGive, GotGives, ServerGives, brings_bytes, serves, unreached, lacked, notes, left, stores_on, flushes}
use Rattle.zb_steps.proofs.Finding.{rests_filled, whole_long}
use Rattle.zb_steps.proofs.Goings.{fits as goes_fit}
use Rattle.zb_steps.proofs.Plain.{no_bytes}
use Rattle.zb_steps.proofs.Standing.{StandsOn, fed_stands}
use Rattle.zb_steps.proofs.Stripes.{left_about}

-- what came without a block is told
pub gives_lack : (d : SeenDesk) (kept queue : List Numbered) (basis : Basis) (at : ℕ) (ptr : Ptr) (plan : Reading) (serving : ℕ) (came : Got) (on : Onward) → ((bytes : List ℕ) → got.Bytes bytes ≡ came → ⊥)
    → on ≡ record { desk = d; next = lacked basis at ptr plan serving came } → GotGives d kept queue basis at ptr plan serving came on
gives_lack d kept queue basis at ptr plan serving got.More on n e = e
gives_lack d kept queue basis at ptr plan serving (got.Bytes bytes) on n e = absurd (n bytes refl)
gives_lack d kept queue basis at ptr plan serving (got.Unreachable a b) on n e = e
gives_lack d kept queue basis at ptr plan serving got.Gone on n e = e
gives_lack d kept queue basis at ptr plan serving (got.Old now) on n e = e

-- so it is where the response brought no bytes
pub gives_plain : (d : SeenDesk) (kept queue : List Numbered) (basis : Basis) (at : ℕ) (ptr : Ptr) (plan : Reading) (response : Response) (serving : ℕ) (on : Onward) → brings_bytes response ≡ false
    → on ≡ record { desk = d; next = lacked basis at ptr (read_fed plan response).0 serving (read_fed plan response).1 }
    → GotGives d kept queue basis at ptr (read_fed plan response).0 serving (read_fed plan response).1 on
gives_plain d kept queue basis at ptr plan response serving on b e =
    gives_lack d kept queue basis at ptr (read_fed plan response).0 serving (read_fed plan response).1 on (λ bytes came. no_bytes plan response bytes b came) e

fits_unreached : (d : SeenDesk) (kept queue : List Numbered) (a b : ServerId) (serving : ℕ) (t : Bool) → (serves serving a || serves serving b) ≡ t → NextFits d kept queue (unreached a b serving)
fits_unreached d kept queue a b serving true e = rw e tt
fits_unreached d kept queue a b serving false e = rw e tt

fits_bytes : (d : SeenDesk) (kept queue : List Numbered) (basis : Basis) (at : ℕ) (ptr : Ptr) (bytes : List ℕ) (on : Onward) (t : Bool) → is_whole ptr bytes ≡ t → 2 ≤ d.log.servers → d.log.room ≡ room_of d.servers d.fragment
    → HasGiven d.log → IsFetching d.servers d.fragment d.block kept queue 0 basis at ptr
    → MatchBool t (GoesOn (caches d ptr bytes) kept queue (with_block basis at ptr bytes) on) (on ≡ steps d Lookup) → NextFits on.desk kept queue on.next
fits_bytes d kept queue basis at ptr bytes on true w two room has i h =
    goes_fit (caches d ptr bytes) (with_block basis at ptr bytes) kept queue on two room has
    (rests_filled d.servers d.fragment d.block kept queue 0 basis at ptr bytes i (whole_long ptr bytes w)) h
fits_bytes d kept queue basis at ptr bytes on false w two room has i h = subst (λ (o : Onward). NextFits o.desk kept queue o.next) (sym h) tt

fits_got : (d : SeenDesk) (kept queue : List Numbered) (basis : Basis) (at : ℕ) (ptr : Ptr) (plan : Reading) (serving : ℕ) (came : Got) (on : Onward) → 2 ≤ d.log.servers → d.log.room ≡ room_of d.servers d.fragment → HasGiven d.log
    → IsFetching d.servers d.fragment d.block kept queue 0 basis at ptr → StandsOn plan came → GotGives d kept queue basis at ptr plan serving came on → NextFits on.desk kept queue on.next
fits_got d kept queue basis at ptr plan serving got.More on two room has i s h = subst (λ (o : Onward). NextFits o.desk kept queue o.next) (sym h) (i, s)
fits_got d kept queue basis at ptr plan serving (got.Bytes bytes) on two room has i s h = fits_bytes d kept queue basis at ptr bytes on (is_whole ptr bytes) refl two room has i h
fits_got d kept queue basis at ptr plan serving (got.Unreachable a b) on two room has i s h =
    subst (λ (o : Onward). NextFits o.desk kept queue o.next) (sym h) (fits_unreached d kept queue a b serving (serves serving a || serves serving b) refl)
fits_got d kept queue basis at ptr plan serving got.Gone on two room has i s h = subst (λ (o : Onward). NextFits o.desk kept queue o.next) (sym h) tt
fits_got d kept queue basis at ptr plan serving (got.Old now) on two room has i s h = subst (λ (o : Onward). NextFits o.desk kept queue o.next) (sym h) tt

some_rest : (rest : List (ServerId × Request)) → (done_by rest ≡ fed.Done → ⊥) → 0 < length rest
some_rest [] n = absurd (n refl)
some_rest (r ∷ rs) n = omega arith

-- while the flush isn't at its end some requests are left
some_left : (plan : List (ServerId × Request)) (response : Response) → (fed_by plan response ≡ fed.Done → ⊥) → 0 < length (left_after plan response)
some_left [] response n = absurd (n refl)
some_left (a ∷ rest) told.Done n = some_rest rest n
some_left (a ∷ rest) (told.Bytes bytes) n = omega arith
some_left (a ∷ rest) (told.Parity lengths bytes) n = omega arith
some_left (a ∷ rest) (told.Ids ids) n = omega arith
some_left (a ∷ rest) (told.Refused why) n = omega arith
some_left (a ∷ rest) told.Down n = omega arith
some_left (a ∷ rest) told.Blank n = omega arith

-- without the request that was carried out the batch is still being stored
storing_left : (n f : ℕ) (log : SeenLog) (kept : List Numbered) (formed : Formed) (response : Response) (came : Fed) → fed_by formed.plan response ≡ came → (came ≡ fed.Done → ⊥) → IsStoring n f log kept 0 formed
    → IsStoring n f log kept 0 (left formed response)
storing_left n f log kept formed response came e not s = record {
  settled = s.settled;
  count = s.count;
  sealed = s.sealed;
  some = some_left formed.plan response (λ done. not (sym e ∙ done));
  about = λ given are. left_about log.next.stripe formed.sealed.placed.next.stripe formed.plan response (s.about given are);
  flush = s.flush;
}

fits_stored : (d : SeenDesk) (kept queue : List Numbered) (basis : Basis) (formed : Formed) (response : Response) (came : Fed) → fed_by formed.plan response ≡ came → IsStoring d.servers d.fragment d.log kept 0 formed
    → NextFits (stores_on d basis formed response came).desk kept queue (stores_on d basis formed response came).next
fits_stored d kept queue basis formed response fed.More e s = storing_left d.servers d.fragment d.log kept formed response fed.More e (λ no. absurd (cc no)) s
fits_stored d kept queue basis formed response fed.Done e s = record { settled = s.settled; count = s.count }
fits_stored d kept queue basis formed response (fed.Down server) e s = s.settled
fits_stored d kept queue basis formed response (fed.NoSpace server free) e s = tt
fits_stored d kept queue basis formed response (fed.Old now) e s = tt
fits_stored d kept queue basis formed response fed.NoMemory e s = storing_left d.servers d.fragment d.log kept formed response fed.NoMemory e (λ no. absurd (cc no)) s

-- what is true of the step at which the work goes on with a response
pub serving_fits : (d : SeenDesk) (kept queue : List Numbered) (step : Step) (response : Response) (serving : ℕ) (on : Onward) → 2 ≤ d.log.servers → d.log.room ≡ room_of d.servers d.fragment → HasGiven d.log
    → StepFits d.servers d.fragment d.block d.log kept queue 0 step → ServerGives d kept queue step response serving on → NextFits on.desk kept queue on.next
serving_fits d kept queue (Fetch basis at ptr plan) response serving on two room has s h =
    fits_got d kept queue basis at ptr (read_fed plan response).0 serving (read_fed plan response).1 on two room has s.0 (fed_stands plan plan.phase response s.1) h
serving_fits d kept queue (Store basis formed) response serving on two room has s h =
    subst (λ (o : Onward). NextFits o.desk kept queue o.next) (sym h)
    (fits_stored (notes d formed (fed_by formed.plan response)) kept queue basis formed response (fed_by formed.plan response) refl s)
serving_fits d kept queue Lookup response serving on two room has s h = absurd h
serving_fits d kept queue (Mark server generation) response serving on two room has s h = absurd h
serving_fits d kept queue (Commit basis sealed) response serving on two room has s h = absurd h
