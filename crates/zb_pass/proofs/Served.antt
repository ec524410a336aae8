-- What is true of a pass as it goes on with a server's response.
use Rattle.std.proofs.Common.{◌≡◌, ℕ, zero, suc, ◌+◌, ◌-◌, ◌<◌, ◌≤◌, Bool, true, false, List, [], ◌∷◌, length, Option, Some, None, refl, sym, subst, ◌∙◌, arith}
use Rattle.std.specs.Prelude.{◌||◌, ◌&&◌, ◌==◌, nat_le, nat_lt, if◌then◌else◌, slice_index}
use Rattle.std.specs.Bool.{MatchBool}
use Rattle.std.specs.List.{AllByRecursion}
use Rattle.zb_types.specs.declared.ids.FragId.{FragId}
use Rattle.zb_types.specs.declared.ids.Ptr.{Ptr}
use Rattle.zb_types.specs.declared.ids.ServerId.{ServerId}
use Rattle.zb_types.specs.declared.requests.Response.{Response}
use Rattle.zb_types.specs.declared.requests.Response.TheVariants as told
use Rattle.zb_types.specs.declared.tables.Status.{Status}
use Rattle.zb_holding.specs.Exclusive.{xored}
use Rattle.zb_stripe.specs.declared.progress.Phase.{Phase}
use Rattle.zb_stripe.specs.declared.progress.Phase.TheVariants.{Direct, Lengths, Others}
use Rattle.zb_stripe.specs.declared.read_plan.Got.{Got}
use Rattle.zb_stripe.specs.declared.read_plan.Got.TheVariants as got
use Rattle.zb_stripe.specs.declared.write_plan.Fed.{Fed}
use Rattle.zb_stripe.specs.declared.write_plan.Fed.TheVariants as fed
use Rattle.zb_stripe.specs.Reading.{Reading, fed as read_fed, fed_in, advanced, sought, gained_by, blocked_in, is_lost, index_of, place_of, own_lost, two_lost, with_phase}
use Rattle.zb_types.specs.declared.requests.Request.{Request}
use Rattle.zb_stripe.specs.Feeding.{done_by, fed_by, left_after}
use Rattle.zb_log.specs.Logs.{SeenLog}
use Rattle.zb_basis.specs.declared.basis.Formed.{Formed}
use Rattle.zb_basis.specs.Looking.{room_of}
use Rattle.zb_steps.specs.Desks.{HasGiven}
use Rattle.zb_steps.specs.Going.{is_whole}
use Rattle.zb_steps.specs.Serving.{brings_bytes, left, serves}
use Rattle.zb_steps.proofs.Plain.{no_bytes}
use Rattle.zb_steps.proofs.Standing.{StandsOn, fed_stands}
use Rattle.zb_steps.proofs.Stripes.{left_about}
use Rattle.zb_pass.specs.declared.work.Cleaning.{Cleaning}
use Rattle.zb_pass.specs.declared.work.Sweeping.{Sweeping}
use Rattle.zb_pass.specs.declared.work.Work.{Work}
use Rattle.zb_pass.specs.declared.work.Work.TheVariants.{Lookup, Fetch, Store, Mark, Commit, Retire, Sweep, Delete}
use Rattle.zb_pass.specs.Fitting.{Fits, IsCleaning, IsFetching, IsStoring, NextFits}
use Rattle.zb_pass.specs.Going.{Onward, GoesOn, GotGives, ServerGives, lacked, notes, stores_on, unreached, with_block, works}
use Rattle.zb_pass.specs.Sweeping.{again_after, asks_on, deleted, deletes, is_stray, is_up, passes_over, rest_of, strays, swept}
use Rattle.zb_pass.specs.Seen.{SeenWriter}
use Rattle.zb_pass.proofs.Goings.{fits as goes_fit, with_fits}

-- ---- a read keeps its pointer

sought_at : (r other : Reading) (phase : Phase) (t : Bool) → other.ptr ≡ r.ptr → (if t then other else with_phase r phase).ptr ≡ r.ptr
sought_at r other phase true e = e
sought_at r other phase false e = refl

sought_ptr : (r : Reading) (lengths sum : List ℕ) (rest : ℕ) → (sought r lengths sum rest).ptr ≡ r.ptr
sought_ptr r lengths sum zero = refl
sought_ptr r lengths sum (suc rest) =
    sought_at r (sought r lengths sum rest) (Others lengths sum (r.servers - 1 - suc rest))
    ((r.servers - 1 - suc rest == index_of r) || nat_le (slice_index lengths (r.servers - 1 - suc rest)) (place_of r)) (sought_ptr r lengths sum rest)

gained_ptr : (r other : Reading) (b : Option ℕ) → other.ptr ≡ r.ptr → (gained_by r other b).0.ptr ≡ r.ptr
gained_ptr r other None e = e
gained_ptr r other (Some k) e = refl

own_ptr : (r : Reading) (t : Bool) (g : Got) → (if◌then◌else◌ {A = Reading × Got} t (r, g) (own_lost r, got.More)).0.ptr ≡ r.ptr
own_ptr r true g = refl
own_ptr r false g = refl

fed_ptr_in : (r : Reading) (phase : Phase) (response : Response) → (fed_in r phase response).0.ptr ≡ r.ptr
fed_ptr_in r Direct (told.Bytes bytes) = gained_ptr r (advanced r bytes) (blocked_in (advanced r bytes) (advanced r bytes).phase) refl
fed_ptr_in r Direct told.Down = own_ptr r (is_lost r (r.servers - 1)) (two_lost r (r.servers - 1))
fed_ptr_in r Direct told.Blank = own_ptr r (is_lost r (r.servers - 1)) (two_lost r (r.servers - 1))
fed_ptr_in r Direct told.Done = refl
fed_ptr_in r Direct (told.Parity lengths bytes) = refl
fed_ptr_in r Direct (told.Ids ids) = refl
fed_ptr_in r Direct (told.Refused why) = refl
fed_ptr_in r Lengths (told.Parity lengths bytes) =
    let next = sought r lengths bytes (r.servers - 1) in
    gained_ptr r next (blocked_in next next.phase) (sought_ptr r lengths bytes (r.servers - 1))
fed_ptr_in r Lengths told.Down = refl
fed_ptr_in r Lengths told.Blank = refl
fed_ptr_in r Lengths told.Done = refl
fed_ptr_in r Lengths (told.Bytes bytes) = refl
fed_ptr_in r Lengths (told.Ids ids) = refl
fed_ptr_in r Lengths (told.Refused why) = refl
fed_ptr_in r (Others lengths sum k) (told.Bytes bytes) =
    let next = sought r lengths (xored sum bytes) (r.servers - 1 - (k + 1)) in
    gained_ptr r next (blocked_in next next.phase) (sought_ptr r lengths (xored sum bytes) (r.servers - 1 - (k + 1)))
fed_ptr_in r (Others lengths sum k) told.Down = refl
fed_ptr_in r (Others lengths sum k) told.Blank = refl
fed_ptr_in r (Others lengths sum k) told.Done = refl
fed_ptr_in r (Others lengths sum k) (told.Parity more bytes) = refl
fed_ptr_in r (Others lengths sum k) (told.Ids ids) = refl
fed_ptr_in r (Others lengths sum k) (told.Refused why) = refl

pub fed_ptr : (r : Reading) (response : Response) → (read_fed r response).0.ptr ≡ r.ptr
fed_ptr r response = fed_ptr_in r r.phase response

-- ---- a fetch

-- what came without a block is told
pub gives_lack : (w : SeenWriter) (cleaning : Cleaning) (plan : Reading) (serving : ℕ) (came : Got) (on : Onward) → ((bytes : List ℕ) → got.Bytes bytes ≡ came → ⊥)
    → on ≡ record { writer = w; next = lacked cleaning plan serving came } → GotGives w cleaning plan serving came on
gives_lack w cleaning plan serving got.More on n e = e
gives_lack w cleaning plan serving (got.Bytes bytes) on n e = absurd (n bytes refl)
gives_lack w cleaning plan serving (got.Unreachable a b) on n e = e
gives_lack w cleaning plan serving got.Gone on n e = e
gives_lack w cleaning plan serving (got.Old now) on n e = e

-- so it is where the response brought no bytes
pub gives_plain : (w : SeenWriter) (cleaning : Cleaning) (plan : Reading) (response : Response) (serving : ℕ) (on : Onward) → brings_bytes response ≡ false
    → on ≡ record { writer = w; next = lacked cleaning (read_fed plan response).0 serving (read_fed plan response).1 }
    → GotGives w cleaning (read_fed plan response).0 serving (read_fed plan response).1 on
gives_plain w cleaning plan response serving on b e =
    gives_lack w cleaning (read_fed plan response).0 serving (read_fed plan response).1 on (λ bytes came. no_bytes plan response bytes b came) e

fits_unreached : (w : SeenWriter) (cleaning : Cleaning) (a b : ServerId) (serving : ℕ) (t : Bool) → IsCleaning w.servers w.fragment w.block cleaning → (serves serving a || serves serving b) ≡ t
    → NextFits w (unreached cleaning a b serving)
fits_unreached w cleaning a b serving true is e = rw e is
fits_unreached w cleaning a b serving false is e = rw e tt

fits_bytes : (w : SeenWriter) (cleaning : Cleaning) (plan : Reading) (bytes : List ℕ) (on : Onward) (t : Bool) → is_whole plan.ptr bytes ≡ t → 2 ≤ w.log.servers → w.log.room ≡ room_of w.servers w.fragment
    → HasGiven w.log → IsCleaning w.servers w.fragment w.block cleaning → IsFetching cleaning.copies plan
    → MatchBool t (GoesOn w (with_block cleaning bytes) on) (on ≡ works w (Lookup cleaning)) → NextFits on.writer on.next
fits_bytes w cleaning plan bytes on true whole two room has is at h =
    goes_fit w (with_block cleaning bytes) on two room has (with_fits w.servers w.fragment w.block cleaning plan bytes is at whole) h
fits_bytes w cleaning plan bytes on false whole two room has is at h = subst (λ (o : Onward). NextFits o.writer o.next) (sym h) is

-- the read of the same block
fetching_on : (cleaning : Cleaning) (plan other : Reading) → other.ptr ≡ plan.ptr → IsFetching cleaning.copies plan → StandsOn other got.More → IsFetching cleaning.copies other
fetching_on cleaning plan other e at s = record { body = at.body; first = at.first; of_block = e ∙ at.of_block; stands = s }

fits_got : (w : SeenWriter) (cleaning : Cleaning) (plan other : Reading) (serving : ℕ) (came : Got) (on : Onward) → 2 ≤ w.log.servers → w.log.room ≡ room_of w.servers w.fragment → HasGiven w.log
    → IsCleaning w.servers w.fragment w.block cleaning → IsFetching cleaning.copies plan → other.ptr ≡ plan.ptr → StandsOn other came → GotGives w cleaning other serving came on → NextFits on.writer on.next
fits_got w cleaning plan other serving got.More on two room has is at e s h = subst (λ (o : Onward). NextFits o.writer o.next) (sym h) (is, fetching_on cleaning plan other e at s)
fits_got w cleaning plan other serving (got.Bytes bytes) on two room has is at e s h =
    fits_bytes w cleaning plan bytes on (is_whole plan.ptr bytes) refl two room has is at
    (subst (λ (p : Ptr). MatchBool (is_whole p bytes) (GoesOn w (with_block cleaning bytes) on) (on ≡ works w (Lookup cleaning))) e h)
fits_got w cleaning plan other serving (got.Unreachable a b) on two room has is at e s h =
    subst (λ (o : Onward). NextFits o.writer o.next) (sym h) (fits_unreached w cleaning a b serving (serves serving a || serves serving b) is refl)
fits_got w cleaning plan other serving got.Gone on two room has is at e s h = subst (λ (o : Onward). NextFits o.writer o.next) (sym h) is
fits_got w cleaning plan other serving (got.Old now) on two room has is at e s h = subst (λ (o : Onward). NextFits o.writer o.next) (sym h) is

-- ---- a store

some_rest : (rest : List (ServerId × Request)) → (done_by rest ≡ fed.Done → ⊥) → 0 < length rest
some_rest [] n = absurd (n refl)
some_rest (r ∷ rs) n = omega arith

-- while the flush isn't at its end some requests are left
some_left : (plan : List (ServerId × Request)) (response : Response) → (fed_by plan response ≡ fed.Done → ⊥) → 0 < length (left_after plan response)
some_left [] response n = absurd (n refl)
some_left (a ∷ rest) told.Done n = some_rest rest n
some_left (a ∷ rest) (told.Bytes bytes) n = omega arith
some_left (a ∷ rest) (told.Parity lengths bytes) n = omega arith
some_left (a ∷ rest) (told.Ids ids) n = omega arith
some_left (a ∷ rest) (told.Refused why) n = omega arith
some_left (a ∷ rest) told.Down n = omega arith
some_left (a ∷ rest) told.Blank n = omega arith

-- without the request that was carried out the batch is still being stored
storing_left : (n f : ℕ) (log : SeenLog) (cleaning : Cleaning) (formed : Formed) (response : Response) (came : Fed) → fed_by formed.plan response ≡ came → (came ≡ fed.Done → ⊥) → IsStoring n f log cleaning formed
    → IsStoring n f log cleaning (left formed response)
storing_left n f log cleaning formed response came e not s = record {
  moves = s.moves;
  all = s.all;
  sealed = s.sealed;
  some = some_left formed.plan response (λ done. not (sym e ∙ done));
  about = λ given are. left_about log.next.stripe formed.sealed.placed.next.stripe formed.plan response (s.about given are);
  flush = s.flush;
}

fits_stored : (w : SeenWriter) (cleaning : Cleaning) (formed : Formed) (response : Response) (came : Fed) → fed_by formed.plan response ≡ came → IsCleaning w.servers w.fragment w.block cleaning
    → IsStoring w.servers w.fragment w.log cleaning formed → NextFits (stores_on w cleaning formed response came).writer (stores_on w cleaning formed response came).next
fits_stored w cleaning formed response fed.More e is s = (is, storing_left w.servers w.fragment w.log cleaning formed response fed.More e (λ no. absurd (cc no)) s)
fits_stored w cleaning formed response fed.Done e is s = (is, record { moves = s.moves; all = s.all })
fits_stored w cleaning formed response (fed.Down server) e is s = is
fits_stored w cleaning formed response (fed.NoSpace server free) e is s = tt
fits_stored w cleaning formed response (fed.Old now) e is s = is
fits_stored w cleaning formed response fed.NoMemory e is s = (is, storing_left w.servers w.fragment w.log cleaning formed response fed.NoMemory e (λ no. absurd (cc no)) s)

-- ---- a sweep

strays_at : (status : Status) (id : FragId) (ids : List FragId) (t : Bool) → is_stray status id ≡ t → AllByRecursion (λ (i : FragId). is_stray status i ≡ true) (strays status ids)
    → AllByRecursion (λ (i : FragId). is_stray status i ≡ true) (strays status (id ∷ ids))
strays_at status id ids true e all = rw e (e, all)
strays_at status id ids false e all = rw e all

pub all_strays : (status : Status) (ids : List FragId) → AllByRecursion (λ (i : FragId). is_stray status i ≡ true) (strays status ids)
all_strays status [] = tt
all_strays status (id ∷ ids) = strays_at status id ids (is_stray status id) refl (all_strays status ids)

fits_passed : (w : SeenWriter) (s : Sweeping) (t : Bool) → nat_lt s.server.0 w.servers ≡ t → NextFits w (passes_over w.servers s)
fits_passed w s true e = rw e tt
fits_passed w s false e = rw e tt

fits_asked : (w : SeenWriter) (s : Sweeping) (again : Option FragId) → NextFits w (asks_on w.servers s again)
fits_asked w s None = fits_passed w s (nat_lt s.server.0 w.servers) refl
fits_asked w s (Some id) = tt

fits_deletes : (w : SeenWriter) (s : Sweeping) (ids : List FragId) (again : Option FragId) → AllByRecursion (λ (i : FragId). is_stray s.status i ≡ true) ids → NextFits w (deletes w.servers s ids again)
fits_deletes w s [] again all = fits_asked w s again
fits_deletes w s (id ∷ ids) again all = record { some = omega arith; strays = all }

fits_named : (w : SeenWriter) (s : Sweeping) (ids : List FragId) (serving : ℕ) (t : Bool) → serves serving s.server ≡ t → NextFits w (swept w.servers s (told.Ids ids) serving)
fits_named w s ids serving true e = rw e (fits_deletes w s (strays s.status ids) (again_after ids) (all_strays s.status ids))
fits_named w s ids serving false e = rw e (fits_passed w s (nat_lt s.server.0 w.servers) refl)

pub fits_swept : (w : SeenWriter) (s : Sweeping) (response : Response) (serving : ℕ) → NextFits w (swept w.servers s response serving)
fits_swept w s (told.Ids ids) serving = fits_named w s ids serving (serves serving s.server) refl
fits_swept w s told.Done serving = fits_passed w s (nat_lt s.server.0 w.servers) refl
fits_swept w s (told.Bytes bytes) serving = fits_passed w s (nat_lt s.server.0 w.servers) refl
fits_swept w s (told.Parity lengths bytes) serving = fits_passed w s (nat_lt s.server.0 w.servers) refl
fits_swept w s (told.Refused why) serving = fits_passed w s (nat_lt s.server.0 w.servers) refl
fits_swept w s told.Down serving = fits_passed w s (nat_lt s.server.0 w.servers) refl
fits_swept w s told.Blank serving = fits_passed w s (nat_lt s.server.0 w.servers) refl

rest_strays : (status : Status) (ids : List FragId) → AllByRecursion (λ (i : FragId). is_stray status i ≡ true) ids → AllByRecursion (λ (i : FragId). is_stray status i ≡ true) (rest_of ids)
rest_strays status [] all = tt
rest_strays status (id ∷ ids) all = all.1

pub fits_deleted : (w : SeenWriter) (s : Sweeping) (ids : List FragId) (again : Option FragId) (response : Response) (serving : ℕ) (t : Bool) → (is_up response && serves serving s.server) ≡ t
    → AllByRecursion (λ (i : FragId). is_stray s.status i ≡ true) ids → NextFits w (deleted w.servers s ids again response serving)
fits_deleted w s ids again response serving true e all = rw e (fits_deletes w s (rest_of ids) again (rest_strays s.status ids all))
fits_deleted w s ids again response serving false e all = rw e (fits_passed w s (nat_lt s.server.0 w.servers) refl)

-- ---- any response

pub serving_fits : (w : SeenWriter) (work : Work) (response : Response) (serving : ℕ) (on : Onward) → 2 ≤ w.log.servers → w.log.room ≡ room_of w.servers w.fragment → HasGiven w.log
    → Fits w.servers w.fragment w.block w.log work → ServerGives w work response serving on → NextFits on.writer on.next
serving_fits w (Fetch cleaning plan) response serving on two room has s h =
    fits_got w cleaning plan (read_fed plan response).0 serving (read_fed plan response).1 on two room has s.0 s.1 (fed_ptr plan response) (fed_stands plan plan.phase response s.1.stands) h
serving_fits w (Store cleaning formed) response serving on two room has s h =
    subst (λ (o : Onward). NextFits o.writer o.next) (sym h)
    (fits_stored (notes w formed (fed_by formed.plan response)) cleaning formed response (fed_by formed.plan response) refl s.0 s.1)
serving_fits w (Sweep sweep after) response serving on two room has s h = subst (λ (o : Onward). NextFits o.writer o.next) (sym h) (fits_swept w sweep response serving)
serving_fits w (Delete sweep ids again) response serving on two room has s h =
    subst (λ (o : Onward). NextFits o.writer o.next) (sym h) (fits_deleted w sweep ids again response serving (is_up response && serves serving sweep.server) refl s.strays)
serving_fits w (Lookup cleaning) response serving on two room has s h = absurd h
serving_fits w (Mark cleaning server generation) response serving on two room has s h = absurd h
serving_fits w (Commit cleaning sealed) response serving on two room has s h = absurd h
serving_fits w (Retire target copied rejected) response serving on two room has s h = absurd h
