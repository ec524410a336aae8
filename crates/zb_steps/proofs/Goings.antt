-- What lies ahead, and how the work goes on with it.
use Rattle.std.specs.Bool.{MatchBool}
use Rattle.std.proofs.Common.{◌≡◌, ℕ, ◌<◌, ◌≤◌, Bool, true, List, [], ◌∷◌, ◌++◌, length, Option, Some, None, refl, ap, sym, subst, ◌∙◌, arith}
use Rattle.std.specs.List.{concat}
use Rattle.zb_types.specs.declared.ids.Ptr.{Ptr}
use Rattle.zb_types.specs.declared.tables.Found.{Found}
use Rattle.zb_stripe.specs.Reading.{Reading, start}
use Rattle.zb_log.specs.Logs.{SeenLog, renewed}
use Rattle.zb_log.proofs.Parting.{none_given}
use Rattle.zb_batch.specs.Spelling.{spelling_of_batch}
use Rattle.zb_cache.specs.Entries.{SeenCache}
use Rattle.zb_basis.specs.declared.calls.Numbered.{Numbered}
use Rattle.zb_basis.specs.declared.basis.Basis.{Basis}
use Rattle.zb_basis.specs.declared.basis.Fetched.{Fetched}
use Rattle.zb_basis.specs.declared.basis.Formed.{Formed}
use Rattle.zb_basis.specs.Runs.{run_of}
use Rattle.zb_basis.specs.Forming.{IsFormed, log_from, readers_out}
use Rattle.zb_basis.specs.Looking.{room_of}
use Rattle.zb_work.specs.declared.work.Step.TheVariants.{Fetch, Store}
use Rattle.zb_work.specs.Steps.{first_members}
use Rattle.zb_work.specs.Blocks.{next_missing, slots_of, asked_for}
use Rattle.zb_work.specs.Fitting.{wanted_for, Rests, IsFetching, Stands, IsStoring}
use Rattle.zb_work.proofs.Missing.{missing_some}
use Rattle.zb_steps.specs.declared.next.Next.{Next}
use Rattle.zb_steps.specs.declared.next.Next.TheVariants as next
use Rattle.zb_steps.specs.declared.next.Ahead.{Ahead}
use Rattle.zb_steps.specs.declared.next.Ahead.TheVariants as ahead
use Rattle.zb_steps.specs.Desks.{SeenDesk, HasGiven}
use Rattle.zb_work.specs.declared.work.Step.TheVariants.{Lookup}
use Rattle.zb_steps.specs.Going.{Onward, NextFits, Forms, RepliesFirst, HasAll, GoesOnAt, GoesOn, steps, behind, log_for, is_whole, with_block, caches, asks, looked_up}
use Rattle.zb_steps.specs.Serving.{BytesGive}
use Rattle.zb_steps.specs.Ahead.{IsReplyFor, IsAheadOfAll, IsAheadAt, IsAhead, goes_on}
use Rattle.zb_steps.proofs.Finding.{rests_filled, whole_long}
use Rattle.zb_steps.proofs.Planned.{formed_asked}
use Rattle.zb_steps.proofs.Standing.{start_stands}

goes_read : (d : SeenDesk) (basis : Basis) (queue : List Numbered) (a : Ahead) (on : Onward) → IsAheadOfAll d [] queue basis a → goes_on d basis a ≡ on → RepliesFirst d queue basis on
goes_read d basis queue (ahead.Fetch at ptr plan) on h e = absurd h
goes_read d basis queue (ahead.Store formed) on h e = absurd h
goes_read d basis [] (ahead.Reply reply) on h e = absurd h
goes_read d basis (read ∷ rest) (ahead.Reply reply) on h e = record { reply = reply; right = h; is = sym e }

goes_all : (d : SeenDesk) (basis : Basis) (kept queue : List Numbered) (a : Ahead) (on : Onward) → IsAheadOfAll d kept queue basis a → goes_on d basis a ≡ on → HasAll d kept queue basis on
goes_all d basis [] queue a on h e = goes_read d basis queue a on h e
goes_all d basis (first ∷ others) queue (ahead.Store formed) on h e = record { formed = formed; is_formed = h; is = sym e }
goes_all d basis (first ∷ others) queue (ahead.Fetch at ptr plan) on h e = absurd h
goes_all d basis (first ∷ others) queue (ahead.Reply reply) on h e = absurd h

goes_at : (d : SeenDesk) (basis : Basis) (kept queue : List Numbered) (m : Option (ℕ × Ptr)) (a : Ahead) (on : Onward) → IsAheadAt d kept queue basis m a → goes_on d basis a ≡ on → GoesOnAt d kept queue basis m on
goes_at d basis kept queue None a on h e = goes_all d basis kept queue a on h e
goes_at d basis kept queue (Some m) (ahead.Fetch at ptr plan) on h e =
    sym e ∙ (ap (λ (z : ℕ). steps d (Fetch basis z ptr plan)) h.0
    ∙ (ap (λ (z : Ptr). steps d (Fetch basis m.0 z plan)) h.1
    ∙ ap (λ (z : Reading). steps d (Fetch basis m.0 m.1 z)) h.2))
goes_at d basis kept queue (Some m) (ahead.Store formed) on h e = absurd h
goes_at d basis kept queue (Some m) (ahead.Reply reply) on h e = absurd h

-- the work goes on with what lies ahead
pub goes : (d : SeenDesk) (basis : Basis) (kept queue : List Numbered) (a : Ahead) (on : Onward) → IsAhead d kept queue basis a → goes_on d basis a ≡ on → GoesOn d kept queue basis on
goes d basis kept queue a on h e = goes_at d basis kept queue (next_missing basis.fetched) a on h e

from_given : (log : SeenLog) (last : Option ℕ) → 2 ≤ log.servers → HasGiven log → HasGiven (log_from log last)
from_given log None two h = h
from_given log (Some last) two h = record { given = []; are = none_given (renewed log last) two refl refl }

from_room : (log : SeenLog) (last : Option ℕ) → (log_from log last).room ≡ log.room
from_room log None = refl
from_room log (Some last) = refl

-- a batch that is formed may be stored
may_store : (d : SeenDesk) (basis : Basis) (kept : List Numbered) (formed : Formed) → 2 ≤ d.log.servers → d.log.room ≡ room_of d.servers d.fragment → HasGiven d.log
    → IsFormed d.servers d.fragment d.block (log_for d basis) d.batch (first_members basis.found) (run_of kept) basis formed → IsStoring d.servers d.fragment (log_for d basis) kept 0 formed
may_store d basis kept formed two room has f =
    let last = behind d.flushed (first_members basis.found).generation in
    let given = from_given d.log last two has in
    record {
      settled = refl;
      count = f.is_batch.count;
      sealed = f.is_sealed;
      some = formed_asked d.servers d.fragment d.block (log_for d basis) d.batch (first_members basis.found) (run_of kept) basis formed given.given (from_room d.log last ∙ room) given.are f;
      about = λ given are. (f.stored given are).about;
      flush = λ given are. record {
        new = spelling_of_batch formed.sealed.batch ++ concat f.blocks;
        is_fresh = (f.stored given are).is_fresh;
        end = (f.stored given are).end;
      };
    }

fits_first : (d : SeenDesk) (basis : Basis) (queue : List Numbered) (on : Onward) → RepliesFirst d queue basis on → NextFits on.desk [] queue on.next
fits_first d basis [] on h = absurd h
fits_first d basis (read ∷ rest) on h = subst (λ (o : Onward). NextFits o.desk [] (read ∷ rest) o.next) (sym h.is) tt

fits_all : (d : SeenDesk) (basis : Basis) (kept queue : List Numbered) (on : Onward) → 2 ≤ d.log.servers → d.log.room ≡ room_of d.servers d.fragment → HasGiven d.log
    → HasAll d kept queue basis on → NextFits on.desk kept queue on.next
fits_all d basis [] queue on two room has h = fits_first d basis queue on h
fits_all d basis (first ∷ others) queue on two room has h =
    subst (λ (o : Onward). NextFits o.desk (first ∷ others) queue o.next) (sym h.is) (may_store d basis (first ∷ others) h.formed two room has h.is_formed)

fits_at : (d : SeenDesk) (basis : Basis) (kept queue : List Numbered) (m : Option (ℕ × Ptr)) (on : Onward) → next_missing basis.fetched ≡ m → 2 ≤ d.log.servers → d.log.room ≡ room_of d.servers d.fragment → HasGiven d.log
    → Rests d.servers d.fragment d.block kept queue 0 basis → GoesOnAt d kept queue basis m on → NextFits on.desk kept queue on.next
fits_at d basis kept queue None on e two room has r h = fits_all d basis kept queue on two room has h
fits_at d basis kept queue (Some m) on e two room has r h =
    let some : 0 < m.1.len = missing_some (room_of d.servers d.fragment) (wanted_for d.block kept queue basis.found) basis.fetched m.0 m.1 r.slots e in
    subst (λ (o : Onward). NextFits o.desk kept queue o.next) (sym h)
    (record { rests = r; missing = e }, start_stands d.servers d.fragment m.1 (readers_out (first_members basis.found).state) some)

-- what is true of the step at which the work goes on
pub fits : (d : SeenDesk) (basis : Basis) (kept queue : List Numbered) (on : Onward) → 2 ≤ d.log.servers → d.log.room ≡ room_of d.servers d.fragment → HasGiven d.log
    → Rests d.servers d.fragment d.block kept queue 0 basis → GoesOn d kept queue basis on → NextFits on.desk kept queue on.next
fits d basis kept queue on two room has r h = fits_at d basis kept queue (next_missing basis.fetched) on refl two room has r h

-- a batch of kept calls lies ahead
pub ahead_batch : (d : SeenDesk) (basis : Basis) (kept queue : List Numbered) (formed : Formed) → 0 < length kept
    → IsFormed d.servers d.fragment d.block (log_for d basis) d.batch (first_members basis.found) (run_of kept) basis formed → IsAheadOfAll d kept queue basis (ahead.Store formed)
ahead_batch d basis [] queue formed k f = absurd (omega arith)
ahead_batch d basis (first ∷ others) queue formed k f = f

-- what lies ahead where no block is missing, or where one is
pub ahead_all : (d : SeenDesk) (basis : Basis) (kept queue : List Numbered) (a : Ahead) → next_missing basis.fetched ≡ None → IsAheadOfAll d kept queue basis a → IsAhead d kept queue basis a
ahead_all d basis kept queue a e h = subst (λ (m : Option (ℕ × Ptr)). IsAheadAt d kept queue basis m a) (sym e) h

pub ahead_fetch : (d : SeenDesk) (basis : Basis) (kept queue : List Numbered) (at : ℕ) (ptr : Ptr) (a : Ahead) → next_missing basis.fetched ≡ Some (at, ptr)
    → a ≡ ahead.Fetch at ptr (start d.servers d.fragment ptr (readers_out (first_members basis.found).state)) → IsAhead d kept queue basis a
ahead_fetch d basis kept queue at ptr a e h =
    subst (λ (m : Option (ℕ × Ptr)). IsAheadAt d kept queue basis m a) (sym e) (subst (IsAheadAt d kept queue basis (Some (at, ptr))) (sym h) (refl, refl, refl))

-- what a block that came makes of the work
pub block_gives : (d now : SeenDesk) (basis with : Basis) (kept queue : List Numbered) (at : ℕ) (ptr : Ptr) (bytes : List ℕ) (a : Ahead) (on : Onward) → is_whole ptr bytes ≡ true
    → now ≡ caches d ptr bytes → with ≡ with_block basis at ptr bytes → IsAhead d kept queue (with_block basis at ptr bytes) a → goes_on now with a ≡ on → BytesGive d kept queue basis at ptr bytes on
block_gives d now basis with kept queue at ptr bytes a on w e f h told =
    let same : goes_on (caches d ptr bytes) (with_block basis at ptr bytes) a ≡ on = subst (λ (z : SeenDesk). goes_on z (with_block basis at ptr bytes) a ≡ on) e (subst (λ (z : Basis). goes_on now z a ≡ on) f told) in
    subst (λ (t : Bool). MatchBool t (GoesOn (caches d ptr bytes) kept queue (with_block basis at ptr bytes) on) (on ≡ steps d Lookup)) (sym w) (goes (caches d ptr bytes) (with_block basis at ptr bytes) kept queue a on h same)

-- what a lookup found, and how the work goes on with it
pub found_gives : (d : SeenDesk) (kept queue : List Numbered) (found : List Found) (wanted : List Ptr) (fetched : List Fetched) (cache : SeenCache) (a : Ahead) (on : Onward) → wanted ≡ wanted_for d.block kept queue found
    → fetched ≡ slots_of d.cache wanted → cache ≡ asked_for wanted d.cache → IsAhead d kept queue (record { found = found; wanted = wanted; fetched = fetched }) a
    → goes_on (record d { cache = cache }) (record { found = found; wanted = wanted; fetched = fetched }) a ≡ on → GoesOn (asks d (wanted_for d.block kept queue found)) kept queue (looked_up d kept queue found) on
found_gives d kept queue found wanted fetched cache a on exact cached asked h e =
    let slots : fetched ≡ slots_of d.cache (wanted_for d.block kept queue found) = cached ∙ ap (slots_of d.cache) exact in
    let same : (record { found = found; wanted = wanted; fetched = fetched }) ≡ looked_up d kept queue found = λ i. record { found = found; wanted = exact i; fetched = slots i } in
    let goes_so : GoesOn (record d { cache = cache }) kept queue (record { found = found; wanted = wanted; fetched = fetched }) on =
    goes (record d { cache = cache }) (record { found = found; wanted = wanted; fetched = fetched }) kept queue a on h e in
    subst (λ (b : Basis). GoesOn (asks d (wanted_for d.block kept queue found)) kept queue b on) same
    (subst (λ (k : SeenCache). GoesOn (record d { cache = k }) kept queue (record { found = found; wanted = wanted; fetched = fetched }) on) (asked ∙ ap (λ (w : List Ptr). asked_for w d.cache) exact) goes_so)

-- what is true then of the step at which it goes on
pub found_fits : (d : SeenDesk) (kept queue : List Numbered) (basis : Basis) (cache : SeenCache) (a : Ahead) (on : Onward) → 2 ≤ d.log.servers → d.log.room ≡ room_of d.servers d.fragment → HasGiven d.log
    → Rests d.servers d.fragment d.block kept queue 0 basis → IsAhead d kept queue basis a → goes_on (record d { cache = cache }) basis a ≡ on → NextFits on.desk kept queue on.next
found_fits d kept queue basis cache a on two room has r h e = fits (record d { cache = cache }) basis kept queue on two room has r (goes (record d { cache = cache }) basis kept queue a on h e)
