-- What stays of calls that were given.
use Rattle.std.proofs.Common.{◌≡◌, ℕ, zero, suc, ◌<◌, ◌≤◌, Bool, true, false, not, cond, ◌&&◌, ◌||◌, eqb, List, [], ◌∷◌, ◌++◌, length, take, drop, Some, None, refl, sym, ap, subst, ◌∙◌, append_assoc, arith, inl, inr}
use Rattle.std.specs.Prelude.{map, nat_le, ◌-◌, slice_get, ◌⊎◌}
use Rattle.std.specs.List.{list_any, flat_map, AllByRecursion}
use Rattle.std.proofs.lemmas.Grind.{flat_map-append}
use Rattle.std.proofs.lemmas.List.{length-append, length-map, drop-append-le, take-append-le, take-append-drop}
use Rattle.std.proofs.lemmas.List.Folds.{list_any-append}
use Rattle.zb_types.specs.declared.calls.Call.{Call}
use Rattle.zb_types.specs.declared.nodes.Event.TheVariants.{Crash as CrashOf, Arm as ArmOf, Up as UpOf, Lose as LoseOf, Checkpoint as CheckpointOf}
use Rattle.zb_types.specs.declared.lines.Line.{Line}
use Rattle.zb_types.specs.declared.lines.Line.TheVariants.{Call as CallLine, Job as JobLine, Steps, StepTo, Event as EventLine}
use Rattle.zb_types.specs.declared.lines.Job.TheVariants.{Clean, Rebuild}
use Rattle.zb_types.specs.declared.lines.Told.{Told}
use Rattle.zb_types.specs.declared.lines.Told.TheVariants.{Crash, Arm, Up, Lose, Checkpoint}
use Rattle.zb_types.specs.declared.lines.Outcome.{Outcome}
use Rattle.zb_types.specs.declared.lines.Outcome.TheVariants.{Call as OfCall, Clean as OfClean, Rebuild as OfRebuild, Event as OfEvent}
use Rattle.zb_types.specs.History.{tree_after}
use Rattle.zb_claims.specs.Points.{calls, is_about, asked, asked_of, call_in, call_of, names, ends, is_final, has_line, has_final, is_of_client, tree_at}
use Rattle.zb_claims.specs.Fits.{is_update_in, are_ended}
use Rattle.zb_laws.proofs.Tests.{equal, equals, both, first_true, last_true, any_more}
use Rattle.zb_given.specs.Given.{Item, Given, with_item, script_of, point, place_in, place_of, call_by, calls_of, clock_of_given}
use Rattle.zb_given.specs.Gives.{with_plus, about}
use Rattle.zb_given.specs.Stays.{NamesOwn, CountsOwn, IsFresh, NextIsFresh, NoneIsAhead, CallStays, OpenStays, OpenFinish, OpenOver, EndedOver, FullOver, LooksUp, LookupStays, LookupOver, AtWorkStays, AtWorkFinish, AtWorkOver, SeenStays, SeenOver}
use Rattle.zb_given.proofs.Small.{get_last, all_front}
use Rattle.zb_given.proofs.Asking.{line_call, call_of_about, asked_more}
use Rattle.zb_given.proofs.Parts.{asks_call, splits, within, one_part}
use Rattle.zb_given.proofs.Carry.{IsAsked, all_asked, dids_agree}
use Rattle.zb_given.proofs.MoreGiving.{one_more, more_extend, point_kept}
use Rattle.zb_given.proofs.Adding.{point_stood}

-- The calls of a client.

record IsOwnCall (client : ℕ) (line : Line) : Type 0 where
  about_it : is_about (calls client) line ≡ true
  call : Call
  by : call_by client line ≡ call ∷ []
  is : line_call (Some (with_plus line)) ≡ Some call

own_kind : (client : ℕ) (line : Line) → ((is_about (calls client) line ≡ false) × (call_by client line ≡ [])) ⊎ IsOwnCall client line
own_kind client (CallLine plus c call) = by_test (eqb client c) refl
  where
    by_test : (b : Bool) → eqb client c ≡ b → ((eqb client c ≡ false) × (cond (eqb client c) (call ∷ []) [] ≡ [])) ⊎ IsOwnCall client (CallLine plus c call)
    by_test true e = inr (record { about_it = e; call = call; by = ap (λ (b : Bool). cond b (call ∷ []) []) e; is = refl })
    by_test false e = inl (e, ap (λ (b : Bool). cond b (call ∷ []) []) e)
own_kind client (JobLine plus Clean) = inl (refl, refl)
own_kind client (JobLine plus (Rebuild server)) = inl (refl, refl)
own_kind client (Steps actor count) = inl (refl, refl)
own_kind client (StepTo actor kind) = inl (refl, refl)
own_kind client (EventLine (CrashOf node)) = inl (refl, refl)
own_kind client (EventLine (ArmOf node count)) = inl (refl, refl)
own_kind client (EventLine (UpOf node)) = inl (refl, refl)
own_kind client (EventLine (LoseOf server)) = inl (refl, refl)
own_kind client (EventLine CheckpointOf) = inl (refl, refl)

own_lines : (client : ℕ) (items : List Item) (m : ℕ) → line_call (slice_get (map with_plus (about (calls client) (map (λ (item : Item). item.line) items))) m) ≡ slice_get (flat_map (λ (item : Item). call_by client item.line) items) m
own_lines client [] m = refl
own_lines client (item ∷ items) m = elim (own_kind client item.line) as (λ _. line_call (slice_get (map with_plus (cond (is_about (calls client) item.line) (item.line ∷ about (calls client) (map (λ (i : Item). i.line) items)) (about (calls client) (map (λ (i : Item). i.line) items)))) m)
    ≡ slice_get (call_by client item.line ++ flat_map (λ (i : Item). call_by client i.line) items) m) [
      | inl e ↦ rw (e.0, e.1) (own_lines client items m)
      | inr e ↦ rw (e.about_it, e.by) (at_place item e.call e.is (own_lines client items) m)
    ]
  where
    at_place : (i : Item) (call : Call) → line_call (Some (with_plus i.line)) ≡ Some call → ((k : ℕ) → line_call (slice_get (map with_plus (about (calls client) (map (λ (i : Item). i.line) items))) k) ≡ slice_get (flat_map (λ (i : Item). call_by client i.line) items) k)
        → (m : ℕ) → line_call (slice_get (with_plus i.line ∷ map with_plus (about (calls client) (map (λ (i : Item). i.line) items))) m) ≡ slice_get (call ∷ flat_map (λ (i : Item). call_by client i.line) items) m
    at_place i call is rec zero = is
    at_place i call is rec (suc k) = rec k

pub names_own : NamesOwn
names_own given client m = call_of_about (script_of given) client m ∙ own_lines client given.items m

own_count : (client : ℕ) (items : List Item) → asked_of (calls client) (map (λ (item : Item). item.line) items) ≡ length (flat_map (λ (item : Item). call_by client item.line) items)
own_count client [] = refl
own_count client (item ∷ items) = elim (own_kind client item.line) as (λ _. length (cond (is_about (calls client) item.line) (item.line ∷ about (calls client) (map (λ (i : Item). i.line) items)) (about (calls client) (map (λ (i : Item). i.line) items)))
    ≡ length (call_by client item.line ++ flat_map (λ (i : Item). call_by client i.line) items)) [
      | inl e ↦ rw (e.0, e.1) (own_count client items)
      | inr e ↦ rw (e.about_it, e.by) (ap suc (own_count client items))
    ]

pub counts_own : CountsOwn
counts_own given client = own_count client given.items

-- One more.

point_last : (items : List Item) (x : Item) → point (items ++ x ∷ []) (length items) ≡ x.at
point_last [] x = refl
point_last (i ∷ items) x = point_last items x

own_line : (client : ℕ) (call : Call) → call_by client (CallLine true client call) ≡ call ∷ []
own_line client call = ap (λ (b : Bool). cond b (call ∷ []) []) (equals client)

module _ (given : Given) (client : ℕ) (call : Call) (at : ℕ) where
  abbrev given_line : Line
  given_line = CallLine true client call

  abbrev x : Item
  x = record { line = CallLine true client call; at = at }

  abbrev longer : Given
  longer = with_item given (CallLine true client call) at

  abbrev n : ℕ
  n = length (calls_of given client)

  fresh_calls : calls_of longer client ≡ calls_of given client ++ call ∷ []
  fresh_calls = flat_map-append (λ (item : Item). call_by client item.line) given.items (x ∷ []) ∙ ap (λ (l : List Call). calls_of given client ++ (l ++ [])) (own_line client call)

  fresh_is : call_of (script_of longer) client (suc n) ≡ Some call
  fresh_is = names_own longer client n ∙ ap (λ (l : List Call). slice_get l n) fresh_calls ∙ get_last (calls_of given client) call

  fresh_place : place_of longer client (suc n) ≡ length given.items
  fresh_place =
      let a = asks_call (script_of longer) client (suc n) call fresh_is in
      let p = splits 0 (calls client) (suc n) (script_of longer) (place_of longer client (suc n)) (CallLine a.plus client call) a.is in
      let whole : p.front ++ CallLine a.plus client call ∷ p.rest ≡ script_of given ++ given_line ∷ [] = sym p.split ∙ one_more given given_line at in
      let counts : asked_of (calls client) p.front ≡ asked_of (calls client) (script_of given) = less (sym p.count) ∙ sym (own_count client given.items) in
      let one = one_part (calls client) p.front (script_of given) p.rest [] (CallLine a.plus client call) given_line whole p.is (equals client) counts in
      omega (arith, p.at, ap length one.0, length-map given.items (λ (item : Item). item.line))
    where
      less : {a b : ℕ} → suc a ≡ suc b → a ≡ b
      less e = omega (arith, e)

  fresh : IsFresh given client call at
  fresh = record { own = fresh_calls; is = fresh_is; place = fresh_place; point = ap (point (given.items ++ x ∷ [])) fresh_place ∙ point_last given.items x }

pub next_is_fresh : NextIsFresh
next_is_fresh given client call at = fresh given client call at

pub call_stays : CallStays
call_stays given line at client n call is =
    let a = asks_call (script_of given) client n call is in
    let there : asked (script_of (with_item given line at)) (calls client) n ≡ Some (place_of given client n, CallLine a.plus client call) =
    ap (λ (l : List Line). asked l (calls client) n) (one_more given line at) ∙ asked_more 0 (calls client) n (script_of given) (line ∷ []) (place_of given client n, CallLine a.plus client call) a.is in
    let place : place_of (with_item given line at) client n ≡ place_of given client n = ap place_in there in
    let lt : place_of given client n < length given.items = omega (arith, within (script_of given) (calls client) n (place_of given client n) (CallLine a.plus client call) a.is, length-map given.items (λ (item : Item). item.line)) in
    record {
      is = ap call_in there;
      place = place;
      point = ap (point (given.items ++ record { line = line; at = at } ∷ [])) place ∙ point_kept given line at given.items (record { line = line; at = at }) (place_of given client n) lt;
    }

-- No line names what wasn't given.

-- a final line of a call names it
ends_named : (client n : ℕ) (lines : List Outcome) → has_line lines client n ≡ false → has_final lines client n ≡ false
ends_named client n [] h = refl
ends_named client n (OfCall c m said ∷ lines) h = by_tests (eqb client c) (eqb n m) (list_any (names client n) lines) h (ends_named client n lines)
  where
    by_tests : (a b rest : Bool) → ((a && b) || rest) ≡ false → (rest ≡ false → has_final lines client n ≡ false) → ((a && b && is_final said) || has_final lines client n) ≡ false
    by_tests true true rest e more = absurd cc
    by_tests true false rest e more = more e
    by_tests false b rest e more = more e
ends_named client n (OfClean pass ∷ lines) h = ends_named client n lines h
ends_named client n (OfRebuild server end ∷ lines) h = ends_named client n lines h
ends_named client n (OfEvent event answer ∷ lines) h = ends_named client n lines h

none_named : (A : List Line) (client n : ℕ) (lines : List Outcome) → AllByRecursion (IsAsked A) lines → asked_of (calls client) A < n → has_line lines client n ≡ false
none_named A client n [] asked lt = refl
none_named A client n (OfCall c m said ∷ lines) asked lt = by_tests (eqb client c) (eqb n m) refl refl (none_named A client n lines asked.1 lt)
  where
    by_tests : (a b : Bool) → eqb client c ≡ a → eqb n m ≡ b → has_line lines client n ≡ false → ((a && b) || has_line lines client n) ≡ false
    by_tests true true one two rest =
        let at = asked.0 in
        absurd (omega (arith, lt, equal n m two, at.1, at.2, ap (λ (k : ℕ). asked_of (calls k) A) (equal client c one)))
    by_tests true false one two rest = rest
    by_tests false b one two rest = rest
none_named A client n (OfClean pass ∷ lines) asked lt = none_named A client n lines asked.1 lt
none_named A client n (OfRebuild server end ∷ lines) asked lt = none_named A client n lines asked.1 lt
none_named A client n (OfEvent event answer ∷ lines) asked lt = none_named A client n lines asked.1 lt

pub none_is_ahead : NoneIsAhead
none_is_ahead given lines client n g lt =
    let none : has_line lines client n ≡ false = none_named (script_of given) client n lines (all_asked (clock_of_given given) (script_of given) [] lines g.fits) (omega (arith, lt, counts_own given client)) in
    record { line = none; final = ends_named client n lines none }

-- Open calls.

pub open_stays : OpenStays
open_stays given lines line at client n call o = record { is = (call_stays given line at client n call o.is).is; next = o.next; unended = o.unended }

pub open_finish : OpenFinish
open_finish given lines at client n call o = record { is = o.is; next = o.next; unended = o.unended }

or_more : (a b c : Bool) → (b ≡ true → c ≡ true) → (a || b) ≡ true → (a || c) ≡ true
or_more true b c f h = refl
or_more false b c f h = f h

pub open_over : OpenOver
open_over given lines more client n call none o = record {
  is = o.is;
  next = or_more (nat_le n 1) (has_line lines client (n - 1)) (has_line (lines ++ more) client (n - 1)) (any_more (names client (n - 1)) lines more) o.next;
  unended = list_any-append (ends client n) lines more ∙ ap (λ (b : Bool). b || has_final more client n) o.unended ∙ none;
}

pub ended_over : EndedOver
ended_over given lines more client zero h = refl
ended_over given lines more client (suc m) h =
    let no_update : Bool = not (is_update_in (call_of (script_of given) client m)) in
    both (no_update || has_final (lines ++ more) client m) (are_ended (script_of given) (lines ++ more) client m)
    (or_more no_update (has_final lines client m) (has_final (lines ++ more) client m) (any_more (ends client m) lines more) (first_true (no_update || has_final lines client m) (are_ended (script_of given) lines client m) h))
    (ended_over given lines more client m (last_true (no_update || has_final lines client m) (are_ended (script_of given) lines client m) h))

pub full_over : FullOver
full_over lines more client n f = record {
  front = f.front;
  rest = f.rest ++ more;
  split = ap (λ (l : List Outcome). l ++ more) f.split ∙ append_assoc f.front f.rest more;
  next = f.next;
  full = f.full;
}

-- Reads.

drop_whole : (lines : List Outcome) → drop (length lines) lines ≡ []
drop_whole [] = refl
drop_whole (x ∷ lines) = drop_whole lines

pub looks_up : LooksUp
looks_up given lines client n call g o read = record {
  is_open = o;
  is_read = read;
  stood = omega arith;
  after_given = point_stood (length lines) given.items (place_of given client n) g.stood;
  after_own = ap (list_any (is_of_client client)) (drop_whole lines);
}

pub lookup_stays : LookupStays
lookup_stays given lines line at client read call l = record {
  is_open = open_stays given lines line at client read.number call l.is_open;
  is_read = l.is_read;
  stood = l.stood;
  after_given = subst (λ (k : ℕ). k ≤ read.at) (sym (call_stays given line at client read.number call l.is_open.is).point) l.after_given;
  after_own = l.after_own;
}

pub none_ends : (client n : ℕ) (more : List Outcome) → list_any (is_of_client client) more ≡ false → has_final more client n ≡ false
none_ends client n [] h = refl
none_ends client n (OfCall c m said ∷ more) h = by_test (eqb client c) h (none_ends client n more)
  where
    by_test : (a : Bool) → (a || list_any (is_of_client client) more) ≡ false → (list_any (is_of_client client) more ≡ false → has_final more client n ≡ false) → ((a && eqb n m && is_final said) || has_final more client n) ≡ false
    by_test true e rest = absurd cc
    by_test false e rest = rest e
none_ends client n (OfClean pass ∷ more) h = none_ends client n more h
none_ends client n (OfRebuild server end ∷ more) h = none_ends client n more h
none_ends client n (OfEvent event answer ∷ more) h = none_ends client n more (last_other event h)
  where
    last_other : (event : Told) → (is_of_client client (OfEvent event answer) || list_any (is_of_client client) more) ≡ false → list_any (is_of_client client) more ≡ false
    last_other (Crash node) e = e
    last_other (Arm node) e = e
    last_other (Up node) e = e
    last_other (Lose server) e = e
    last_other Checkpoint e = e

pub lookup_over : LookupOver
lookup_over given lines more client read call none l = record {
  is_open = open_over given lines more client read.number call (none_ends client read.number more none) l.is_open;
  is_read = l.is_read;
  stood = omega (arith, l.stood, length-append lines more);
  after_given = l.after_given;
  after_own = ap (list_any (is_of_client client)) (drop-append-le read.at lines more l.stood) ∙ list_any-append (is_of_client client) (drop read.at lines) more ∙ ap (λ (b : Bool). b || list_any (is_of_client client) more) l.after_own ∙ none;
}

pub at_work_stays : AtWorkStays
at_work_stays given lines line at client None is = tt
at_work_stays given lines line at client (Some read) is = (is.0, lookup_stays given lines line at client read is.0 is.1)

pub at_work_finish : AtWorkFinish
at_work_finish given lines at client None is = tt
at_work_finish given lines at client (Some read) is =
    let l = is.1 in
    (is.0, record { is_open = open_finish given lines at client read.number is.0 l.is_open; is_read = l.is_read; stood = l.stood; after_given = l.after_given; after_own = l.after_own })

pub at_work_over : AtWorkOver
at_work_over given lines more client None none is = tt
at_work_over given lines more client (Some read) none is = (is.0, lookup_over given lines more client read is.0 none is.1)

pub seen_stays : SeenStays
seen_stays given lines line at read g =
    let asked_all : AllByRecursion (IsAsked (script_of given)) lines = all_asked (clock_of_given given) (script_of given) [] lines g.fits in
    ap tree_after (dids_agree (script_of given) (script_of (with_item given line at)) (more_extend given line at) (take read.at lines)
    (all_front (IsAsked (script_of given)) (take read.at lines) (drop read.at lines) (subst (AllByRecursion (IsAsked (script_of given))) (sym (take-append-drop read.at lines)) asked_all)))

pub seen_over : SeenOver
seen_over given lines more read le = ap (tree_at (script_of given)) (take-append-le read.at lines more le)
