-- How the calls of a client stand.
use Rattle.std.proofs.Common.{◌≡◌, ℕ, zero, suc, ◌-◌, ◌<◌, ◌≤◌, max, Bool, true, false, not, cond, ◌&&◌, ◌||◌, eqb, List, [], ◌∷◌, ◌++◌, length, Option, Some, None, refl, sym, ap, subst, ◌∙◌, arith, inl, inr}
use Rattle.std.specs.Prelude.{filter, nat_le, get_or}
use Rattle.std.specs.List.{list_any, flat_map, AllByRecursion}
use Rattle.std.proofs.lemmas.Bool.Decides.{nat_tests}
use Rattle.std.proofs.lemmas.Grind.{flat_map-append}
use Rattle.std.proofs.lemmas.List.{append-nil}
use Rattle.std.proofs.lemmas.Option.{slice_get-get_or, slice_get_within}
use Rattle.std.proofs.lemmas.List.Elements.{filter-append}
use Rattle.std.proofs.lemmas.List.Folds.{list_any-append}
use Rattle.zb_types.specs.declared.calls.Call.{Call}
use Rattle.zb_types.specs.declared.lines.Line.{Line}
use Rattle.zb_types.specs.declared.lines.Said.{Said}
use Rattle.zb_types.specs.declared.lines.Said.TheVariants.{Reply as Replied, Buffered, Kept, Failed, Dropped, Unfinished}
use Rattle.zb_types.specs.declared.lines.Outcome.{Outcome}
use Rattle.zb_types.specs.declared.lines.Outcome.TheVariants.{Call as OfCall, Clean as OfClean, Rebuild as OfRebuild, Event as OfEvent}
use Rattle.zb_types.specs.Limits.{within, most_kept}
use Rattle.zb_types.specs.Apply.{is_update, is_bufferable}
use Rattle.zb_claims.specs.Points.{calls, asked_of, call_of, names, ends, is_final, is_of_client, has_line, has_final, kept_in, kept_now}
use Rattle.zb_claims.specs.Fits.{is_update_in, are_ended, is_next, WasFull, MayNotBuffer}
use Rattle.zb_laws.proofs.Tests.{both, equal, equals, at_or_below, or_right, or_cases, first_false, last_false}
use Rattle.zb_laws.proofs.Each.{each_weaker}
use Rattle.zb_given.specs.Given.{Given, with_item, script_of, calls_of}
use Rattle.zb_given.specs.Queues.{is_among, RiseAbove, kept_numbers, last_without, CallsStand, StandFirst, StandGiven, StandFinish, StandOver, Buffers, Takes, KeepsFor, EndsKept, EndsQueued, IdleHasLines, NoneKeptHasLast}
use Rattle.zb_given.proofs.Small.{no, all_push}
use Rattle.zb_given.proofs.Asking.{call_of_zero}
use Rattle.zb_given.proofs.AllMet.{asked_of_append}
use Rattle.zb_given.proofs.MoreGiving.{one_more}
use Rattle.zb_given.proofs.Adding.{buffers_update}
use Rattle.zb_given.proofs.Staying.{names_own, counts_own, call_stays, full_over, none_ends}

-- Numbers.

among_push : (kept : List ℕ) (k n : ℕ) → is_among (kept ++ k ∷ []) n ≡ (is_among kept n || (eqb k n || false))
among_push kept k n = list_any-append (λ m. eqb m n) kept (k ∷ [])

none_among_above : (low n : ℕ) (kept : List ℕ) → n ≤ low → RiseAbove low kept → is_among kept n ≡ false
none_among_above low n [] le rise = refl
none_among_above low n (k ∷ kept) le rise =
    let other : eqb k n ≡ false = grind (arith, nat_tests, rise.0) in
    rw other (none_among_above k n kept (omega (arith, le, rise.0)) rise.1)

none_among_below : (top n : ℕ) (kept : List ℕ) → top < n → AllByRecursion (λ k. k ≤ top) kept → is_among kept n ≡ false
none_among_below top n [] lt below = refl
none_among_below top n (k ∷ kept) lt below =
    let other : eqb k n ≡ false = differ k n (omega (arith, lt, below.0)) in
    rw other (none_among_below top n kept lt below.1)
  where
    differ : (a b : ℕ) → a < b → eqb a b ≡ false
    differ a b lt = grind (arith, nat_tests)

differs : (a b : ℕ) → a < b → not (eqb b a) ≡ true
differs a b lt = grind (arith, nat_tests)

-- taking this number away from a list that is above it, or below it
filter_above : (n : ℕ) (kept : List ℕ) → RiseAbove n kept → filter (λ m. not (eqb m n)) kept ≡ kept
filter_above n kept rise = above n kept (omega arith) rise
  where
    above : (low : ℕ) (xs : List ℕ) → n ≤ low → RiseAbove low xs → filter (λ m. not (eqb m n)) xs ≡ xs
    above low [] le rise = refl
    above low (k ∷ xs) le rise = rw (differs n k (omega (arith, le, rise.0))) (ap (λ (l : List ℕ). k ∷ l) (above k xs (omega (arith, le, rise.0)) rise.1))

filter_first : (n : ℕ) (kept : List ℕ) → RiseAbove n kept → filter (λ m. not (eqb m n)) (n ∷ kept) ≡ kept
filter_first n kept rise = rw (equals n) (filter_above n kept rise)

filter_below : (n : ℕ) (kept : List ℕ) → AllByRecursion (λ k. k < n) kept → filter (λ m. not (eqb m n)) kept ≡ kept
filter_below n [] below = refl
filter_below n (k ∷ kept) below = rw (other k n below.0) (ap (λ (l : List ℕ). k ∷ l) (filter_below n kept below.1))
  where
    other : (a b : ℕ) → a < b → not (eqb a b) ≡ true
    other a b lt = grind (arith, nat_tests)

filter_same : {X : Type 0} (f g : X → Bool) → ((x : X) → f x ≡ g x) → (xs : List X) → filter f xs ≡ filter g xs
filter_same f g same [] = refl
filter_same f g same (x ∷ xs) = ap (λ (b : Bool). cond b (x ∷ filter f xs) (filter f xs)) (same x) ∙ ap (λ (l : List _). cond (g x) (x ∷ l) l) (filter_same f g same xs)

filter_twice : {X : Type 0} (f g : X → Bool) (xs : List X) → filter (λ x. f x && g x) xs ≡ filter g (filter f xs)
filter_twice f g [] = refl
filter_twice f g (x ∷ xs) = elim (f x) as (λ b. cond (b && g x) (x ∷ filter (λ y. f y && g y) xs) (filter (λ y. f y && g y) xs) ≡ filter g (cond b (x ∷ filter f xs) (filter f xs))) [
  | true ↦ ap (λ (l : List _). cond (g x) (x ∷ l) l) (filter_twice f g xs)
  | false ↦ filter_twice f g xs
]

same_call : {a b : Call} → Some a ≡ Some b → a ≡ b
same_call e = cc

-- One line more of the client.

line_more : (lines : List Outcome) (client n m : ℕ) (said : Said) → has_line (lines ++ OfCall client n said ∷ []) client m ≡ (has_line lines client m || eqb m n)
line_more lines client n m said = list_any-append (names client m) lines (OfCall client n said ∷ []) ∙ ap (λ (b : Bool). has_line lines client m || ((b && eqb m n) || false)) (equals client) ∙ end (has_line lines client m) (eqb m n)
  where
    end : (a b : Bool) → (a || (b || false)) ≡ (a || b)
    end a true = refl
    end a false = refl

final_more : (lines : List Outcome) (client n m : ℕ) (said : Said) → has_final (lines ++ OfCall client n said ∷ []) client m ≡ (has_final lines client m || (eqb m n && is_final said))
final_more lines client n m said = list_any-append (ends client m) lines (OfCall client n said ∷ []) ∙ ap (λ (b : Bool). has_final lines client m || ((b && eqb m n && is_final said) || false)) (equals client) ∙ end (has_final lines client m) (eqb m n) (is_final said)
  where
    end : (a b c : Bool) → (a || ((b && c) || false)) ≡ (a || (b && c))
    end a true true = refl
    end a true false = refl
    end a false c = refl

-- The numbers that are kept.

-- a `kept` line adds its number
kept_more : (lines : List Outcome) (client n : ℕ) (said : Said) → is_final said ≡ false → kept_in client (OfCall client n said) ≡ n ∷ [] → has_final lines client n ≡ false → kept_numbers (lines ++ OfCall client n said ∷ []) client ≡ kept_numbers lines client ++ n ∷ []
kept_more lines client n said still adds left =
    let all : flat_map (kept_in client) (lines ++ OfCall client n said ∷ []) ≡ flat_map (kept_in client) lines ++ n ∷ [] = flat_map-append (kept_in client) lines (OfCall client n said ∷ []) ∙ ap (λ (l : List ℕ). flat_map (kept_in client) lines ++ (l ++ [])) adds in
    filter_same (λ m. not (has_final (lines ++ OfCall client n said ∷ []) client m)) (λ m. not (has_final lines client m)) (λ m. ap not (final_more lines client n m said ∙ ap (λ (b : Bool). has_final lines client m || (eqb m n && b)) still ∙ end (has_final lines client m) (eqb m n))) (flat_map (kept_in client) (lines ++ OfCall client n said ∷ []))
    ∙ ap (filter (λ m. not (has_final lines client m))) all
    ∙ filter-append (λ m. not (has_final lines client m)) (flat_map (kept_in client) lines) (n ∷ [])
    ∙ ap (λ (b : Bool). kept_numbers lines client ++ cond (not b) (n ∷ []) []) left
  where
    end : (a b : Bool) → (a || (b && false)) ≡ a
    end true b = refl
    end false true = refl
    end false false = refl

no_kept : (client n : ℕ) (said : Said) → is_final said ≡ true → kept_in client (OfCall client n said) ≡ []
no_kept client n (Replied reply) h = refl
no_kept client n Buffered h = no h
no_kept client n (Kept cause) h = no h
no_kept client n (Failed cause) h = refl
no_kept client n Dropped h = refl
no_kept client n (Unfinished cause) h = refl

-- a final line takes its number away
kept_ended : (lines : List Outcome) (client n : ℕ) (said : Said) → is_final said ≡ true → kept_numbers (lines ++ OfCall client n said ∷ []) client ≡ filter (λ m. not (eqb m n)) (kept_numbers lines client)
kept_ended lines client n said final =
    let all : flat_map (kept_in client) (lines ++ OfCall client n said ∷ []) ≡ flat_map (kept_in client) lines = flat_map-append (kept_in client) lines (OfCall client n said ∷ []) ∙ ap (λ (l : List ℕ). flat_map (kept_in client) lines ++ (l ++ [])) (no_kept client n said final) ∙ append-nil (flat_map (kept_in client) lines) in
    filter_same (λ m. not (has_final (lines ++ OfCall client n said ∷ []) client m)) (λ m. not (has_final lines client m) && not (eqb m n)) (λ m. ap not (final_more lines client n m said ∙ ap (λ (b : Bool). has_final lines client m || (eqb m n && b)) final) ∙ end (has_final lines client m) (eqb m n)) (flat_map (kept_in client) (lines ++ OfCall client n said ∷ []))
    ∙ ap (filter (λ m. not (has_final lines client m) && not (eqb m n))) all
    ∙ filter_twice (λ m. not (has_final lines client m)) (λ m. not (eqb m n)) (flat_map (kept_in client) lines)
  where
    end : (a b : Bool) → not (a || (b && true)) ≡ (not a && not b)
    end true b = refl
    end false true = refl
    end false false = refl

others_keep : (client : ℕ) (more : List Outcome) → list_any (is_of_client client) more ≡ false → flat_map (kept_in client) more ≡ []
others_keep client [] none = refl
others_keep client (x ∷ more) none = ap (λ (l : List ℕ). l ++ flat_map (kept_in client) more) (one x (first_false (is_of_client client x) (list_any (is_of_client client) more) none)) ∙ others_keep client more (last_false (is_of_client client x) (list_any (is_of_client client) more) none)
  where
    one : (x : Outcome) → is_of_client client x ≡ false → kept_in client x ≡ []
    one (OfCall c n (Replied reply)) h = refl
    one (OfCall c n Buffered) h = ap (λ (b : Bool). cond b (n ∷ []) []) h
    one (OfCall c n (Kept cause)) h = ap (λ (b : Bool). cond b (n ∷ []) []) h
    one (OfCall c n (Failed cause)) h = refl
    one (OfCall c n Dropped) h = refl
    one (OfCall c n (Unfinished cause)) h = refl
    one (OfClean pass) h = refl
    one (OfRebuild server end) h = refl
    one (OfEvent event answer) h = refl

none_names : (client n : ℕ) (more : List Outcome) → list_any (is_of_client client) more ≡ false → has_line more client n ≡ false
none_names client n [] h = refl
none_names client n (OfCall c m said ∷ more) h = by_test (eqb client c) h (none_names client n more)
  where
    by_test : (a : Bool) → (a || list_any (is_of_client client) more) ≡ false → (list_any (is_of_client client) more ≡ false → has_line more client n ≡ false) → ((a && eqb n m) || has_line more client n) ≡ false
    by_test true e rest = absurd cc
    by_test false e rest = rest e
none_names client n (OfClean pass ∷ more) h = none_names client n more h
none_names client n (OfRebuild server end ∷ more) h = none_names client n more h
none_names client n (OfEvent event answer ∷ more) h = none_names client n more (last_false (is_of_client client (OfEvent event answer)) (list_any (is_of_client client) more) h)

same_or : (a b : Bool) → b ≡ false → (a || b) ≡ a
same_or true b e = refl
same_or false b e = e

kept_over : (lines more : List Outcome) (client : ℕ) → list_any (is_of_client client) more ≡ false → kept_numbers (lines ++ more) client ≡ kept_numbers lines client
kept_over lines more client none =
    filter_same (λ m. not (has_final (lines ++ more) client m)) (λ m. not (has_final lines client m)) (λ m. ap not (list_any-append (ends client m) lines more ∙ same_or (has_final lines client m) (has_final more client m) (none_ends client m more none))) (flat_map (kept_in client) (lines ++ more))
    ∙ ap (filter (λ m. not (has_final lines client m))) (flat_map-append (kept_in client) lines more ∙ ap (λ (l : List ℕ). flat_map (kept_in client) lines ++ l) (others_keep client more none) ∙ append-nil (flat_map (kept_in client) lines))

-- How they stand.

without_none : (taken : ℕ) → last_without taken taken ≡ []
without_none taken = ap (λ (b : Bool). cond b [] (taken ∷ [])) (equals taken)

pub without_one : (lined : ℕ) → last_without (suc lined) lined ≡ suc lined ∷ []
without_one lined = ap (λ (b : Bool). cond b [] (suc lined ∷ [])) (other lined)
  where
    other : (a : ℕ) → eqb a (suc a) ≡ false
    other a = grind (arith, nat_tests)

-- where all have a line, those that are kept have a `kept` line
kept_all : (given : Given) (lines : List Outcome) (client : ℕ) (kept : List ℕ) (taken : ℕ) → CallsStand given lines client kept taken taken → kept_numbers lines client ≡ kept
kept_all given lines client kept taken s = sym (append-nil (kept_numbers lines client)) ∙ ap (λ (l : List ℕ). kept_numbers lines client ++ l) (sym (without_none taken)) ∙ s.kept_are

rise_push : (low n : ℕ) (kept : List ℕ) → low < n → RiseAbove low kept → AllByRecursion (λ k. k < n) kept → RiseAbove low (kept ++ n ∷ [])
rise_push low n [] lt rise below = (lt, tt)
rise_push low n (k ∷ kept) lt rise below = (rise.0, rise_push k n kept below.0 rise.1 below.1)

within_no : (top n : ℕ) → top < n → within 1 top n ≡ false
within_no top n lt = grind (arith, nat_tests)

pub within_yes : (top n : ℕ) → 1 ≤ n → n ≤ top → within 1 top n ≡ true
within_yes top n low high = grind (arith, nat_tests)

next_of : (given : Given) (lines : List Outcome) (client : ℕ) (kept : List ℕ) (taken lined n : ℕ) → CallsStand given lines client kept taken lined → n ≤ suc lined → is_next lines client n ≡ true
next_of given lines client kept taken lined zero s le = refl
next_of given lines client kept taken lined (suc zero) s le = refl
next_of given lines client kept taken lined (suc (suc m)) s le =
    let before : suc (suc m) - 1 ≡ suc m = omega arith in
    or_right (nat_le (suc (suc m)) 1) (has_line lines client (suc (suc m) - 1)) (ap (has_line lines client) before ∙ s.named (suc m) ∙ within_yes lined (suc m) (omega arith) (omega (arith, le)))

ended_below : (A : List Line) (lines : List Outcome) (client n : ℕ) → ((m : ℕ) → 1 ≤ m → m < n → has_final lines client m ≡ true) → are_ended A lines client n ≡ true
ended_below A lines client zero ended = refl
ended_below A lines client (suc zero) ended = ap (λ (o : Option Call). (not (is_update_in o) || has_final lines client 0) && true) (call_of_zero A client)
ended_below A lines client (suc (suc m)) ended =
    both (not (is_update_in (call_of A client (suc m))) || has_final lines client (suc m)) (are_ended A lines client (suc m))
    (or_right (not (is_update_in (call_of A client (suc m)))) (has_final lines client (suc m)) (ended (suc m) (omega arith) (omega arith)))
    (ended_below A lines client (suc m) (λ k low high. ended k low (omega (arith, high))))

-- The laws.

pub stand_first : StandFirst
stand_first client = record {
  named = λ n. sym (none n);
  ended = λ n. sym (ap (λ (b : Bool). b && true) (none n));
  kept_are = refl;
  rise = tt;
  below = tt;
  updates = tt;
  count = omega arith;
  few = omega arith;
  many = omega arith;
  full = λ call lt is. absurd (omega (arith, lt));
}
  where
    none : (n : ℕ) → within 1 0 n ≡ false
    none n = grind (arith, nat_tests)

-- the call of a number up to the count is the same where more is given
same_given : (given : Given) (line : Line) (at client n : ℕ) (call : Call) → 1 ≤ n → n ≤ length (calls_of given client) → call_of (script_of (with_item given line at)) client n ≡ Some call → call_of (script_of given) client n ≡ Some call
same_given given line at client zero call low high is = absurd (omega (arith, low))
same_given given line at client (suc m) call low high is =
    let found : call_of (script_of given) client (suc m) ≡ Some (get_or (calls_of given client) m call) = names_own given client m ∙ slice_get-get_or (calls_of given client) m call (omega (arith, high)) in
    found ∙ sym (call_stays given line at client (suc m) (get_or (calls_of given client) m call) found).is ∙ is

pub stand_given : StandGiven
stand_given given lines line at client kept taken lined s = record {
  named = s.named;
  ended = s.ended;
  kept_are = s.kept_are;
  rise = s.rise;
  below = s.below;
  updates = each_weaker (λ (n : ℕ). is_update_in (call_of (script_of given) client n) ≡ true) (λ (n : ℕ). is_update_in (call_of (script_of (with_item given line at)) client n) ≡ true) stays kept s.updates;
  count = omega (arith, s.count, counts_own given client, counts_own (with_item given line at) client, ap (asked_of (calls client)) (one_more given line at), asked_of_append (calls client) (script_of given) (line ∷ []));
  few = s.few;
  many = s.many;
  full = λ call lt is. s.full call lt (same_given given line at client taken call (omega (arith, lt)) s.count is);
}
  where
    by_call : (n : ℕ) (o : Option Call) → call_of (script_of given) client n ≡ o → is_update_in o ≡ true → is_update_in (call_of (script_of (with_item given line at)) client n) ≡ true
    by_call n None e h = no h
    by_call n (Some call) e h = ap is_update_in (call_stays given line at client n call e).is ∙ h

    stays : (n : ℕ) → is_update_in (call_of (script_of given) client n) ≡ true → is_update_in (call_of (script_of (with_item given line at)) client n) ≡ true
    stays n h = by_call n (call_of (script_of given) client n) refl h

pub stand_finish : StandFinish
stand_finish given lines at client kept taken lined s = record {
  named = s.named;
  ended = s.ended;
  kept_are = s.kept_are;
  rise = s.rise;
  below = s.below;
  updates = s.updates;
  count = s.count;
  few = s.few;
  many = s.many;
  full = s.full;
}

-- what may not be buffered may not be behind more lines
unbuffered_over : (lines more : List Outcome) (client n : ℕ) (call : Call) → MayNotBuffer lines client n call → MayNotBuffer (lines ++ more) client n call
unbuffered_over lines more client n call may = λ new buffer. full_over lines more client n (may (first_false (has_line lines client n) (has_line more client n) (sym (list_any-append (names client n) lines more) ∙ new)) buffer)

pub stand_over : StandOver
stand_over given lines more client kept taken lined none s = record {
  named = λ n. list_any-append (names client n) lines more ∙ same_or (has_line lines client n) (has_line more client n) (none_names client n more none) ∙ s.named n;
  ended = λ n. list_any-append (ends client n) lines more ∙ same_or (has_final lines client n) (has_final more client n) (none_ends client n more none) ∙ s.ended n;
  kept_are = ap (λ (l : List ℕ). l ++ last_without taken lined) (kept_over lines more client none) ∙ s.kept_are;
  rise = s.rise;
  below = s.below;
  updates = s.updates;
  count = s.count;
  few = s.few;
  many = s.many;
  full = λ call lt is. unbuffered_over lines more client taken call (s.full call lt is);
}

le_lt : (top n : ℕ) → n ≤ top → n < suc top
le_lt top n le = omega (arith, le)

some_within : (given : Given) (client n : ℕ) (call : Call) → call_of (script_of given) client (suc n) ≡ Some call → n < length (calls_of given client)
some_within given client n call is = slice_get_within (calls_of given client) n call (sym (names_own given client n) ∙ is)

updates_is : (given : Given) (client n : ℕ) (call : Call) → call_of (script_of given) client n ≡ Some call → is_update call ≡ true → is_update_in (call_of (script_of given) client n) ≡ true
updates_is given client n call is update = ap is_update_in is ∙ update

and_false : (x : Bool) → (x && false) ≡ false
and_false true = refl
and_false false = refl

-- one number more is within
one_within : (top n : ℕ) → (within 1 top n || eqb n (suc top)) ≡ within 1 (suc top) n
one_within top n = grind (arith, nat_tests)

one_less : (top n : ℕ) → eqb (suc top) n ≡ false → within 1 top n ≡ within 1 (suc top) n
one_less top n h = grind (arith, nat_tests)

-- the one that is taken and kept has no final line
taken_kept : (a : Bool) (top n : ℕ) → (within 1 top n && not a) ≡ (within 1 (suc top) n && not (a || (eqb (suc top) n || false)))
taken_kept true top n = and_false (within 1 top n) ∙ sym (and_false (within 1 (suc top) n))
taken_kept false top n = by_test (eqb (suc top) n) refl
  where
    by_test : (e : Bool) → eqb (suc top) n ≡ e → (within 1 top n && true) ≡ (within 1 (suc top) n && not (e || false))
    by_test true is = let same : suc top ≡ n = equal (suc top) n is in ap (λ (b : Bool). b && true) (within_no top n (omega (arith, same))) ∙ sym (and_false (within 1 (suc top) n))
    by_test false is = ap (λ (b : Bool). b && true) (one_less top n is)

-- the next call is taken, whether or not it has a line
taken_ended : (given : Given) (lines : List Outcome) (client : ℕ) (kept : List ℕ) (taken n : ℕ) → CallsStand given lines client kept taken taken → has_final lines client n ≡ (within 1 (suc taken) n && not (is_among (kept ++ suc taken ∷ []) n))
taken_ended given lines client kept taken n s = s.ended n ∙ taken_kept (is_among kept n) taken n ∙ ap (λ (b : Bool). within 1 (suc taken) n && not b) (sym (among_push kept (suc taken) n))

taken_below : (kept : List ℕ) (taken : ℕ) → AllByRecursion (λ k. k ≤ taken) kept → AllByRecursion (λ k. k ≤ suc taken) (kept ++ suc taken ∷ [])
taken_below kept taken below = all_push (λ k. k ≤ suc taken) kept (suc taken) (each_weaker (λ (k : ℕ). k ≤ taken) (λ (k : ℕ). k ≤ suc taken) (λ k le. weaker k le) kept below) (omega arith)
  where
    weaker : (k : ℕ) → k ≤ taken → k ≤ suc taken
    weaker k le = omega (arith, le)

rise_taken : (kept : List ℕ) (taken : ℕ) → RiseAbove 0 kept → AllByRecursion (λ k. k ≤ taken) kept → RiseAbove 0 (kept ++ suc taken ∷ [])
rise_taken kept taken rise below = rise_push 0 (suc taken) kept (omega arith) rise (each_weaker (λ (k : ℕ). k ≤ taken) (λ (k : ℕ). k < suc taken) (λ k le. le_lt taken k le) kept below)

-- a call that is next has no line
next_unended : (given : Given) (lines : List Outcome) (client : ℕ) (kept : List ℕ) (taken : ℕ) → CallsStand given lines client kept taken taken → has_final lines client (suc taken) ≡ false
next_unended given lines client kept taken s = s.ended (suc taken) ∙ ap (λ (b : Bool). b && not (is_among kept (suc taken))) (within_no taken (suc taken) (omega arith))

next_new : (given : Given) (lines : List Outcome) (client : ℕ) (kept : List ℕ) (taken lined : ℕ) → CallsStand given lines client kept taken lined → has_line lines client (suc lined) ≡ false
next_new given lines client kept taken lined s = s.named (suc lined) ∙ within_no lined (suc lined) (omega arith)

not_final : (a b : Bool) → (a || (b && false)) ≡ a
not_final true b = refl
not_final false true = refl
not_final false false = refl

pub buffers : Buffers
buffers given lines client kept taken call is buffer few s =
    let many : kept_now lines client ≡ length kept = ap length (kept_all given lines client kept taken s) in
    let left : has_final lines client (suc taken) ≡ false = next_unended given lines client kept taken s in
    record {
      is_open = record { is = is; next = next_of given lines client kept taken taken (suc taken) s (omega arith); unended = left };
      fits = record { buffer = buffer; new = next_new given lines client kept taken taken s; few = omega (arith, few, many) };
      stand = record {
        named = λ n. line_more lines client (suc taken) n Buffered ∙ ap (λ (b : Bool). b || eqb n (suc taken)) (s.named n) ∙ one_within taken n;
        ended = λ n. final_more lines client (suc taken) n Buffered ∙ not_final (has_final lines client n) (eqb n (suc taken)) ∙ taken_ended given lines client kept taken n s;
        kept_are = ap (λ (l : List ℕ). kept_numbers (lines ++ OfCall client (suc taken) Buffered ∷ []) client ++ l) (without_none (suc taken)) ∙ append-nil (kept_numbers (lines ++ OfCall client (suc taken) Buffered ∷ []) client)
            ∙ kept_more lines client (suc taken) Buffered refl (ap (λ (b : Bool). cond b (suc taken ∷ []) []) (equals client)) left ∙ ap (λ (l : List ℕ). l ++ suc taken ∷ []) (kept_all given lines client kept taken s);
        rise = rise_taken kept taken s.rise s.below;
        below = taken_below kept taken s.below;
        updates = all_push (λ n. is_update_in (call_of (script_of given) client n) ≡ true) kept (suc taken) s.updates (updates_is given client (suc taken) call is (buffers_update call buffer));
        count = omega (arith, some_within given client taken call is);
        few = omega arith;
        many = omega arith;
        full = λ other lt at. absurd (omega (arith, lt));
      };
    }

pub takes : Takes
takes given lines client kept taken call is update full s =
    let many : kept_now lines client ≡ length kept = ap length (kept_all given lines client kept taken s) in
    record {
      named = s.named;
      ended = λ n. taken_ended given lines client kept taken n s;
      kept_are = ap (λ (l : List ℕ). kept_numbers lines client ++ l) (without_one taken) ∙ ap (λ (l : List ℕ). l ++ suc taken ∷ []) (kept_all given lines client kept taken s);
      rise = rise_taken kept taken s.rise s.below;
      below = taken_below kept taken s.below;
      updates = all_push (λ n. is_update_in (call_of (script_of given) client n) ≡ true) kept (suc taken) s.updates (updates_is given client (suc taken) call is update);
      count = omega (arith, some_within given client taken call is);
      few = omega arith;
      many = omega arith;
      full = λ other lt at new buffer.
          let same : other ≡ call = same_call (sym at ∙ is) in
          let most : most_kept ≤ suc (length kept) = full (ap is_bufferable (sym same) ∙ buffer) in
          record {
            front = lines;
            rest = [];
            split = sym (append-nil lines);
            next = next_of given lines client kept taken taken (suc taken) s (omega arith);
            full = omega (arith, most, many);
          };
    }

-- the last that was taken is kept
pub last_among : (given : Given) (lines : List Outcome) (client : ℕ) (kept : List ℕ) (lined : ℕ) → CallsStand given lines client kept (suc lined) lined → is_among kept (suc lined) ≡ true
last_among given lines client kept lined s =
    ap (λ (l : List ℕ). is_among l (suc lined)) (sym s.kept_are ∙ ap (λ (l : List ℕ). kept_numbers lines client ++ l) (without_one lined)) ∙ among_push (kept_numbers lines client) (suc lined) (suc lined)
    ∙ or_right (is_among (kept_numbers lines client) (suc lined)) (eqb (suc lined) (suc lined) || false) (ap (λ (b : Bool). b || false) (equals (suc lined)))

-- what holds of each number holds of one of them
pub all_among : (P : ℕ → Type 0) (n : ℕ) (xs : List ℕ) → is_among xs n ≡ true → AllByRecursion P xs → P n
all_among P n [] h all = no h
all_among P n (k ∷ xs) h all = elim (or_cases (eqb k n) (is_among xs n) h) as (λ _. P n) [
  | inl e ↦ subst P (equal k n e) all.0
  | inr e ↦ all_among P n xs e all.1
]

pub keeps_for : KeepsFor
keeps_for given lines client kept lined call is s =
    let among : is_among kept (suc lined) ≡ true = last_among given lines client kept lined s in
    let left : has_final lines client (suc lined) ≡ false = s.ended (suc lined) ∙ ap (λ (b : Bool). within 1 (suc lined) (suc lined) && not b) among ∙ and_false (within 1 (suc lined) (suc lined)) in
    let update : is_update call ≡ true = ap is_update_in (sym is) ∙ all_among (λ k. is_update_in (call_of (script_of given) client k) ≡ true) (suc lined) kept among s.updates in
    record {
      is_open = record { is = is; next = next_of given lines client kept (suc lined) lined (suc lined) s (omega arith); unended = left };
      fits = record { update = update; new = next_new given lines client kept (suc lined) lined s; first = s.full call (omega arith) is };
      stand = λ cause. record {
        named = λ n. line_more lines client (suc lined) n (Kept cause) ∙ ap (λ (b : Bool). b || eqb n (suc lined)) (s.named n) ∙ one_within lined n;
        ended = λ n. final_more lines client (suc lined) n (Kept cause) ∙ not_final (has_final lines client n) (eqb n (suc lined)) ∙ s.ended n;
        kept_are = ap (λ (l : List ℕ). kept_numbers (lines ++ OfCall client (suc lined) (Kept cause) ∷ []) client ++ l) (without_none (suc lined)) ∙ append-nil (kept_numbers (lines ++ OfCall client (suc lined) (Kept cause) ∷ []) client)
            ∙ kept_more lines client (suc lined) (Kept cause) refl (ap (λ (b : Bool). cond b (suc lined ∷ []) []) (equals client)) left
            ∙ ap (λ (l : List ℕ). kept_numbers lines client ++ l) (sym (without_one lined)) ∙ s.kept_are;
        rise = s.rise;
        below = s.below;
        updates = s.updates;
        count = s.count;
        few = omega arith;
        many = omega arith;
        full = λ other lt at. absurd (omega (arith, lt));
      };
    }

-- A final line.

final_ends : (lines : List Outcome) (client n m : ℕ) (said : Said) → is_final said ≡ true → has_final (lines ++ OfCall client n said ∷ []) client m ≡ (has_final lines client m || eqb m n)
final_ends lines client n m said final = final_more lines client n m said ∙ ap (λ (b : Bool). has_final lines client m || (eqb m n && b)) final ∙ end (has_final lines client m) (eqb m n)
  where
    end : (a b : Bool) → (a || (b && true)) ≡ (a || b)
    end a true = refl
    end a false = refl

within_max : (lined n m : ℕ) → 1 ≤ n → n ≤ suc lined → (within 1 lined m || eqb m n) ≡ within 1 (max lined n) m
within_max lined n m low high = elim (at_or_below n (suc lined) high) as (λ _. (within 1 lined m || eqb m n) ≡ within 1 (max lined n) m) [
  | inl e ↦ ap (λ (k : ℕ). within 1 lined m || eqb m k) e ∙ one_within lined m ∙ ap (λ (k : ℕ). within 1 k m) (greater e)
  | inr lt ↦ already lined n m low (omega (arith, lt)) ∙ ap (λ (k : ℕ). within 1 k m) (same lt)
]
  where
    greater : n ≡ suc lined → suc lined ≡ max lined n
    greater e = omega (arith, e)

    same : n < suc lined → lined ≡ max lined n
    same lt = omega (arith, lt)

    already : (top k j : ℕ) → 1 ≤ k → k ≤ top → (within 1 top j || eqb j k) ≡ within 1 top j
    already top k j low le = grind (arith, nat_tests)

-- one that leaves has ended
left_ended : (taken n m : ℕ) (kept : List ℕ) → 1 ≤ n → n ≤ taken → is_among kept n ≡ false → ((within 1 taken m && not (eqb n m || is_among kept m)) || eqb m n) ≡ (within 1 taken m && not (is_among kept m))
left_ended taken n m kept low high none = by_test (eqb m n) refl
  where
    turned : eqb m n ≡ false → eqb n m ≡ false
    turned h = grind (arith, nat_tests)

    by_test : (b : Bool) → eqb m n ≡ b → ((within 1 taken m && not (eqb n m || is_among kept m)) || b) ≡ (within 1 taken m && not (is_among kept m))
    by_test true e =
        let same : n ≡ m = sym (equal m n e) in
        or_right (within 1 taken m && not (eqb n m || is_among kept m)) true refl
        ∙ sym (subst (λ (k : ℕ). (within 1 taken k && not (is_among kept k)) ≡ true) same (both (within 1 taken n) (not (is_among kept n)) (within_yes taken n low high) (ap not none)))
    by_test false e = same_or (within 1 taken m && not (eqb n m || is_among kept m)) false refl ∙ ap (λ (b : Bool). within 1 taken m && not (b || is_among kept m)) (turned e)

rise_front : (low k : ℕ) (xs : List ℕ) → RiseAbove low (xs ++ k ∷ []) → RiseAbove low xs × (low < k)
rise_front low k [] rise = (tt, rise.0)
rise_front low k (x ∷ xs) rise = let rest = rise_front x k xs rise.1 in ((rise.0, rest.0), omega (arith, rise.0, rest.1))

rise_lower : (low n : ℕ) (xs : List ℕ) → low ≤ n → RiseAbove n xs → RiseAbove low xs
rise_lower low n [] le rise = tt
rise_lower low n (x ∷ xs) le rise = (omega (arith, le, rise.0), rise.1)

-- those that are kept without the first one
kept_without : (numbers rest : List ℕ) (n taken lined : ℕ) → RiseAbove n rest → n ≤ taken → lined ≤ taken → taken ≤ suc lined → numbers ++ last_without taken lined ≡ n ∷ rest → filter (λ m. not (eqb m n)) numbers ++ last_without taken (max lined n) ≡ rest
kept_without numbers rest n taken lined rise le few many is = elim (at_or_below lined taken few) as (λ _. filter (λ m. not (eqb m n)) numbers ++ last_without taken (max lined n) ≡ rest) [
  | inl e ↦ all_told e
  | inr lt ↦ last_left numbers (omega (arith, lt, many)) is
]
  where
    all_told : lined ≡ taken → filter (λ m. not (eqb m n)) numbers ++ last_without taken (max lined n) ≡ rest
    all_told e =
        let top : max lined n ≡ taken = omega (arith, e, le) in
        let none : last_without taken lined ≡ [] = ap (last_without taken) e ∙ without_none taken in
        let same : numbers ≡ n ∷ rest = sym (append-nil numbers) ∙ ap (λ (l : List ℕ). numbers ++ l) (sym none) ∙ is in
        ap (λ (l : List ℕ). filter (λ m. not (eqb m n)) numbers ++ l) (ap (last_without taken) top ∙ without_none taken) ∙ append-nil (filter (λ m. not (eqb m n)) numbers) ∙ ap (filter (λ m. not (eqb m n))) same ∙ filter_first n rest rise

    last_left : (xs : List ℕ) → taken ≡ suc lined → xs ++ last_without taken lined ≡ n ∷ rest → filter (λ m. not (eqb m n)) xs ++ last_without taken (max lined n) ≡ rest
    last_left [] e eq =
        let one : taken ∷ [] ≡ n ∷ rest = sym (ap (λ (k : ℕ). last_without k lined) e ∙ without_one lined ∙ ap (λ (k : ℕ). k ∷ []) (sym e)) ∙ eq in
        let first : taken ≡ n = cc in
        let none : [] ≡ rest = cc in
        let top : max lined n ≡ taken = omega (arith, e, first) in
        ap (last_without taken) top ∙ without_none taken ∙ none
    last_left (x ∷ xs) e eq =
        let last : last_without taken lined ≡ taken ∷ [] = ap (λ (k : ℕ). last_without k lined) e ∙ without_one lined ∙ ap (λ (k : ℕ). k ∷ []) (sym e) in
        let whole : x ∷ (xs ++ taken ∷ []) ≡ n ∷ rest = ap (λ (l : List ℕ). x ∷ (xs ++ l)) (sym last) ∙ eq in
        let first : x ≡ n = cc in
        let others : xs ++ taken ∷ [] ≡ rest = cc in
        let front = rise_front n taken xs (subst (RiseAbove n) (sym others) rise) in
        let top : max lined n ≡ lined = omega (arith, e, front.1) in
        ap (λ (k : ℕ). filter (λ m. not (eqb m n)) (k ∷ xs) ++ last_without taken (max lined n)) first
        ∙ ap (λ (l : List ℕ). l ++ last_without taken (max lined n)) (filter_first n xs front.0)
        ∙ ap (λ (l : List ℕ). xs ++ l) (ap (last_without taken) top ∙ last) ∙ others

pub ends_kept : EndsKept
ends_kept given lines client n kept taken lined call is s =
    let low : 1 ≤ n = omega (arith, s.rise.0) in
    let high : n ≤ suc lined = omega (arith, s.below.0, s.many) in
    let among : is_among (n ∷ kept) n ≡ true = ap (λ (b : Bool). b || is_among kept n) (equals n) in
    let others : is_among kept n ≡ false = none_among_above n n kept (omega arith) s.rise.1 in
    record {
      is_open = record {
        is = is;
        next = next_of given lines client (n ∷ kept) taken lined n s high;
        unended = s.ended n ∙ ap (λ (b : Bool). within 1 taken n && not b) among ∙ and_false (within 1 taken n);
      };
      is_update = ap is_update_in (sym is) ∙ s.updates.0;
      earlier = ended_below (script_of given) lines client n (λ m from lt. s.ended m ∙ both (within 1 taken m) (not (is_among (n ∷ kept) m)) (within_yes taken m from (omega (arith, lt, s.below.0))) (ap not (none_among_above m m (n ∷ kept) (omega arith) (lt, s.rise.1))));
      first = λ new buffer. elim (at_or_below n (suc lined) high) as (λ _. WasFull lines client n) [
        | inl e ↦
            let last : n ≡ taken = omega (arith, e, s.below.0, s.many) in
            subst (WasFull lines client) (sym last) (s.full call (omega (arith, e, last)) (ap (call_of (script_of given) client) (sym last) ∙ is) (ap (has_line lines client) (sym last) ∙ new) buffer)
        | inr lt ↦ no (sym new ∙ s.named n ∙ within_yes lined n low (omega (arith, lt)))
      ];
      stand = λ said final. record {
        named = λ m. line_more lines client n m said ∙ ap (λ (b : Bool). b || eqb m n) (s.named m) ∙ within_max lined n m low high;
        ended = λ m. final_ends lines client n m said final ∙ ap (λ (b : Bool). b || eqb m n) (s.ended m) ∙ left_ended taken n m kept low s.below.0 others;
        kept_are = ap (λ (l : List ℕ). l ++ last_without taken (max lined n)) (kept_ended lines client n said final) ∙ kept_without (kept_numbers lines client) kept n taken lined s.rise.1 s.below.0 s.few s.many s.kept_are;
        rise = rise_lower 0 n kept (omega arith) s.rise.1;
        below = s.below.1;
        updates = s.updates.1;
        count = s.count;
        few = omega (arith, s.few, s.below.0);
        many = omega (arith, s.many);
        full = λ other lt at. unbuffered_over lines (OfCall client n said ∷ []) client taken other (s.full other (omega (arith, lt)) at);
      };
    }

-- one that is answered out of the queue
next_ended : (taken m : ℕ) (kept : List ℕ) → AllByRecursion (λ k. k ≤ taken) kept → ((within 1 taken m && not (is_among kept m)) || eqb m (suc taken)) ≡ (within 1 (suc taken) m && not (is_among kept m))
next_ended taken m kept below = by_test (eqb m (suc taken)) refl
  where
    one_less : eqb m (suc taken) ≡ false → within 1 taken m ≡ within 1 (suc taken) m
    one_less h = grind (arith, nat_tests)

    by_test : (b : Bool) → eqb m (suc taken) ≡ b → ((within 1 taken m && not (is_among kept m)) || b) ≡ (within 1 (suc taken) m && not (is_among kept m))
    by_test true e =
        let same : suc taken ≡ m = sym (equal m (suc taken) e) in
        or_right (within 1 taken m && not (is_among kept m)) true refl
        ∙ sym (subst (λ (k : ℕ). (within 1 (suc taken) k && not (is_among kept k)) ≡ true) same (both (within 1 (suc taken) (suc taken)) (not (is_among kept (suc taken))) (within_yes (suc taken) (suc taken) (omega arith) (omega arith)) (ap not (none_among_below taken (suc taken) kept (omega arith) below))))
    by_test false e = same_or (within 1 taken m && not (is_among kept m)) false refl ∙ ap (λ (b : Bool). b && not (is_among kept m)) (one_less e)

pub ends_queued : EndsQueued
ends_queued given lines client kept taken call is s = record {
  is_open = record { is = is; next = next_of given lines client kept taken taken (suc taken) s (omega arith); unended = next_unended given lines client kept taken s };
  earlier = λ none. ended_below (script_of given) lines client (suc taken) (λ m low lt. s.ended m ∙ both (within 1 taken m) (not (is_among kept m)) (within_yes taken m low (omega (arith, lt))) (ap (λ (l : List ℕ). not (is_among l m)) none));
  stand = λ said final. record {
    named = λ m. line_more lines client (suc taken) m said ∙ ap (λ (b : Bool). b || eqb m (suc taken)) (s.named m) ∙ one_within taken m;
    ended = λ m. final_ends lines client (suc taken) m said final ∙ ap (λ (b : Bool). b || eqb m (suc taken)) (s.ended m) ∙ next_ended taken m kept s.below;
    kept_are = ap (λ (l : List ℕ). kept_numbers (lines ++ OfCall client (suc taken) said ∷ []) client ++ l) (without_none (suc taken)) ∙ append-nil (kept_numbers (lines ++ OfCall client (suc taken) said ∷ []) client)
        ∙ kept_ended lines client (suc taken) said final ∙ ap (filter (λ m. not (eqb m (suc taken)))) (kept_all given lines client kept taken s)
        ∙ filter_below (suc taken) kept (each_weaker (λ (k : ℕ). k ≤ taken) (λ (k : ℕ). k < suc taken) (λ k le. le_lt taken k le) kept s.below);
    rise = s.rise;
    below = each_weaker (λ (k : ℕ). k ≤ taken) (λ (k : ℕ). k ≤ suc taken) (λ k le. weaker k le) kept s.below;
    updates = s.updates;
    count = omega (arith, some_within given client taken call is);
    few = omega arith;
    many = omega arith;
    full = λ other lt at. absurd (omega (arith, lt));
  };
}
  where
    weaker : (k : ℕ) → k ≤ taken → k ≤ suc taken
    weaker k le = omega (arith, le)

-- Where there is nothing to do.

pub idle_has_lines : IdleHasLines
idle_has_lines given lines client kept taken all s = λ n low high. s.named n ∙ within_yes taken n low (omega (arith, high, all, counts_own given client))

pub none_kept_has_last : NoneKeptHasLast
none_kept_has_last given lines client taken lined all s = λ n low high. s.ended n ∙ ap (λ (b : Bool). b && true) (within_yes taken n low (omega (arith, high, all, counts_own given client)))
