-- A line of a client is told, and several.
use Rattle.std.proofs.Common.{◌≡◌, ◌≢◌, ℕ, ◌+◌, ◌≤◌, Bool, true, false, cond, eqb, ◌&&◌, ◌||◌, List, [], ◌∷◌, ◌++◌, length, take, Option, Some, None, refl, sym, ap, subst, ◌∙◌, append_assoc, arith, inl, inr}
use Rattle.std.specs.Prelude.{◌⊎◌, map}
use Rattle.std.specs.List.{AllByRecursion}
use Rattle.std.proofs.lemmas.Bool.{cases_eq, ne_eqb}
use Rattle.std.proofs.lemmas.List.{append-nil, length-append, map-append, take-append-le}
use Rattle.std.proofs.lemmas.List.Folds.{list_any-append}
use Rattle.zb_types.specs.declared.calls.Call.{Call}
use Rattle.zb_types.specs.declared.calls.Reply.{Reply}
use Rattle.zb_types.specs.declared.history.Did.{Did}
use Rattle.zb_types.specs.declared.history.Saw.{Saw}
use Rattle.zb_types.specs.declared.lines.Said.{Said}
use Rattle.zb_types.specs.declared.lines.Said.TheVariants.{Reply as Replied, Buffered, Kept, Failed, Dropped, Unfinished}
use Rattle.zb_types.specs.declared.lines.Told.TheVariants.{Crash, Arm, Up, Lose, Checkpoint}
use Rattle.zb_types.specs.declared.lines.Outcome.{Outcome}
use Rattle.zb_types.specs.declared.lines.Outcome.TheVariants.{Call as OfCall, Clean as OfClean, Rebuild as OfRebuild, Event as OfEvent}
use Rattle.zb_types.specs.Apply.{is_update, reply_to}
use Rattle.zb_types.specs.History.{tree_after, IsSeen}
use Rattle.zb_claims.specs.Points.{call_of, is_final, ends, has_final, is_of_client, did_if, did_of, dids}
use Rattle.zb_claims.specs.Fits.{FitsBy}
use Rattle.zb_laws.specs.Histories.{reads, read_if, read_of, answer_of}
use Rattle.zb_laws.proofs.Each.{each_append, each_weaker}
use Rattle.zb_laws.proofs.Tests.{equal, equals}
use Rattle.zb_laws.proofs.Told.{dids-append}
use Rattle.zb_given.specs.Given.{Given, script_of, clock_of_given}
use Rattle.zb_given.specs.Calls.{LookedUp}
use Rattle.zb_given.specs.Telling.{seen_by, AnswersRead, IsOfLookup, AreOfLookups, IsOfNow}
use Rattle.zb_given.proofs.MoreGiving.{front_from}
use Rattle.std.proofs.lemmas.Grind.{flat_map-append}
use Rattle.zb_ledger.specs.Seen.{SeenLedger, Calls, looked_of, call_at, without_call, saw_if, told, looked_now, told_all}
use Rattle.zb_ledger.specs.Keeps.{waits, IsCounted, LooksBack, KeepsHistory, without_read, AreOthersReads, LooksBehind, KeepsLine, KeepsLines}
use Rattle.zb_ledger.proofs.Small.{last_fits, seen_front, front_dids}
use Rattle.zb_ledger.proofs.Keys.{call_at-without}
use Rattle.zb_ledger.proofs.Looking.{keeps_look, keeps_read}

-- ---- the calls that wait

-- none behind a final line of the call
ends_waiting : (given : Given) (lines : List Outcome) (waiting : Calls) (client n : ℕ) (said : Said) → is_final said ≡ true → ((c m : ℕ) → call_at waiting c m ≡ waits given lines c m)
    → (c m : ℕ) → call_at (without_call waiting client n) c m ≡ waits given (lines ++ OfCall client n said ∷ []) c m
ends_waiting given lines waiting client n said final old c m =
    call_at-without waiting client n c m ∙ ap (cond (eqb client c && eqb n m) None) (old c m) ∙ by_tests (eqb client c) (eqb c client) (eqb n m) (eqb m n) (has_final lines c m) (flips client c) (flips n m)
    ∙ ap (λ (b : Bool). cond (has_final lines c m || ((eqb c client && eqb m n && b) || false)) None (call_of (script_of given) c m)) (sym final)
    ∙ ap (λ (b : Bool). cond b None (call_of (script_of given) c m)) (sym (list_any-append (ends c m) lines (OfCall client n said ∷ [])))
  where
    flips : (a b : ℕ) → eqb a b ≡ eqb b a
    flips a b = grind (arith)

    by_tests : (a a' b b' f : Bool) → a ≡ a' → b ≡ b' → cond (a && b) None (cond f None (call_of (script_of given) c m)) ≡ cond (f || ((a' && b' && true) || false)) None (call_of (script_of given) c m)
    by_tests true a' true b' true p q = refl
    by_tests true a' true b' false p q = rw (sym p, sym q) refl
    by_tests true a' false b' true p q = refl
    by_tests true a' false b' false p q = rw (sym p, sym q) refl
    by_tests false a' b b' true p q = refl
    by_tests false a' b b' false p q = rw (sym p) refl

-- all behind another line
goes_on : (given : Given) (lines : List Outcome) (client n : ℕ) (said : Said) → is_final said ≡ false → (c m : ℕ) → waits given lines c m ≡ waits given (lines ++ OfCall client n said ∷ []) c m
goes_on given lines client n said open_yet c m =
    by_tests (eqb c client) (eqb m n) (has_final lines c m) ∙ ap (λ (b : Bool). cond (has_final lines c m || ((eqb c client && eqb m n && b) || false)) None (call_of (script_of given) c m)) (sym open_yet)
    ∙ ap (λ (b : Bool). cond b None (call_of (script_of given) c m)) (sym (list_any-append (ends c m) lines (OfCall client n said ∷ [])))
  where
    by_tests : (a b f : Bool) → cond f None (call_of (script_of given) c m) ≡ cond (f || ((a && b && false) || false)) None (call_of (script_of given) c m)
    by_tests a b true = refl
    by_tests true true false = refl
    by_tests true false false = refl
    by_tests false b false = refl

-- ---- the history

-- what was seen is seen with more updates
seen_on : (updates more : List Did) (saw : Saw) → IsSeen updates saw → IsSeen (updates ++ more) saw
seen_on updates more saw s = record {
  early = omega (arith, s.early, length-append updates more);
  reply = s.reply ∙ ap (λ (l : List Did). reply_to (tree_after l) saw.call) (sym (take-append-le saw.seen updates more s.early));
}

-- what a line leaves keeps the history, if its calls, updates and reads are those of the line
record IsAdded (given : Given) (lines : List Outcome) (ledger : SeenLedger) (line : Outcome) (waiting : Calls) (updates : List Did) (saws : List Saw) : Type 0 where
  calls : (c m : ℕ) → call_at waiting c m ≡ waits given (lines ++ line ∷ []) c m
  did : updates ≡ did_of (script_of given) line
  answered : map answer_of saws ≡ read_of (script_of given) line
  seen : AllByRecursion (IsSeen (ledger.updates ++ updates)) saws

added : (given : Given) (lines : List Outcome) (at_work : ℕ → Option LookedUp) (ledger : SeenLedger) (i : ℕ) (line : Outcome) (waiting : Calls) (updates : List Did) (saws : List Saw) (room : ℕ) → IsAdded given lines ledger line waiting updates saws → KeepsHistory given lines at_work ledger
    → KeepsHistory given (lines ++ line ∷ []) (without_read at_work i) (record ledger { waiting = waiting; updates = ledger.updates ++ updates; answered = ledger.answered ++ saws; room = room })
added given lines at_work ledger i line waiting updates saws room a k = record {
  counts = k.counts;
  waiting = a.calls;
  updates = ap (λ (l : List Did). l ++ updates) k.updates ∙ ap (λ (l : List Did). dids (script_of given) lines ++ l) (a.did ∙ sym (append-nil (did_of (script_of given) line))) ∙ sym (dids-append (script_of given) lines (line ∷ []));
  answers = map-append answer_of ledger.answered saws ∙ ap (λ (l : List Did). l ++ map answer_of saws) k.answers ∙ ap (λ (l : List Did). reads (script_of given) lines ++ l) (a.answered ∙ sym (append-nil (read_of (script_of given) line)))
      ∙ sym (flat_map-append (read_of (script_of given)) lines (line ∷ []));
  seen = each_append (IsSeen (ledger.updates ++ updates)) ledger.answered saws (each_weaker (IsSeen ledger.updates) (IsSeen (ledger.updates ++ updates)) (seen_on ledger.updates updates) ledger.answered k.seen) a.seen;
  looked = λ j read e. looked_on j read (k.looked j read (of_other j read e));
  count_places = k.count_places;
  look_places = k.look_places;
}
  where
    looked_on : (j : ℕ) (read : LookedUp) → LooksBack given lines ledger (j + 1) read → LooksBack given (lines ++ line ∷ []) (record ledger { waiting = waiting; updates = ledger.updates ++ updates; answered = ledger.answered ++ saws; room = room }) (j + 1) read
    looked_on j read l = record {
      stood = omega (arith, l.stood, length-append lines (line ∷ []));
      counted = l.counted ∙ ap (λ (front : List Outcome). length (dids (script_of given) front)) (sym (take-append-le read.at lines (line ∷ []) l.stood));
    }

    of_other : (j : ℕ) (read : LookedUp) → without_read at_work i j ≡ Some read → at_work j ≡ Some read
    of_other j read e = elim (eqb i j) as (λ b. cond b None (at_work j) ≡ Some read → at_work j ≡ Some read) [ true ↦ λ h. absurd cc | false ↦ λ h. h ] e

-- ---- what a reply adds

-- a call that waits is the one that was given
found_there : (given : Given) (lines : List Outcome) (at_work : ℕ → Option LookedUp) (ledger : SeenLedger) (client n : ℕ) → has_final lines client n ≡ false → KeepsHistory given lines at_work ledger → call_at ledger.waiting client n ≡ call_of (script_of given) client n
found_there given lines at_work ledger client n unended k = k.waiting client n ∙ ap (λ (b : Bool). cond b None (call_of (script_of given) client n)) unended

saw_answers : (client n seen : ℕ) (reply : Reply) (found : Option Call) → map answer_of (saw_if client n seen reply found) ≡ read_if client n reply found
saw_answers client n seen reply None = refl
saw_answers client n seen reply (Some call) = elim (is_update call) as (λ b. map answer_of (cond b [] (record { client = client; number = n; seen = seen; call = call; reply = reply } ∷ [])) ≡ cond b [] (record { client = client; number = n; call = call; reply = reply } ∷ [])) [ true ↦ refl | false ↦ refl ]

-- a read saw the tree at its lookup
module _ (given : Given) (lines : List Outcome) (at_work : ℕ → Option LookedUp) (ledger : SeenLedger) (client n : ℕ) (read : Option LookedUp) (reply : Reply) where
  saw_seen : (call : Call) (more : List Did) → AnswersRead given lines read n call reply → IsCounted given lines ledger client read → KeepsHistory given lines at_work ledger
      → IsSeen (ledger.updates ++ more) (record { client = client; number = n; seen = looked_of ledger client; call = call; reply = reply })
  saw_seen call more answers counted k =
      let f = front_dids (script_of given) (seen_by read lines) lines (seen_front read lines) in
      let early : looked_of ledger client ≤ length ledger.updates = omega (arith, f.few, counted, ap length k.updates) in
      seen_on ledger.updates more (record { client = client; number = n; seen = looked_of ledger client; call = call; reply = reply }) (record {
        early = early;
        reply = answers.same ∙ ap (λ (l : List Did). reply_to (tree_after l) call) (sym (ap (λ (seen : ℕ). take seen ledger.updates) counted ∙ ap (take (length (dids (script_of given) (seen_by read lines)))) k.updates ∙ f.taken));
      })

  saws_seen : (found : Option Call) (more : List Did) → call_of (script_of given) client n ≡ found → ((call : Call) → call_of (script_of given) client n ≡ Some call → is_update call ≡ false → AnswersRead given lines read n call reply)
      → IsCounted given lines ledger client read → KeepsHistory given lines at_work ledger → AllByRecursion (IsSeen (ledger.updates ++ more)) (saw_if client n (looked_of ledger client) reply found)
  saws_seen None more is answers counted k = tt
  saws_seen (Some call) more is answers counted k =
      elim (is_update call) as (λ b. is_update call ≡ b → AllByRecursion (IsSeen (ledger.updates ++ more)) (cond b [] (record { client = client; number = n; seen = looked_of ledger client; call = call; reply = reply } ∷ []))) [
        | true ↦ λ e. tt
        | false ↦ λ e. (saw_seen call more (answers call is e) counted k, tt)
      ] refl

-- ---- a line of a call

module _ (given : Given) (lines : List Outcome) (at_work : ℕ → Option LookedUp) (ledger : SeenLedger) (i : ℕ) (read : Option LookedUp) where
  -- nothing is added to the history
  no_more : (line : Outcome) (waiting : Calls) (room : ℕ) → did_of (script_of given) line ≡ [] → read_of (script_of given) line ≡ [] → ((c m : ℕ) → call_at waiting c m ≡ waits given (lines ++ line ∷ []) c m)
      → KeepsHistory given lines at_work ledger → KeepsHistory given (lines ++ line ∷ []) (without_read at_work i) (record ledger { waiting = waiting; room = room })
  no_more line waiting room no_did no_read calls k =
      subst (λ (updates : List Did). KeepsHistory given (lines ++ line ∷ []) (without_read at_work i) (record ledger { waiting = waiting; updates = updates; room = room })) (append-nil ledger.updates)
      (subst (λ (answered : List Saw). KeepsHistory given (lines ++ line ∷ []) (without_read at_work i) (record ledger { waiting = waiting; updates = ledger.updates ++ []; answered = answered; room = room })) (append-nil ledger.answered)
      (added given lines at_work ledger i line waiting [] [] room (record { calls = calls; did = sym no_did; answered = sym no_read; seen = tt }) k))

  by_said : (client n : ℕ) (said : Said) → IsOfLookup given lines read (OfCall client n said) → has_final lines client n ≡ false → IsCounted given lines ledger client read → KeepsHistory given lines at_work ledger
      → KeepsHistory given (lines ++ OfCall client n said ∷ []) (without_read at_work i) (told ledger (OfCall client n said))
  by_said client n (Replied reply) answers unended counted k =
      let there : call_at ledger.waiting client n ≡ call_of (script_of given) client n = found_there given lines at_work ledger client n unended k in
      added given lines at_work ledger i (OfCall client n (Replied reply)) (without_call ledger.waiting client n) (did_if client n reply (call_at ledger.waiting client n)) (saw_if client n (looked_of ledger client) reply (call_at ledger.waiting client n)) (told ledger (OfCall client n (Replied reply))).room
      (record {
        calls = ends_waiting given lines ledger.waiting client n (Replied reply) refl k.waiting;
        did = ap (did_if client n reply) there;
        answered = saw_answers client n (looked_of ledger client) reply (call_at ledger.waiting client n) ∙ ap (read_if client n reply) there;
        seen = saws_seen given lines at_work ledger client n read reply (call_at ledger.waiting client n) (did_if client n reply (call_at ledger.waiting client n)) (sym there) answers counted k;
      }) k
  by_said client n Buffered answers unended counted k = no_more (OfCall client n Buffered) ledger.waiting (told ledger (OfCall client n Buffered)).room refl refl (λ c m. k.waiting c m ∙ goes_on given lines client n Buffered refl c m) k
  by_said client n (Kept cause) answers unended counted k = no_more (OfCall client n (Kept cause)) ledger.waiting (told ledger (OfCall client n (Kept cause))).room refl refl (λ c m. k.waiting c m ∙ goes_on given lines client n (Kept cause) refl c m) k
  by_said client n (Failed cause) answers unended counted k =
      no_more (OfCall client n (Failed cause)) (without_call ledger.waiting client n) (told ledger (OfCall client n (Failed cause))).room refl refl (ends_waiting given lines ledger.waiting client n (Failed cause) refl k.waiting) k
  by_said client n Dropped answers unended counted k = no_more (OfCall client n Dropped) (without_call ledger.waiting client n) (told ledger (OfCall client n Dropped)).room refl refl (ends_waiting given lines ledger.waiting client n Dropped refl k.waiting) k
  by_said client n (Unfinished cause) answers unended counted k =
      no_more (OfCall client n (Unfinished cause)) (without_call ledger.waiting client n) (told ledger (OfCall client n (Unfinished cause))).room refl refl (ends_waiting given lines ledger.waiting client n (Unfinished cause) refl k.waiting) k

  -- only a line of a call is a client's
  by_line : (line : Outcome) → is_of_client (i + 1) line ≡ true → IsOfLookup given lines read line → FitsBy (clock_of_given given) (script_of given) (lines ++ line ∷ []) → IsCounted given lines ledger (i + 1) read → KeepsHistory given lines at_work ledger
      → KeepsHistory given (lines ++ line ∷ []) (without_read at_work i) (told ledger line)
  by_line (OfCall client n said) own answers fits counted k =
      by_said client n said answers (last_fits (clock_of_given given) (script_of given) lines (OfCall client n said) fits).unended (subst (λ (c : ℕ). IsCounted given lines ledger c read) (equal (i + 1) client own) counted) k
  by_line (OfClean pass) own answers fits counted k = absurd cc
  by_line (OfRebuild server end) own answers fits counted k = absurd cc
  by_line (OfEvent (Crash node) answer) own answers fits counted k = absurd cc
  by_line (OfEvent (Arm node) answer) own answers fits counted k = absurd cc
  by_line (OfEvent (Up node) answer) own answers fits counted k = absurd cc
  by_line (OfEvent (Lose server) answer) own answers fits counted k = absurd cc
  by_line (OfEvent Checkpoint answer) own answers fits counted k = absurd cc

pub keeps_line : KeepsLine
keeps_line given lines at_work ledger i read line own answers g counted k = by_line given lines at_work ledger i read line own answers g.fits counted k

-- ---- several lines

same_clients : (ledger : SeenLedger) (line : Outcome) → (told ledger line).clients ≡ ledger.clients
same_clients ledger (OfCall client n (Replied reply)) = refl
same_clients ledger (OfCall client n Buffered) = refl
same_clients ledger (OfCall client n (Kept cause)) = refl
same_clients ledger (OfCall client n (Failed cause)) = refl
same_clients ledger (OfCall client n Dropped) = refl
same_clients ledger (OfCall client n (Unfinished cause)) = refl
same_clients ledger (OfClean pass) = refl
same_clients ledger (OfRebuild server end) = refl
same_clients ledger (OfEvent event answer) = refl

none_now : (at_work : ℕ → Option LookedUp) (i : ℕ) → without_read at_work i i ≡ None
none_now at_work i = ap (λ (b : Bool). cond b None (at_work i)) (equals i)

other_now : (at_work : ℕ → Option LookedUp) (i j : ℕ) → j ≢ i → without_read at_work i j ≡ at_work j
other_now at_work i j ne = ap (λ (b : Bool). cond b None (at_work j)) (ne_eqb i j (λ e. ne (sym e)))

-- with no line told all is as it was, but for a lookup of now
none_told : (given : Given) (lines : List Outcome) (old new : ℕ → Option LookedUp) (ledger : SeenLedger) (i : ℕ) → AreOthersReads i old new → (new i ≡ old i) ⊎ ((old i ≡ None) × IsOfNow (new i) lines) → IsCounted given lines ledger (i + 1) (old i) → KeepsHistory given lines old ledger → KeepsHistory given lines new ledger
none_told given lines old new ledger i others (inr now) counted k = keeps_read given lines old new ledger i others now.1 (subst (λ (r : Option LookedUp). IsCounted given lines ledger (i + 1) r) now.0 counted) k
none_told given lines old new ledger i others (inl same) counted k = record {
  counts = k.counts;
  waiting = k.waiting;
  updates = k.updates;
  answers = k.answers;
  seen = k.seen;
  looked = λ j read e. elim (cases_eq j i) as (λ _. LooksBack given lines ledger (j + 1) read) [
    | inl here ↦ k.looked j read (ap old here ∙ sym same ∙ ap new (sym here) ∙ e)
    | inr ne ↦ k.looked j read (sym (others j ne) ∙ e)
  ];
  count_places = k.count_places;
  look_places = k.look_places;
}

-- where the last of several is told
looks_on : (lines : List Outcome) (line : Outcome) (more : List Outcome) (old new : Option LookedUp) → old ≡ None → IsOfNow new (lines ++ line ∷ more) → LooksBehind (lines ++ line ∷ []) more old new
looks_on lines line [] old new none now = inr (none, now)
looks_on lines line (next ∷ more) old new none now = subst (IsOfNow new) (sym (append_assoc lines (line ∷ []) (next ∷ more))) now

all_told : (given : Given) (lines more : List Outcome) (old new : ℕ → Option LookedUp) (ledger : SeenLedger) (i : ℕ) → i + 1 ≤ ledger.clients → AllByRecursion (λ line. is_of_client (i + 1) line ≡ true) more → AreOfLookups given lines (old i) more
    → AreOthersReads i old new → LooksBehind lines more (old i) (new i) → FitsBy (clock_of_given given) (script_of given) (lines ++ more) → IsCounted given lines ledger (i + 1) (old i) → KeepsHistory given lines old ledger → KeepsHistory given (lines ++ more) new (told_all ledger (i + 1) more)
all_told given lines [] old new ledger i few own answers others looks fits counted k =
    subst (λ (l : List Outcome). KeepsHistory given l new ledger) (sym (append-nil lines)) (none_told given lines old new ledger i others looks counted k)
all_told given lines (line ∷ more) old new ledger i few own answers others looks fits counted k =
    let whole : lines ++ line ∷ more ≡ (lines ++ line ∷ []) ++ more = sym (append_assoc lines (line ∷ []) more) in
    let fits_on : FitsBy (clock_of_given given) (script_of given) ((lines ++ line ∷ []) ++ more) = subst (FitsBy (clock_of_given given) (script_of given)) whole fits in
    let fits_one : FitsBy (clock_of_given given) (script_of given) (lines ++ line ∷ []) = front_from (clock_of_given given) (script_of given) [] (lines ++ line ∷ []) more fits_on in
    let few_on : i + 1 ≤ (told ledger line).clients = omega (arith, few, same_clients ledger line) in
    let one = by_line given lines old ledger i (old i) line own.0 answers.0 fits_one counted k in
    let none : without_read old i i ≡ None = none_now old i in
    let looked = keeps_look given (lines ++ line ∷ []) (without_read old i) (without_read old i) (told ledger line) i few_on (λ j ne. refl) (subst (λ (r : Option LookedUp). IsOfNow r (lines ++ line ∷ [])) (sym none) tt) one in
    subst (λ (l : List Outcome). KeepsHistory given l new (told_all (looked_now (told ledger line) (i + 1)) (i + 1) more)) (sym whole)
    (all_told given (lines ++ line ∷ []) more (without_read old i) new (looked_now (told ledger line) (i + 1)) i few_on own.1
    (subst (λ (r : Option LookedUp). AreOfLookups given (lines ++ line ∷ []) r more) (sym none) answers.1)
    (λ j ne. others j ne ∙ sym (other_now old i j ne))
    (looks_on lines line more (without_read old i i) (new i) none looks)
    fits_on
    (subst (λ (r : Option LookedUp). IsCounted given (lines ++ line ∷ []) (looked_now (told ledger line) (i + 1)) (i + 1) r) (sym none) looked.1)
    looked.0)

pub keeps_lines : KeepsLines
keeps_lines given lines more old new ledger i few own answers others looks g counted k = all_told given lines more old new ledger i few own answers others looks g.fits counted k
