-- A new ledger, and what is given.
use Rattle.std.proofs.Common.{◌≡◌, ℕ, zero, suc, ◌≤◌, Bool, true, false, cond, eqb, ◌&&◌, List, [], ◌∷◌, ◌++◌, length, take, drop, Option, Some, None, refl, sym, ap, subst, ◌∙◌, arith, inl, inr, length-set, get_or-set_same, get_or-set_other}
use Rattle.std.specs.Prelude.{◌⊎◌, slice_get, slice_index, slice_set}
use Rattle.std.specs.List.{AllByRecursion}
use Rattle.std.specs.BTreeMap.{insert_entry}
use Rattle.std.proofs.lemmas.Bool.{cases_eq, eq-eqb, ne_eqb}
use Rattle.std.proofs.lemmas.Grind.{flat_map-append}
use Rattle.std.proofs.lemmas.List.{append-nil, length-append, length-replicate, take-append-drop}
use Rattle.zb_types.specs.declared.calls.Call.{Call}
use Rattle.zb_types.specs.declared.lines.Line.{Line}
use Rattle.zb_types.specs.declared.lines.Line.TheVariants.{Call as CallLine, Job as JobLine, Steps, StepTo, Event as EventLine}
use Rattle.zb_types.specs.declared.lines.Outcome.{Outcome}
use Rattle.zb_claims.specs.Points.{call_of, has_final, dids}
use Rattle.zb_given.specs.Given.{Item, Given, with_item, script_of, call_by, calls_of, clock_of_given, FitGiven}
use Rattle.zb_given.specs.Calls.{LookedUp}
use Rattle.zb_given.specs.Ends.{is_call}
use Rattle.zb_given.proofs.Small.{all_front}
use Rattle.zb_given.proofs.Asking.{call_of_zero}
use Rattle.zb_given.proofs.Carry.{IsAsked, all_asked, dids_agree, reads_agree}
use Rattle.zb_given.proofs.MoreGiving.{more_extend}
use Rattle.zb_given.proofs.Staying.{names_own, next_is_fresh, none_is_ahead}
use Rattle.zb_ledger.specs.Seen.{SeenLedger, Calls, count_of, key_cmp, call_at, called}
use Rattle.zb_ledger.specs.Keeps.{waits, KeepsHistory, KeepsFirst, KeepsCall, KeepsOther, KeepsFinish}
use Rattle.zb_ledger.proofs.Small.{get_other, all_zero}
use Rattle.zb_ledger.proofs.Keys.{call_at-insert}

pub keeps_first : KeepsFirst
keeps_first clients = record {
  counts = λ client. all_zero (suc clients) client;
  waiting = λ client n. refl;
  updates = refl;
  answers = refl;
  seen = tt;
  looked = λ i read e. absurd cc;
  count_places = length-replicate (suc clients) 0;
  look_places = length-replicate (suc clients) 0;
}

pub keeps_finish : KeepsFinish
keeps_finish given lines at_work ledger at k = record {
  counts = k.counts;
  waiting = k.waiting;
  updates = k.updates;
  answers = k.answers;
  seen = k.seen;
  looked = λ i read e. record { stood = (k.looked i read e).stood; counted = (k.looked i read e).counted };
  count_places = k.count_places;
  look_places = k.look_places;
}

-- More is given: the history is the same, if the calls are those that were given.
module _ (given : Given) (lines : List Outcome) (line : Line) (at : ℕ) where
  abbrev more : Given
  more = with_item given line at

  asked_are : FitGiven given lines → AllByRecursion (IsAsked (script_of given)) lines
  asked_are g = all_asked (clock_of_given given) (script_of given) [] lines g.fits

  dids_stay : (front rest : List Outcome) → front ++ rest ≡ lines → FitGiven given lines → dids (script_of given) front ≡ dids (script_of more) front
  dids_stay front rest split g =
      sym (dids_agree (script_of given) (script_of more) (more_extend given line at) front (all_front (IsAsked (script_of given)) front rest (subst (AllByRecursion (IsAsked (script_of given))) (sym split) (asked_are g))))

  pub more_kept : (at_work : ℕ → Option LookedUp) (ledger : SeenLedger) (numbers : List ℕ) (waiting : Calls) → FitGiven given lines → KeepsHistory given lines at_work ledger → length numbers ≡ suc ledger.clients
      → ((client : ℕ) → slice_index numbers client ≡ length (calls_of more client)) → ((client n : ℕ) → call_at waiting client n ≡ waits more lines client n) → KeepsHistory more lines at_work (record ledger { counts = numbers; waiting = waiting })
  more_kept at_work ledger numbers waiting g k long counts calls = record {
    counts = counts;
    waiting = calls;
    updates = k.updates ∙ dids_stay lines [] (append-nil lines) g;
    answers = k.answers ∙ sym (reads_agree (script_of given) (script_of more) (more_extend given line at) lines (asked_are g));
    seen = k.seen;
    looked = λ i read e. record {
      stood = (k.looked i read e).stood;
      counted = (k.looked i read e).counted ∙ ap length (dids_stay (take read.at lines) (drop read.at lines) (take-append-drop read.at lines) g);
    };
    count_places = long;
    look_places = k.look_places;
  }

  calls_more : (client : ℕ) → calls_of more client ≡ calls_of given client ++ call_by client line
  calls_more client = flat_map-append (λ (item : Item). call_by client item.line) given.items (record { line = line; at = at } ∷ []) ∙ ap (λ (l : List Call). calls_of given client ++ l) (append-nil (call_by client line))

  calls_same : (client : ℕ) → call_by client line ≡ [] → calls_of more client ≡ calls_of given client
  calls_same client none = calls_more client ∙ ap (λ (l : List Call). calls_of given client ++ l) none ∙ append-nil (calls_of given client)

  -- a number names the same call where the list has it
  call_same : (client n : ℕ) → ((k : ℕ) → n ≡ suc k → slice_get (calls_of more client) k ≡ slice_get (calls_of given client) k) → call_of (script_of more) client n ≡ call_of (script_of given) client n
  call_same client zero same = call_of_zero (script_of more) client ∙ sym (call_of_zero (script_of given) client)
  call_same client (suc k) same = names_own more client k ∙ same k refl ∙ sym (names_own given client k)

none_of : (client : ℕ) (line : Line) → is_call line ≡ false → call_by client line ≡ []
none_of client (CallLine plus c call) h = absurd cc
none_of client (JobLine plus job) h = refl
none_of client (Steps actor count) h = refl
none_of client (StepTo actor kind) h = refl
none_of client (EventLine event) h = refl

pub keeps_other : KeepsOther
keeps_other given lines at_work ledger line at none g k =
    more_kept given lines line at at_work ledger ledger.counts ledger.waiting g k k.count_places
    (λ client. k.counts client ∙ ap length (sym (calls_same given lines line at client (none_of client line none))))
    (λ client n. k.waiting client n ∙ ap (cond (has_final lines client n) None) (sym (call_same given lines line at client n (λ j e. ap (λ (l : List Call). slice_get l j) (calls_same given lines line at client (none_of client line none))))))

-- A call.

module _ (given : Given) (lines : List Outcome) (at_work : ℕ → Option LookedUp) (ledger : SeenLedger) (client : ℕ) (call : Call) where
  abbrev line : Line
  line = CallLine true client call

  abbrev longer : Given
  longer = with_item given (CallLine true client call) (length lines)

  by_other : (c : ℕ) → (c ≡ client → ⊥) → call_by c line ≡ []
  by_other c ne = ap (λ (b : Bool). cond b (call ∷ []) []) (ne_eqb c client ne)

  counts_more : KeepsHistory given lines at_work ledger → client ≤ ledger.clients → (c : ℕ) → slice_index (slice_set ledger.counts client (suc (count_of ledger client))) c ≡ length (calls_of longer c)
  counts_more k own c = elim (cases_eq c client) as (λ _. slice_index (slice_set ledger.counts client (suc (count_of ledger client))) c ≡ length (calls_of longer c)) [
    | inl same ↦ subst (λ (d : ℕ). slice_index (slice_set ledger.counts client (suc (count_of ledger client))) d ≡ length (calls_of longer d)) (sym same)
        (get_or-set_same ledger.counts client (suc (count_of ledger client)) 0 (omega (arith, own, k.count_places)) ∙ ap suc (k.counts client) ∙ one_longer)
    | inr ne ↦ get_or-set_other ledger.counts client c (suc (count_of ledger client)) 0 ne ∙ k.counts c ∙ ap length (sym (calls_same given lines line (length lines) c (by_other c ne)))
  ]
    where
      one_longer : suc (length (calls_of given client)) ≡ length (calls_of longer client)
      one_longer = omega (arith, ap length (next_is_fresh given client call (length lines)).own, length-append (calls_of given client) (call ∷ []))

  -- another call is the same
  others : (c n : ℕ) → (client ≡ c → n ≡ suc (length (calls_of given client)) → ⊥) → call_of (script_of longer) c n ≡ call_of (script_of given) c n
  others c n other = call_same given lines line (length lines) c n (λ k e. elim (cases_eq c client) as (λ _. slice_get (calls_of longer c) k ≡ slice_get (calls_of given c) k) [
    | inl same ↦ subst (λ (d : ℕ). slice_get (calls_of longer d) k ≡ slice_get (calls_of given d) k) (sym same)
        (ap (λ (l : List Call). slice_get l k) (next_is_fresh given client call (length lines)).own ∙ get_other (calls_of given client) call k (λ last. other (sym same) (e ∙ ap suc last)))
    | inr ne ↦ ap (λ (l : List Call). slice_get l k) (calls_same given lines line (length lines) c (by_other c ne))
  ])

  waiting_more : FitGiven given lines → KeepsHistory given lines at_work ledger → (c n : ℕ) → call_at (insert_entry key_cmp ledger.waiting (client, suc (count_of ledger client)) call) c n ≡ waits longer lines c n
  waiting_more g k c n = call_at-insert ledger.waiting client (suc (count_of ledger client)) c n call ∙ by_tests (cases_eq client c) (cases_eq (suc (count_of ledger client)) n)
    where
      old_call : (client ≡ c → n ≡ suc (length (calls_of given client)) → ⊥) → call_at ledger.waiting c n ≡ waits longer lines c n
      old_call other = k.waiting c n ∙ ap (cond (has_final lines c n) None) (sym (others c n other))

      new_call : client ≡ c → suc (count_of ledger client) ≡ n → Some call ≡ waits longer lines c n
      new_call same number =
          let is : suc (length (calls_of given client)) ≡ n = ap suc (sym (k.counts client)) ∙ number in
          subst (λ (d : ℕ). Some call ≡ waits longer lines d n) same (subst (λ (m : ℕ). Some call ≡ waits longer lines client m) is
          (sym (ap (λ (b : Bool). cond b None (call_of (script_of longer) client (suc (length (calls_of given client))))) (none_is_ahead given lines client (suc (length (calls_of given client))) g (omega arith)).final
          ∙ (next_is_fresh given client call (length lines)).is)))

      by_tests : (client ≡ c) ⊎ (client ≡ c → ⊥) → (suc (count_of ledger client) ≡ n) ⊎ (suc (count_of ledger client) ≡ n → ⊥) → cond (eqb client c && eqb (suc (count_of ledger client)) n) (Some call) (call_at ledger.waiting c n) ≡ waits longer lines c n
      by_tests (inl same) (inl number) = rw (eq-eqb client c same, eq-eqb (suc (count_of ledger client)) n number) (new_call same number)
      by_tests (inl same) (inr ne) = rw (eq-eqb client c same, ne_eqb (suc (count_of ledger client)) n ne) (old_call (λ s e. ne (ap suc (k.counts client) ∙ sym e)))
      by_tests (inr ne) d = rw (ne_eqb client c ne) (old_call (λ s e. ne s))

  pub call_kept : client ≤ ledger.clients → FitGiven given lines → KeepsHistory given lines at_work ledger → KeepsHistory longer lines at_work (called ledger client call)
  call_kept own g k = more_kept given lines line (length lines) at_work ledger (slice_set ledger.counts client (suc (count_of ledger client))) (insert_entry key_cmp ledger.waiting (client, suc (count_of ledger client)) call) g k
      (length-set ledger.counts client (suc (count_of ledger client)) ∙ k.count_places) (counts_more k own) (waiting_more g k)

pub keeps_call : KeepsCall
keeps_call given lines at_work ledger client call own g k = call_kept given lines at_work ledger client call own g k
