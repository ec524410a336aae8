-- What is ahead of the lines.
use Rattle.std.proofs.Common.{◌≡◌, ℕ, zero, suc, ◌≤◌, true, false, cond, List, [], ◌∷◌, ◌++◌, length, Option, Some, None, refl, sym, ap, subst, ◌∙◌, append_assoc, arith, inl, inr}
use Rattle.std.specs.Prelude.{map}
use Rattle.std.proofs.lemmas.List.{append-nil, length-append, length-map}
use Rattle.zb_types.specs.declared.calls.Call.{Call}
use Rattle.zb_types.specs.declared.history.Did.{Did}
use Rattle.zb_types.specs.declared.lines.Line.{Line}
use Rattle.zb_types.specs.declared.lines.Line.TheVariants.{Call as CallLine}
use Rattle.zb_types.specs.declared.lines.Outcome.{Outcome}
use Rattle.zb_types.specs.Tree.{Tree}
use Rattle.zb_types.specs.History.{tree_after, AreReplies}
use Rattle.zb_claims.specs.Points.{Subject, calls, asked, asked_of, call_of, tree_at}
use Rattle.zb_claims.specs.Fits.{Clock, clock_of_run}
use Rattle.zb_headline.specs.Reasons.{begun_in}
use Rattle.zb_headline.specs.Ahead.{is_waiting, waiting_to, waiting, numbers_of, IsAhead}
use Rattle.zb_laws.proofs.Tests.{at_or_below}
use Rattle.zb_laws.proofs.Each.{each_weaker}
use Rattle.zb_given.specs.Given.{Given, script_of, place_in, clock_of_given}
use Rattle.zb_given.specs.Gives.{without_steps, with_plus, about, Gives}
use Rattle.zb_given.specs.Lifts.{LiftsAhead, LiftsAheadThreads}
use Rattle.zb_given.proofs.Asking.{asked_more}
use Rattle.zb_given.proofs.Parts.{asks_call, within}
use Rattle.zb_given.proofs.StepLines.{steps_twice}
use Rattle.zb_given.proofs.Begun.{begun_longer}
use Rattle.zb_given.proofs.Carry.{Extends, Carries, found, asked_pos, dids_agree, call_agrees, named_agrees, all_asked}
use Rattle.zb_given.proofs.StepLifting.{steps_carry}
use Rattle.zb_given.proofs.RunLifting.{plus_carry, by_subject}

waiting_same : (A B : List Line) → Extends A B → (lines : List Outcome) (client n : ℕ) → n ≤ length (about (calls client) A) → waiting_to B lines client n ≡ waiting_to A lines client n
waiting_same A B ext lines client zero le = refl
waiting_same A B ext lines client (suc n) le = rw (call_agrees A B ext client n le, waiting_same A B ext lines client n (omega (arith, le))) refl

waiting_more : (B : List Line) (lines : List Outcome) (client a n : ℕ) → a ≤ n → (rest : List ℕ) × (waiting_to B lines client n ≡ waiting_to B lines client a ++ rest)
waiting_more B lines client a zero le = let none : a ≡ 0 = omega (arith, le) in ([], ap (waiting_to B lines client) (sym none) ∙ sym (append-nil (waiting_to B lines client a)))
waiting_more B lines client a (suc n) le =
    elim (at_or_below a (suc n) le) as (λ _. (rest : List ℕ) × (waiting_to B lines client (suc n) ≡ waiting_to B lines client a ++ rest)) [
      | inl e ↦ ([], ap (waiting_to B lines client) (sym e) ∙ sym (append-nil (waiting_to B lines client a)))
      | inr lt ↦
          let fewer = waiting_more B lines client a n (omega (arith, lt)) in (
            fewer.0 ++ cond (is_waiting B lines client (suc n)) (suc n ∷ []) [],
            ap (λ (l : List ℕ). l ++ cond (is_waiting B lines client (suc n)) (suc n ∷ []) []) fewer.1
                ∙ append_assoc (waiting_to B lines client a) fewer.0 (cond (is_waiting B lines client (suc n)) (suc n ∷ []) []),
          )
    ]

waiting_longer : (A B : List Line) → Extends A B → (lines : List Outcome) (client : ℕ) → (rest : List ℕ) × (waiting B lines client ≡ waiting A lines client ++ rest)
waiting_longer A B ext lines client =
    let e = ext (calls client) in
    let le : asked_of (calls client) A ≤ asked_of (calls client) B = omega (arith, length-map (about (calls client) A) with_plus, length-map (about (calls client) B) with_plus, ap length e.1, length-append (map with_plus (about (calls client) A)) e.0) in
    let more = waiting_more B lines client (asked_of (calls client) A) (asked_of (calls client) B) le in
    (more.0, more.1 ∙ ap (λ (l : List ℕ). l ++ more.0) (waiting_same A B ext lines client (asked_of (calls client) A) (omega arith)))

call_kept : (A B : List Line) → Extends A B → (client n : ℕ) (call : Call) → call_of A client n ≡ Some call → call_of B client n ≡ Some call
call_kept A B ext client n call is =
    let a = asks_call A client n call is in
    named_agrees (λ (o : Option Call). o) A B ext client n (asked_pos A (calls client) n (place_in (asked A (calls client) n)) (CallLine a.plus client call) a.is) ∙ is

-- what is ahead by one script is so by another that asks for as much, if it is begun there
ahead_by : (A B : List Line) (u v : Clock) (lines : List Outcome) (ahead : List Did) → Extends A B → tree_at B lines ≡ tree_at A lines → ((client n : ℕ) → begun_in u lines (asked A (calls client) n) ≡ true → begun_in v lines (asked B (calls client) n) ≡ true)
    → IsAhead A u lines ahead → IsAhead B v lines ahead
ahead_by A B u v lines ahead ext tree begun h = record {
  early = h.early;
  last = h.last;
  split = h.split;
  batch = h.batch;
  unended = h.unended;
  calls_are = each_weaker (λ (did : Did). call_of A did.client did.number ≡ Some did.call) (λ (did : Did). call_of B did.client did.number ≡ Some did.call) (λ did is. call_kept A B ext did.client did.number did.call is) ahead h.calls_are;
  begun = each_weaker (λ (did : Did). begun_in u lines (asked A (calls did.client) did.number) ≡ true) (λ (did : Did). begun_in v lines (asked B (calls did.client) did.number) ≡ true) (λ did is. begun did.client did.number is) ahead h.begun;
  first = λ client.
      let few = h.first client in
      let more = waiting_longer A B ext lines client in
      (few.0 ++ more.0, sym (append_assoc (numbers_of client ahead) few.0 more.0) ∙ ap (λ (l : List ℕ). l ++ more.0) few.1 ∙ sym more.1);
  replies = subst (λ (t : Tree). AreReplies t ahead) (sym tree) h.replies;
}

-- what is begun by one clock is so by the other
pub begun_by : (A B : List Line) (u v : Clock) (lines : List Outcome) → Carries A B u v lines → (front rest : List Outcome) → lines ≡ front ++ rest → (s : Subject) (n : ℕ) → begun_in u front (asked A s n) ≡ true → begun_in v front (asked B s n) ≡ true
begun_by A B u v lines c front rest split s n h = by_found (asked A s n) refl h
  where
    by_found : (o : Option (ℕ × Line)) → asked A s n ≡ o → begun_in u front o ≡ true → begun_in v front (asked B s n) ≡ true
    by_found None e h = absurd cc
    by_found (Some at) e h =
        let there = found A B c.extends s n at.0 at.1 e in
        ap (begun_in v front) there.is ∙ c.begun s n at.0 there.place at.1 there.line e there.is front rest split h

begun_behind : (script later : List Line) (lines : List Outcome) (s : Subject) (n : ℕ) → begun_in (clock_of_run true script) lines (asked script s n) ≡ true → begun_in (clock_of_run true (script ++ later)) lines (asked (script ++ later) s n) ≡ true
begun_behind script later lines s n h = by_found (asked script s n) refl h
  where
    by_found : (o : Option (ℕ × Line)) → asked script s n ≡ o → begun_in (clock_of_run true script) lines o ≡ true → begun_in (clock_of_run true (script ++ later)) lines (asked (script ++ later) s n) ≡ true
    by_found None e h = absurd cc
    by_found (Some at) e h =
        ap (begun_in (clock_of_run true (script ++ later)) lines) (asked_more 0 s n script later at e)
        ∙ begun_longer script later lines at.0 (omega (arith, within script s n at.0 at.1 e)) ∙ h

-- what was given and begun is begun in the script
pub begun_given : (script : List Line) (given : Given) (lines : List Outcome) → Gives script given lines → (front rest : List Outcome) → lines ≡ front ++ rest → (s : Subject) (n : ℕ) → begun_in (clock_of_given given) front (asked (script_of given) s n) ≡ true
    → begun_in (clock_of_run true script) front (asked script s n) ≡ true
begun_given script given lines gives front rest split s n h =
    begun_by (without_steps script) script (clock_of_run true (without_steps script)) (clock_of_run true script) lines (steps_carry (without_steps script) script (steps_twice script) true lines) front rest split s n
    (begun_by (map with_plus (without_steps script)) (without_steps script) (clock_of_given given) (clock_of_run true (without_steps script)) lines (plus_carry (without_steps script) given lines gives.begun gives.over gives.at_once gives.items) front rest split s n
    (subst (λ (l : List Line). begun_in (clock_of_given given) front (asked l s n) ≡ true) gives.items h))

pub lifts_ahead : LiftsAhead
lifts_ahead script later given lines ahead gives g h =
    let ext : Extends (script_of given) (script ++ later) = by_subject script later given lines gives in
    let tree : tree_at (script ++ later) lines ≡ tree_at (script_of given) lines = ap tree_after (dids_agree (script_of given) (script ++ later) ext lines (all_asked (clock_of_given given) (script_of given) [] lines g.fits)) in
    ahead_by (script_of given) (script ++ later) (clock_of_given given) (clock_of_run true (script ++ later)) lines ahead ext tree
    (λ client n is. begun_behind script later lines (calls client) n (begun_given script given lines gives lines [] (sym (append-nil lines)) (calls client) n is)) h

pub lifts_ahead_threads : LiftsAheadThreads
lifts_ahead_threads script given lines ahead gives g h =
    let tree : tree_at script lines ≡ tree_at (script_of given) lines = ap tree_after (dids_agree (script_of given) script gives lines (all_asked (clock_of_given given) (script_of given) [] lines g.fits)) in
    ahead_by (script_of given) script (clock_of_given given) (clock_of_run false script) lines ahead gives tree (λ client n is. by_found client n (asked (script_of given) (calls client) n) refl is) h
  where
    by_found : (client n : ℕ) (o : Option (ℕ × Line)) → asked (script_of given) (calls client) n ≡ o → begun_in (clock_of_given given) lines o ≡ true → begun_in (clock_of_run false script) lines (asked script (calls client) n) ≡ true
    by_found client n None e h = absurd cc
    by_found client n (Some at) e h = ap (begun_in (clock_of_run false script) lines) (found (script_of given) script gives (calls client) n at.0 at.1 e).is
