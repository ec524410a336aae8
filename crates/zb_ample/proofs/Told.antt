-- Where each call has its line, no client has work; and what in turn means for the next call.
use Rattle.std.proofs.Common.{◌≡◌, ◌≢◌, ℕ, zero, suc, ◌+◌, ◌≤◌, ◌||◌, true, false, Bool, List, [], ◌∷◌, ◌++◌, length, length-append, take, slice_get, Option, Some, None, refl, sym, ap, ◌∙◌, subst, arith, inl, inr}
use Rattle.std.specs.Prelude.{◌⊎◌, if◌then◌else◌, nat_le}
use Rattle.std.proofs.lemmas.List.{take-append-le}
use Rattle.std.specs.List.{AllByRecursion, list_any}
use Rattle.std.proofs.lemmas.Bool.{and_parts, cases_eq, eq-eqb, leb-true, true≢false}
use Rattle.zb_types.specs.declared.calls.Call.{Call}
use Rattle.zb_types.specs.declared.geometry.Geometry.{Geometry}
use Rattle.zb_types.specs.declared.lines.Kind.TheVariants.{Idle}
use Rattle.zb_types.specs.declared.lines.Line.{Line}
use Rattle.zb_types.specs.declared.lines.Line.TheVariants.{Call as CallLine}
use Rattle.zb_types.specs.declared.lines.Outcome.{Outcome}
use Rattle.zb_claims.specs.Points.{calls, has_line}
use Rattle.zb_given.specs.Given.{FitGiven, Given, call_by, calls_of, script_of, with_finish, with_item}
use Rattle.zb_given.specs.Ends.{HaveLines, IsInTurn, all_told}
use Rattle.zb_given.proofs.Ending.{all_told_law, turns_on, turns_stay}
use Rattle.zb_given.proofs.Staying.{counts_own}
use Rattle.zb_basis.specs.declared.calls.Numbered.{Numbered}
use Rattle.zb_work.specs.declared.work.Aim.{Aim}
use Rattle.zb_work.specs.declared.work.Aim.TheVariants.{Finish, Read, Update}
use Rattle.zb_work.specs.declared.work.Task.{Task}
use Rattle.zb_work.specs.Steps.{aim_of}
use Rattle.zb_client.specs.Seen.{SeenClient, kind_of, kind_of_task}
use Rattle.zb_line_laws.specs.Calls.{AimHas, HasItsCalls}
use Rattle.zb_system.specs.Nodes.{IsClient, SeenNodes}
use Rattle.zb_system.specs.Sound.{AreSound}
use Rattle.zb_finishing.specs.Clients.{AllIdle}
use Rattle.zb_ample.specs.Turning.{AreInTurn, InTurn, IsUnfinished, ReadsFirst}
use Rattle.zb_ample.proofs.Giving.{calls_more}

-- ---- each call of a client has its line

module _ (given : Given) (lines : List Outcome) (c : SeenClient) (h : HasItsCalls given lines c) where
  -- a call that has one is among those that have
  line_low : (n : ℕ) → has_line lines c.client n ≡ true → n ≤ h.lined
  line_low n told = leb-true n h.lined (and_parts (nat_le 1 n) (nat_le n h.lined) (sym (h.stand.named n) ∙ told)).1

  all_lined : HaveLines given lines (calls c.client) → length (calls_of given c.client) ≤ h.lined
  all_lined have = by (cases_eq (length (calls_of given c.client)) 0) where
    by : (length (calls_of given c.client) ≡ 0) ⊎ (length (calls_of given c.client) ≢ 0) → length (calls_of given c.client) ≤ h.lined
    by (inl none) = omega (arith, none)
    by (inr some) =
        let count = counts_own given c.client in
        line_low (length (calls_of given c.client)) (have (length (calls_of given c.client)) (omega (arith, some)) (omega (arith, count)))

  none_left : HaveLines given lines (calls c.client) → (c.queue ≡ []) × (h.lined ≡ h.taken)
  none_left have =
      let all = all_lined have in
      let few = h.stand.few in
      let count = h.all in
      (empty c.queue (omega (arith, all, few, count)), omega (arith, all, few, count)) where
        empty : (queue : List Numbered) → length queue ≡ 0 → queue ≡ []
        empty [] e = refl
        empty (call ∷ rest) e = absurd (omega (arith, e))

  -- so it is idle, if it doesn't finish, and a read is of a queued call
  idle_so : HaveLines given lines (calls c.client) → ReadsFirst c → IsUnfinished given lines → kind_of c ≡ Idle
  idle_so have reads unfinished = of c.task refl where
    none : (c.queue ≡ []) × (h.lined ≡ h.taken)
    none = none_left have

    for : (aim : Aim) → aim_of c.task ≡ Some aim → ⊥
    for (Update number) e =
        let has : (number ≡ h.taken) × (h.taken ≡ h.lined + 1) = subst (λ (a : Option Aim). AimHas a h.taken h.lined) e h.work in
        let later = has.1 in
        let same = none.1 in
        omega (arith, later, same)
    for Read e = let some = reads e in let long = ap (λ (q : List Numbered). length q) none.0 in omega (arith, some, long)
    for Finish e = unfinished (h.finishing e)

    of : (task : Option Task) → c.task ≡ task → kind_of c ≡ Idle
    of None e = ap (λ (t : Option Task). kind_of_task t c.queue) e ∙ ap (kind_of_task None) none.0
    of (Some task) e = absurd (for task.aim (ap aim_of e))

-- where each call has its line, all clients in turn are idle
pub told_idle : {geo : Geometry} {given : Given} {lines : List Outcome} {n : SeenNodes} → AreSound given lines n → InTurn geo given n → all_told lines (script_of given) ≡ true → IsUnfinished given lines → AllIdle n
told_idle {geo} {given} {lines} {n} s t told unfinished i c is = by (cases_eq i t.who) where
  by : (i ≡ t.who) ⊎ (i ≢ t.who) → kind_of c ≡ Idle
  by (inl here) =
      idle_so given lines c (s.calls.calls i c is) ((all_told_law given lines).0 told (calls c.client))
      (t.reads c (ap (λ (k : ℕ). slice_get n.clients k) (sym here) ∙ is)) unfinished
  by (inr ne) = t.alone i ne c is

-- ---- the next call

any_front : (p : Outcome → Bool) (n : ℕ) (lines : List Outcome) → list_any p (take n lines) ≡ true → list_any p lines ≡ true
any_front p zero lines e = absurd (true≢false (sym e))
any_front p (suc n) [] e = absurd (true≢false (sym e))
any_front p (suc n) (line ∷ lines) e = by (p line) (any_front p n lines) e where
  by : (b : Bool) → (list_any p (take n lines) ≡ true → list_any p lines ≡ true) → (b || list_any p (take n lines)) ≡ true → (b || list_any p lines) ≡ true
  by true rest e = refl
  by false rest e = rest e

module _ {given : Given} {lines : List Outcome} {n : SeenNodes} (s : AreSound given lines n) (i : ℕ) (c : SeenClient) (is : IsClient n i c) (call : Call) (place : ℕ) where
  abbrev More : Given
  More = with_item given (CallLine true (i + 1) call) place

  abbrev H : HasItsCalls given lines c
  H = s.calls.calls i c is

  own : c.client ≡ i + 1
  own = (s.clients i c is).1

  -- it is one more of its client
  one_more : length (calls_of More (i + 1)) ≡ suc (length (calls_of given (i + 1)))
  one_more =
      let more = ap (λ (cs : List Call). length cs) (calls_more given (CallLine true (i + 1) call) place (i + 1)) in
      let both = length-append (calls_of given (i + 1)) (call_by (i + 1) (CallLine true (i + 1) call)) in
      let one : length (call_by (i + 1) (CallLine true (i + 1) call)) ≡ 1 = ap (λ (b : Bool). length (if b then call ∷ [] else [])) (eq-eqb (i + 1) (i + 1) refl) in
      omega (arith, more, both, one)

  -- and has no line in front of these
  no_line : (at : ℕ) → all_told (take at lines) (script_of More) ≡ true → ⊥
  no_line at told =
      let count = counts_own More (i + 1) in
      let more = one_more in
      let line = (all_told_law More (take at lines)).0 told (calls (i + 1)) (suc (length (calls_of given (i + 1)))) (omega arith) (omega (arith, count, more)) in
      let there : has_line lines c.client (suc (length (calls_of given (i + 1)))) ≡ true =
      subst (λ (k : ℕ). has_line lines k (suc (length (calls_of given (i + 1)))) ≡ true) (sym own) (any_front _ at lines line) in
      let low = line_low given lines c H (suc (length (calls_of given (i + 1)))) there in
      let few = H.stand.few in
      let all = H.all in
      let same = ap (λ (k : ℕ). length (calls_of given k)) own in
      omega (arith, low, few, all, same)

  no_finish : (finishes : List ℕ) → AllByRecursion (λ at. all_told (take at lines) (script_of More) ≡ true) finishes → finishes ≡ []
  no_finish [] all = refl
  no_finish (at ∷ finishes) all = absurd (no_line at all.0)

  -- where it was given in turn, so were those before, each has its line, and no finish began
  pub call_in_turn : place ≡ length lines → AreInTurn More lines → AreInTurn given lines × ((all_told lines (script_of given) ≡ true) × IsUnfinished given lines)
  call_in_turn here turn =
      let before = (turns_on given lines (CallLine true (i + 1) call)).0 (subst (λ (k : ℕ). IsInTurn (with_item given (CallLine true (i + 1) call) k) lines) here turn.0) in
      let none = no_finish given.finishes turn.1 in (
        (before.0, subst (AllByRecursion (λ at. all_told (take at lines) (script_of given) ≡ true)) (sym none) tt),
        (before.1, λ finishing. true≢false (sym finishing ∙ ap (λ (fs : List ℕ). list_any (λ at. nat_le at (length lines)) fs) none)),
      )

-- ---- a finish, and more lines

front_of : (P : ℕ → Type 0) (xs : List ℕ) (x : ℕ) → AllByRecursion P (xs ++ x ∷ []) → AllByRecursion P xs
front_of P [] x all = tt
front_of P (y ∷ ys) x all = (all.0, front_of P ys x all.1)

pub finish_in_turn : (given : Given) (lines : List Outcome) (place : ℕ) → AreInTurn (with_finish given place) lines → AreInTurn given lines
finish_in_turn given lines place turn = (turn.0, front_of (λ at. all_told (take at lines) (script_of given) ≡ true) given.finishes place turn.1)

told_before : (script : List Line) (lines more : List Outcome) (finishes : List ℕ) → AllByRecursion (λ at. at ≤ length lines) finishes
    → AllByRecursion (λ at. all_told (take at (lines ++ more)) script ≡ true) finishes → AllByRecursion (λ at. all_told (take at lines) script ≡ true) finishes
told_before script lines more [] stood all = tt
told_before script lines more (at ∷ finishes) stood all =
    (subst (λ (ls : List Outcome). all_told ls script ≡ true) (take-append-le at lines more stood.0) all.0, told_before script lines more finishes stood.1 all.1)

pub lines_in_turn : (given : Given) (lines more : List Outcome) → FitGiven given lines → AllByRecursion (λ at. at ≤ length lines) given.finishes → AreInTurn given (lines ++ more) → AreInTurn given lines
lines_in_turn given lines more fit stood turn = ((turns_stay given lines more fit.stood).0 turn.0, told_before (script_of given) lines more given.finishes stood turn.1)
