-- A program's loop keeps what it keeps.
use Rattle.std.proofs.Common.{◌≡◌, ℕ, suc, ◌+◌, ◌<◌, ◌≤◌, Bool, true, false, cond, ◌||◌, List, [], ◌∷◌, ◌++◌, length, take, Option, Some, None, refl, sym, ap, subst, ◌∙◌, arith, inl, inr}
use Rattle.std.specs.Prelude.{map, ◌≢◌, ◌⊎◌}
use Rattle.std.specs.List.{list_any, AllByRecursion}
use Rattle.std.proofs.lemmas.List.{append-nil}
use Rattle.std.proofs.lemmas.List.Elements.{filter-append}
use Rattle.std.proofs.Math.Seq.{take-length}
use Rattle.zb_types.specs.declared.calls.Call.{Call}
use Rattle.zb_types.specs.declared.calls.Reply.{Reply}
use Rattle.zb_types.specs.declared.lines.Line.{Line}
use Rattle.zb_types.specs.declared.lines.Line.TheVariants.{Call as CallLine}
use Rattle.zb_types.specs.declared.lines.Outcome.{Outcome}
use Rattle.zb_types.specs.Apply.{reply_to}
use Rattle.zb_claims.specs.Points.{Subject, calls, subject_of, is_about, asked_of, is_of_client, has_told, has_plus, subject_asked, is_met, is_begun, tree_at}
use Rattle.zb_laws.proofs.Tests.{equal, equals, first_false, last_false}
use Rattle.zb_given.specs.Given.{Given, script_of, calls_of, FitGiven}
use Rattle.zb_given.specs.Calls.{LookedUp}
use Rattle.zb_given.specs.Gives.{is_item, without_steps, with_plus, Gives}
use Rattle.zb_given.specs.Telling.{is_number, seen_by, IsOfLookup, AreOfLookups, IsOfNow, LooksNow}
use Rattle.zb_given.specs.Loops.{IsFirst, GoesTo, LooksFirst, GoesPastPlus, GoesPast, GoesPastSteps, StepsOwn, StepsOther, OtherClients, StepsPast, Finishes}
use Rattle.zb_given.proofs.Subjects.{asks_about, one_subject}
use Rattle.zb_given.proofs.Parts.{asks_call}
use Rattle.zb_given.proofs.Plus.{asked_of_plus}
use Rattle.zb_given.proofs.StepLines.{asked_of_steps, step_waits}
use Rattle.zb_given.proofs.AllMet.{asked_of_one, asked_of_append}
use Rattle.zb_given.proofs.Begun.{begun_lines, begun_row, begun_steps}
use Rattle.zb_given.proofs.Carry.{asked_pos}
use Rattle.zb_given.proofs.Staying.{counts_own, next_is_fresh}
use Rattle.zb_given.proofs.Giving.{gives_row, gives_steps, gives_lines, gives_finish}
use Rattle.zb_given.proofs.AtOnce.{AreNowHere, lines_are_now}

pub is_first : IsFirst
is_first = record { past = record { gives = record { items = refl; begun = refl; over = refl; at_once = tt }; begun = refl }; fit = record { fits = tt; stood = tt } }

-- From line to line.

pub goes_to : GoesTo
goes_to script given lines line is none g past = record { gives = gives_row script given lines line is none g past.begun past.gives; begun = past.begun }

pub looks_first : LooksFirst
looks_first given lines client at call None is = tt
looks_first given lines client at call (Some read) is = λ same.
    let a = asks_call (script_of given) client read.number is.0 is.1.is_open.is in
    let below = asked_pos (script_of given) (calls client) read.number _ (CallLine a.plus client is.0) a.is in
    absurd (omega (arith, same, below.1, below.2, counts_own given client, ap length (next_is_fresh given client call at).own, one (calls_of given client)))
  where
    one : (xs : List Call) → length (xs ++ call ∷ []) ≡ suc (length xs)
    one [] = refl
    one (x ∷ xs) = ap suc (one xs)

pub goes_past_plus : GoesPastPlus
goes_past_plus script line given lines plus at = record {
  gives = at.gives;
  begun = begun_row script lines line at.begun (ap (λ (b : Bool). is_met (has_told lines) script (cond b None (subject_asked line))) plus);
}

-- all items of a subject are those of the lines that were given
asked_given : (script : List Line) (given : Given) (s : Subject) → script_of given ≡ map with_plus (without_steps script) → asked_of s (script_of given) ≡ asked_of s script
asked_given script given s is = ap (asked_of s) is ∙ asked_of_plus s (without_steps script) ∙ asked_of_steps s script

pub goes_past : GoesPast
goes_past script line given lines s is told at =
    let counts : asked_of s (script_of given) ≡ suc (asked_of s script) = asked_given (script ++ line ∷ []) given s at.gives.items ∙ asked_of_one s script line (asks_about line s is) in
    let there : has_told lines s (suc (asked_of s script)) ≡ true = told (suc (asked_of s script)) (omega arith) (omega (arith, counts)) in
    let asked : is_met (has_told lines) script (subject_asked line) ≡ true = ap (is_met (has_told lines) script) is ∙ there in
    record { gives = at.gives; begun = begun_row script lines line at.begun (waits (has_plus line) asked) }
  where
    waits : (b : Bool) → is_met (has_told lines) script (subject_asked line) ≡ true → is_met (has_told lines) script (cond b None (subject_asked line)) ≡ true
    waits true h = refl
    waits false h = h

pub goes_past_steps : GoesPastSteps
goes_past_steps script line given lines is past = record {
  gives = gives_steps script given lines line is past.gives;
  begun = begun_row script lines line past.begun (ap (is_met (has_told lines) script) (step_waits line is));
}

pub finishes : Finishes
finishes script given lines past = record { gives = gives_finish script given lines past.begun past.gives; begun = past.begun }

-- Between two lines.

pub steps_past : StepsPast
steps_past script given lines more g past =
    let T : List Line = without_steps script in
    record {
      gives = gives_lines script given lines more
          (lines_are_now given (without_steps script) (without_steps script) [] past.gives.items (sym (append-nil (without_steps script))) lines more g.fits (begun_steps script lines ∙ past.begun) (none_here lines more)) past.gives;
      begun = begun_lines script lines more (length script) past.begun;
    }
  where
    none_here : (before more : List Outcome) → AreNowHere given (without_steps script) (without_steps script) before more
    none_here before [] = tt
    none_here before (x ∷ more) = (λ client n call reply is low high named read. absurd (omega (arith, low, high)), none_here (before ++ x ∷ []) more)

-- At a line.

module _ (script : List Line) (line : Line) (given : Given) (is : script_of given ≡ map with_plus (without_steps (script ++ line ∷ []))) where
  abbrev S : List Line
  S = without_steps script

  abbrev T : List Line
  T = without_steps (script ++ line ∷ [])

  abbrev tail : List Line
  tail = without_steps (line ∷ [])

  parts : T ≡ S ++ tail
  parts = filter-append is_item script (line ∷ [])

  last_count : (client : ℕ) → asked_of (calls client) T ≡ asked_of (calls client) S + length (cond (is_about (calls client) line) (line ∷ []) [])
  last_count client = omega (arith, asked_of_steps (calls client) (script ++ line ∷ []), asked_of_steps (calls client) script, asked_of_append (calls client) script (line ∷ []), one)
    where
      one : asked_of (calls client) (line ∷ []) ≡ length (cond (is_about (calls client) line) (line ∷ []) [])
      one = refl

  -- a call behind the earlier ones is that of the line
  is_its_call : (client n : ℕ) → asked_of (calls client) S < n → n ≤ asked_of (calls client) T → (is_about (calls client) line ≡ true) × (n ≡ asked_of (calls client) T)
  is_its_call client n low high = by_test (is_about (calls client) line) refl (last_count client)
    where
      by_test : (b : Bool) → is_about (calls client) line ≡ b → asked_of (calls client) T ≡ asked_of (calls client) S + length (cond b (line ∷ []) []) → (is_about (calls client) line ≡ true) × (n ≡ asked_of (calls client) T)
      by_test true e count = (e, omega (arith, low, high, count))
      by_test false e count = absurd (omega (arith, low, high, count))

  pub at_more : (lines more : List Outcome) → Gives (script ++ line ∷ []) given lines → is_begun script lines (length script) ≡ true → FitGiven given (lines ++ more) → AreNowHere given S T lines more → Gives (script ++ line ∷ []) given (lines ++ more)
  at_more lines more gives begun g now = gives_lines (script ++ line ∷ []) given lines more (lines_are_now given T S tail is parts lines more g.fits (begun_steps script lines ∙ begun) now) gives

  pub others_here : (before more : List Outcome) → ((client : ℕ) → is_about (calls client) line ≡ true → list_any (is_of_client client) more ≡ false) → AreNowHere given S T before more
  others_here before [] none = tt
  others_here before (x ∷ more) none = (
    λ client n call reply one low high named read.
        let its = is_its_call client n low high in
        let other : is_of_client client x ≡ false = first_false (is_of_client client x) (list_any (is_of_client client) more) (none client its.0) in
        let own : is_of_client client x ≡ true = ap (is_of_client client) one ∙ equals client in
        absurd cc,
    others_here (before ++ x ∷ []) more (λ client about. last_false (is_of_client client x) (list_any (is_of_client client) more) (none client about)),
  )

  own_reply : (before : List Outcome) (client n : ℕ) (call : Call) (reply : Reply) (read : Option LookedUp) → LooksNow given before client read → n ≡ length (calls_of given client) → is_number read n ≡ true → reply ≡ reply_to (tree_at (script_of given) (seen_by read before)) call
      → reply ≡ reply_to (tree_at (script_of given) before) call
  own_reply before client n call reply None looks last number same = same
  own_reply before client n call reply (Some read) looks last number same =
      let now : read.at ≡ length before = looks (equal read.number n number ∙ last) in
      same ∙ ap (λ (l : List Outcome). reply_to (tree_at (script_of given) l) call) (ap (λ (k : ℕ). take k before) now ∙ take-length before)

  pub own_here : (before more : List Outcome) (client : ℕ) (read : Option LookedUp) → LooksNow given before client read → AllByRecursion (λ x. is_of_client client x ≡ true) more → AreOfLookups given before read more → AreNowHere given S T before more
  own_here before [] client read looks own reads = tt
  own_here before (x ∷ more) client read looks own reads = (
    λ c n call reply one low high named is_read.
        let its = is_its_call c n low high in
        let same : client ≡ c = equal client c (ap (is_of_client client) (sym one) ∙ own.0) in
        let counts : asked_of (calls c) (script_of given) ≡ asked_of (calls c) T = ap (asked_of (calls c)) is ∙ asked_of_plus (calls c) T in
        let last : n ≡ length (calls_of given c) = its.1 ∙ sym counts ∙ counts_own given c in
        let answer = subst (IsOfLookup given before read) one reads.0 call named is_read in
        own_reply before c n call reply read (subst (λ (k : ℕ). LooksNow given before k read) same looks) last answer.number answer.same,
    own_here (before ++ x ∷ []) more client None tt own.1 reads.1,
  )

pub steps_other : StepsOther
steps_other script line given lines more g none at = record {
  gives = at_more script line given at.gives.items lines more at.gives at.begun g (others_here script line given at.gives.items lines more none);
  begun = begun_lines script lines more (length script) at.begun;
}

looks_on : (given : Given) (lines more : List Outcome) (client : ℕ) (old new : Option LookedUp) → LooksNow given lines client old → ((more ≡ []) × (new ≡ old)) ⊎ IsOfNow new (lines ++ more) → LooksNow given (lines ++ more) client new
looks_on given lines more client old new looks (inl e) =
    subst (λ (l : List Outcome). LooksNow given l client new) (sym (append-nil lines) ∙ ap (λ (m : List Outcome). lines ++ m) (sym e.0)) (subst (LooksNow given lines client) (sym e.1) looks)
looks_on given lines more client old None looks (inr e) = tt
looks_on given lines more client old (Some read) looks (inr e) = λ same. e

pub steps_own : StepsOwn
steps_own script line given lines client old new more g tells looks at = (
  record {
    gives = at_more script line given at.gives.items lines more at.gives at.begun g (own_here script line given at.gives.items lines more client old looks tells.own tells.reads);
    begun = begun_lines script lines more (length script) at.begun;
  },
  looks_on given lines more client old new looks tells.looks,
)

-- a line of one client is none of another
not_both : (c other : ℕ) (x : Outcome) → other ≢ c → is_of_client other x ≡ true → is_of_client c x ≡ false
not_both c other x ne own = by_test (is_of_client c x) refl
  where
    same : Some (calls other) ≡ Some (calls c) → other ≡ c
    same e = cc

    by_test : (b : Bool) → is_of_client c x ≡ b → is_of_client c x ≡ false
    by_test true e =
        let one : calls other ≡ subject_of x = one_subject (calls other) (subject_of x) own in
        let two : calls c ≡ subject_of x = one_subject (calls c) (subject_of x) e in
        absurd (ne (same (ap Some (one ∙ sym two))))
    by_test false e = e

none_of : (c other : ℕ) (more : List Outcome) → other ≢ c → AllByRecursion (λ x. is_of_client other x ≡ true) more → list_any (is_of_client c) more ≡ false
none_of c other [] ne own = refl
none_of c other (x ∷ more) ne own = ap (λ (b : Bool). b || list_any (is_of_client c) more) (not_both c other x ne own.0) ∙ none_of c other more ne own.1

pub other_clients : OtherClients
other_clients plus client other call more ne own c about = none_of c other more (subst (λ (k : ℕ). other ≢ k) (sym (equal c client about)) ne) own
