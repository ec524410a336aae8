-- Which of what was given has its lines, and what that says of the script.
use Rattle.std.proofs.Common.{◌≡◌, ℕ, suc, ◌+◌, ◌≤◌, Bool, true, false, cond, ◌&&◌, ◌||◌, List, [], ◌∷◌, ◌++◌, length, take, drop, None, refl, sym, ap, ◌∙◌, arith, inl, inr}
use Rattle.std.specs.Prelude.{map, filter, ◌⊎◌}
use Rattle.std.specs.List.{list_any, sum, AllByRecursion}
use Rattle.std.proofs.lemmas.List.{length-map, take-append-le, take-append-drop}
use Rattle.std.proofs.lemmas.List.Folds.{list_any-append}
use Rattle.std.proofs.lemmas.List.Sums.{sum_by-cons}
use Rattle.std.proofs.Math.Seq.{take-length, take-append_seam}
use Rattle.std.proofs.Math.Bool.{and_assoc}
use Rattle.zb_types.specs.declared.geometry.Geometry.{Geometry}
use Rattle.zb_types.specs.declared.lines.Line.{Line}
use Rattle.zb_types.specs.declared.lines.Line.TheVariants.{Call as CallLine, Job as JobLine, Steps, StepTo, Event as EventLine}
use Rattle.zb_types.specs.declared.lines.Job.TheVariants.{Clean, Rebuild}
use Rattle.zb_types.specs.declared.lines.Outcome.{Outcome}
use Rattle.zb_claims.specs.Points.{Subject, calls, same_subject, is_about, asked_of, subject_asked, subject_in, has_plus, has_told, is_met, all_met, is_begun}
use Rattle.zb_claims.specs.Runs.{has_ended, all_ended}
use Rattle.zb_laws.proofs.Tests.{both, first_true, last_true, first_false, last_false}
use Rattle.zb_headline.specs.Need.{need_of, space_needed}
use Rattle.zb_headline.specs.Complete.{takes_away, is_beside}
use Rattle.zb_given.specs.Given.{Item, Given, with_item, script_of}
use Rattle.zb_given.specs.Gives.{is_item, without_steps, with_plus, are_begun}
use Rattle.zb_given.specs.Ends.{all_told, are_in_turn, is_call, OfClients, AllTold, AllEnded, OnlyCalls, TurnsOn, TurnsStay}
use Rattle.zb_given.specs.Lifts.{LiftsEnded, LiftsLast}
use Rattle.zb_given.specs.Completing.{is_job, GivesInTurn, LiftsComplete}
use Rattle.zb_given.proofs.Subjects.{one_subject}
use Rattle.zb_given.proofs.StepLines.{step_asks}
use Rattle.zb_given.proofs.Plus.{take_plus}
use Rattle.zb_given.proofs.AllMet.{all_met_steps, all_met_plus, each_met, met_each}
use Rattle.zb_given.proofs.MoreGiving.{one_more}

-- By subject.

pub all_told_law : AllTold
all_told_law given lines = (
  λ h s n low high. each_met (has_told lines) [] (script_of given) h s n (omega (arith, low)) high,
  λ each. met_each (has_told lines) [] (script_of given) (λ s n low high. each s n (omega (arith, low)) high),
)

pub all_ended_law : AllEnded
all_ended_law given lines = (
  λ h s n low high. each_met (has_ended lines) [] (script_of given) h s n (omega (arith, low)) high,
  λ each. met_each (has_ended lines) [] (script_of given) (λ s n low high. each s n (omega (arith, low)) high),
)

pub lifts_ended : LiftsEnded
lifts_ended script given lines is = ap (all_ended lines []) is ∙ all_met_plus (has_ended lines) [] (without_steps script) ∙ sym (all_met_steps subject_asked (has_ended lines) step_asks [] script)

pub lifts_last : LiftsLast
lifts_last script given lines gives each = sym (lifts_ended script given lines gives.items) ∙ (all_ended_law given lines).1 each

-- of calls alone there is nothing else
calls_alone : (s : Subject) (items : List Item) → AllByRecursion (λ item. is_call item.line ≡ true) items → ((client : ℕ) → s ≡ calls client → ⊥) → asked_of s (map (λ (item : Item). item.line) items) ≡ 0
calls_alone s [] all other = refl
calls_alone s (item ∷ items) all other = rw (not_about item.line all.0) (calls_alone s items all.1 other)
  where
    no_call : (client : ℕ) (b : Bool) → same_subject s (calls client) ≡ b → b ≡ false
    no_call client true e = absurd (other client (one_subject s (calls client) e))
    no_call client false e = refl

    not_about : (line : Line) → is_call line ≡ true → is_about s line ≡ false
    not_about (CallLine plus client call) h = no_call client (same_subject s (calls client)) refl
    not_about (JobLine plus job) h = absurd cc
    not_about (Steps actor count) h = absurd cc
    not_about (StepTo actor kind) h = absurd cc
    not_about (EventLine event) h = absurd cc

by_clients : (given : Given) (f : Subject → ℕ → Bool) → AllByRecursion (λ item. is_call item.line ≡ true) given.items → OfClients (λ s. (n : ℕ) → 1 ≤ n → n ≤ asked_of s (script_of given) → f s n ≡ true)
by_clients given f all each (calls client) n low high = each client n low high
by_clients given f all each s n low high = absurd (omega (arith, low, high, calls_alone s given.items all (λ client e. absurd cc)))

pub only_calls : OnlyCalls
only_calls given lines all = (by_clients given (has_told lines) all, by_clients given (has_ended lines) all)

-- In turn.

turn_push : (script : List Line) (lines : List Outcome) (place : ℕ) (items : List Item) (x : Item)
    → are_in_turn script lines place (items ++ x ∷ []) ≡ (are_in_turn script lines place items && all_told (take x.at lines) (take (place + length items) script))
turn_push script lines place [] x =
    let here : place ≡ place + 0 = omega arith in
    end (all_told (take x.at lines) (take place script)) ∙ ap (λ (k : ℕ). all_told (take x.at lines) (take k script)) here
  where
    end : (b : Bool) → (b && true) ≡ b
    end true = refl
    end false = refl
turn_push script lines place (item ∷ items) x =
    let there : suc place + length items ≡ place + suc (length items) = omega arith in
    ap (λ (b : Bool). all_told (take item.at lines) (take place script) && b) (turn_push script lines (suc place) items x)
    ∙ sym (and_assoc (all_told (take item.at lines) (take place script)) (are_in_turn script lines (suc place) items) (all_told (take x.at lines) (take (suc place + length items) script)))
    ∙ ap (λ (k : ℕ). all_told (take item.at lines) (take place script) && are_in_turn script lines (suc place) items && all_told (take x.at lines) (take k script)) there

-- what stands behind these items doesn't matter
turn_longer : (script more : List Line) (lines : List Outcome) (place : ℕ) (items : List Item) → place + length items ≤ length script → are_in_turn (script ++ more) lines place items ≡ are_in_turn script lines place items
turn_longer script more lines place [] le = refl
turn_longer script more lines place (item ∷ items) le =
    ap (λ (l : List Line). all_told (take item.at lines) l && are_in_turn (script ++ more) lines (suc place) items) (take-append-le place script more (omega (arith, le)))
    ∙ ap (λ (b : Bool). all_told (take item.at lines) (take place script) && b) (turn_longer script more lines (suc place) items (omega (arith, le)))

turns_same : (given : Given) (lines : List Outcome) (line : Line) → are_in_turn (script_of (with_item given line (length lines))) lines 0 (given.items ++ record { line = line; at = length lines } ∷ []) ≡ (are_in_turn (script_of given) lines 0 given.items && all_told lines (script_of given))
turns_same given lines line =
    let count : length given.items ≡ length (script_of given) = sym (length-map given.items (λ (item : Item). item.line)) in
    let all : 0 + length given.items ≡ length (script_of given) = omega (arith, count) in
    ap (λ (l : List Line). are_in_turn l lines 0 (given.items ++ record { line = line; at = length lines } ∷ [])) (one_more given line (length lines))
    ∙ turn_push (script_of given ++ line ∷ []) lines 0 given.items (record { line = line; at = length lines })
    ∙ ap (λ (b : Bool). b && all_told (take (length lines) lines) (take (0 + length given.items) (script_of given ++ line ∷ []))) (turn_longer (script_of given) (line ∷ []) lines 0 given.items (omega (arith, count)))
    ∙ ap (λ (l : List Outcome). are_in_turn (script_of given) lines 0 given.items && all_told l (take (0 + length given.items) (script_of given ++ line ∷ []))) (take-length lines)
    ∙ ap (λ (l : List Line). are_in_turn (script_of given) lines 0 given.items && all_told lines l) (ap (λ (k : ℕ). take k (script_of given ++ line ∷ [])) all ∙ take-append_seam (script_of given) (line ∷ []))

pub turns_on : TurnsOn
turns_on given lines line = (
  λ h.
      let both_so : (are_in_turn (script_of given) lines 0 given.items && all_told lines (script_of given)) ≡ true = sym (turns_same given lines line) ∙ h in
      (first_true (are_in_turn (script_of given) lines 0 given.items) (all_told lines (script_of given)) both_so, last_true (are_in_turn (script_of given) lines 0 given.items) (all_told lines (script_of given)) both_so),
  λ h. turns_same given lines line ∙ both (are_in_turn (script_of given) lines 0 given.items) (all_told lines (script_of given)) h.0 h.1,
)

turn_over : (script : List Line) (lines more : List Outcome) (place : ℕ) (items : List Item) → AllByRecursion (λ item. item.at ≤ length lines) items → are_in_turn script (lines ++ more) place items ≡ are_in_turn script lines place items
turn_over script lines more place [] stood = refl
turn_over script lines more place (item ∷ items) stood =
    ap (λ (l : List Outcome). all_told l (take place script) && are_in_turn script (lines ++ more) (suc place) items) (take-append-le item.at lines more stood.0)
    ∙ ap (λ (b : Bool). all_told (take item.at lines) (take place script) && b) (turn_over script lines more (suc place) items stood.1)

pub turns_stay : TurnsStay
turns_stay given lines more stood = (λ h. sym (turn_over (script_of given) lines more 0 given.items stood) ∙ h, λ h. turn_over (script_of given) lines more 0 given.items stood ∙ h)

-- Scripts without pluses.

none_filtered : {X : Type 0} (p q : X → Bool) (xs : List X) → list_any p xs ≡ false → list_any p (filter q xs) ≡ false
none_filtered p q [] h = refl
none_filtered p q (x ∷ xs) h = elim (q x) as (λ b. list_any p (cond b (x ∷ filter q xs) (filter q xs)) ≡ false) [
  | true ↦ ap (λ (b : Bool). b || list_any p (filter q xs)) (first_false (p x) (list_any p xs) h) ∙ none_filtered p q xs (last_false (p x) (list_any p xs) h)
  | false ↦ none_filtered p q xs (last_false (p x) (list_any p xs) h)
]

none_taken : {X : Type 0} (p : X → Bool) (n : ℕ) (xs : List X) → list_any p xs ≡ false → list_any p (take n xs) ≡ false
none_taken p n xs h = first_false (list_any p (take n xs)) (list_any p (drop n xs)) (sym (list_any-append p (take n xs) (drop n xs)) ∙ ap (list_any p) (take-append-drop n xs) ∙ h)

all_met_unplussed : (f : Subject → ℕ → Bool) (earlier script : List Line) → list_any has_plus script ≡ false → all_met subject_asked f earlier script ≡ all_met subject_in f earlier script
all_met_unplussed f earlier [] h = refl
all_met_unplussed f earlier (line ∷ script) h =
    ap (λ (b : Bool). is_met f earlier (cond b None (subject_asked line)) && all_met subject_asked f (earlier ++ line ∷ []) script) (sym (first_false (has_plus line) (list_any has_plus script) h))
    ∙ ap (λ (b : Bool). is_met f earlier (subject_in line) && b) (all_met_unplussed f (earlier ++ line ∷ []) script (last_false (has_plus line) (list_any has_plus script) h))

begun_in_turn : (S : List Line) (lines : List Outcome) (place : ℕ) (items : List Item) → list_any has_plus S ≡ false → are_in_turn (map with_plus S) lines place items ≡ are_begun S lines place items
begun_in_turn S lines place [] none = refl
begun_in_turn S lines place (item ∷ items) none =
    let here : all_told (take item.at lines) (take place (map with_plus S)) ≡ is_begun S (take item.at lines) place =
    ap (all_told (take item.at lines)) (take_plus place S) ∙ all_met_plus (has_told (take item.at lines)) [] (take place S) ∙ all_met_unplussed (has_told (take item.at lines)) [] (take place S) (none_taken has_plus place S none) in
    ap (λ (b : Bool). b && are_in_turn (map with_plus S) lines (suc place) items) here
    ∙ ap (λ (b : Bool). is_begun S (take item.at lines) place && b) (begun_in_turn S lines (suc place) items none)

pub gives_in_turn : GivesInTurn
gives_in_turn script given lines gives none =
    ap (λ (l : List Line). are_in_turn l lines 0 given.items) gives.items
    ∙ begun_in_turn (without_steps script) lines 0 given.items (none_filtered has_plus is_item script none) ∙ gives.begun

-- Completeness.

need_steps : (geo : Geometry) (line : Line) → is_item line ≡ false → need_of geo line ≡ 0
need_steps geo (CallLine plus client call) h = absurd cc
need_steps geo (JobLine plus job) h = absurd cc
need_steps geo (Steps actor count) h = refl
need_steps geo (StepTo actor kind) h = refl
need_steps geo (EventLine event) h = absurd cc

need_plus : (geo : Geometry) (line : Line) → need_of geo (with_plus line) ≡ need_of geo line
need_plus geo (CallLine plus client call) = refl
need_plus geo (JobLine plus job) = refl
need_plus geo (Steps actor count) = refl
need_plus geo (StepTo actor kind) = refl
need_plus geo (EventLine event) = refl

pub space_same : (geo : Geometry) (script : List Line) → space_needed geo (map with_plus (without_steps script)) ≡ space_needed geo script
space_same geo [] = refl
space_same geo (line ∷ script) = elim (is_item line) as (λ b. is_item line ≡ b → sum (map (need_of geo) (map with_plus (cond b (line ∷ filter is_item script) (filter is_item script)))) ≡ space_needed geo (line ∷ script)) [
  | true ↦ λ e. sum_by-cons (λ k. k) (need_of geo (with_plus line)) (map (need_of geo) (map with_plus (without_steps script))) ∙ rest (need_of geo (with_plus line)) (need_plus geo line) (space_same geo script)
  | false ↦ λ e. space_same geo script ∙ none (need_steps geo line e)
] refl
  where
    whole : space_needed geo (line ∷ script) ≡ need_of geo line + space_needed geo script
    whole = sum_by-cons (λ k. k) (need_of geo line) (map (need_of geo) script)

    rest : (k : ℕ) → k ≡ need_of geo line → space_needed geo (map with_plus (without_steps script)) ≡ space_needed geo script → k + space_needed geo (map with_plus (without_steps script)) ≡ space_needed geo (line ∷ script)
    rest k is same = omega (arith, whole, is, same)

    none : need_of geo line ≡ 0 → space_needed geo script ≡ space_needed geo (line ∷ script)
    none is = omega (arith, whole, is)

-- a test that a plus doesn't change
none_plussed : (p : Line → Bool) → ((line : Line) → p (with_plus line) ≡ p line) → (script : List Line) → list_any p script ≡ false → list_any p (map with_plus script) ≡ false
none_plussed p same [] h = refl
none_plussed p same (line ∷ script) h =
    ap (λ (b : Bool). b || list_any p (map with_plus script)) (same line ∙ first_false (p line) (list_any p script) h) ∙ none_plussed p same script (last_false (p line) (list_any p script) h)

takes_plus : (line : Line) → takes_away (with_plus line) ≡ takes_away line
takes_plus (CallLine plus client call) = refl
takes_plus (JobLine plus Clean) = refl
takes_plus (JobLine plus (Rebuild server)) = refl
takes_plus (Steps actor count) = refl
takes_plus (StepTo actor kind) = refl
takes_plus (EventLine event) = refl

job_plus : (line : Line) → is_job (with_plus line) ≡ is_job line
job_plus (CallLine plus client call) = refl
job_plus (JobLine plus job) = refl
job_plus (Steps actor count) = refl
job_plus (StepTo actor kind) = refl
job_plus (EventLine event) = refl

beside_plus : (line : Line) → is_beside line ≡ false → has_plus line ≡ false
beside_plus (CallLine plus client call) h = h
beside_plus (JobLine plus job) h = absurd cc
beside_plus (Steps actor count) h = refl
beside_plus (StepTo actor kind) h = refl
beside_plus (EventLine event) h = refl

beside_job : (line : Line) → is_beside line ≡ false → is_job line ≡ false
beside_job (CallLine plus client call) h = refl
beside_job (JobLine plus job) h = absurd cc
beside_job (Steps actor count) h = refl
beside_job (StepTo actor kind) h = refl
beside_job (EventLine event) h = refl

none_weaker : (p q : Line → Bool) → ((line : Line) → p line ≡ false → q line ≡ false) → (script : List Line) → list_any p script ≡ false → list_any q script ≡ false
none_weaker p q weak [] h = refl
none_weaker p q weak (line ∷ script) h =
    ap (λ (b : Bool). b || list_any q script) (weak line (first_false (p line) (list_any p script) h)) ∙ none_weaker p q weak script (last_false (p line) (list_any p script) h)

pub lifts_complete : LiftsComplete
lifts_complete geo script given lines status gives c =
    let away : list_any takes_away script ≡ false → list_any takes_away (script_of given) ≡ false =
    λ h. ap (list_any takes_away) gives.items ∙ none_plussed takes_away takes_plus (without_steps script) (none_filtered takes_away is_item script h) in
    record {
      ends = elim c.ends as (λ _. (status ≡ 6) ⊎ (((status ≡ 0) ⊎ (status ≡ 7)) × (all_ended lines [] script ≡ true))) [
        | inl e ↦ inl e
        | inr e ↦ inr (e.0, sym (lifts_ended script given lines gives.items) ∙ (all_ended_law given lines).1 e.1)
      ];
      calm = λ h. c.calm (away h);
      ample = λ h beside fits. c.ample (away h)
          (ap (list_any is_job) gives.items ∙ none_plussed is_job job_plus (without_steps script) (none_filtered is_job is_item script (none_weaker is_beside is_job beside_job script beside)))
          (gives_in_turn script given lines gives (none_weaker is_beside has_plus beside_plus script beside))
          (omega (arith, fits, ap (space_needed geo) gives.items, space_same geo script));
    }
