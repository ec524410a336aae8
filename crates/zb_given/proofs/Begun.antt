-- What was begun stays so, and step lines don't count.
use Rattle.std.proofs.Common.{◌≡◌, ℕ, ◌+◌, ◌≤◌, true, ◌&&◌, List, [], ◌∷◌, ◌++◌, length, take, drop, refl, sym, ap, subst, ◌∙◌, arith}
use Rattle.std.specs.Prelude.{filter, nat_le}
use Rattle.std.proofs.lemmas.List.{length-append, take-append-le, take-append-drop}
use Rattle.std.proofs.lemmas.List.Elements.{filter-append}
use Rattle.std.proofs.Math.Seq.{take-length}
use Rattle.zb_types.specs.declared.lines.Line.{Line}
use Rattle.zb_types.specs.declared.lines.Outcome.{Outcome}
use Rattle.zb_claims.specs.Points.{Subject, calls, cleans, rebuilds, crashes, arms, ups, loses, checkpoints, same_subject, subject_of, told_of, names, has_told, subject_in, is_met, all_answered, is_begun}
use Rattle.zb_laws.proofs.Tests.{both, any_more}
use Rattle.zb_given.specs.Gives.{without_steps}
use Rattle.zb_given.proofs.Small.{nat_le_yes, nat_le_is}
use Rattle.zb_given.proofs.StepLines.{step_waits}
use Rattle.zb_given.proofs.AllMet.{all_met_more, all_met_append, all_met_steps}

-- More lines.

told_longer : (s : Subject) (xs ys : List Outcome) (n : ℕ) → nat_le n (told_of s xs) ≡ true → nat_le n (told_of s (xs ++ ys)) ≡ true
told_longer s xs ys n h =
    let parts : told_of s (xs ++ ys) ≡ told_of s xs + told_of s ys = ap length (filter-append (λ line. same_subject s (subject_of line)) xs ys) ∙ length-append (filter (λ line. same_subject s (subject_of line)) xs) (filter (λ line. same_subject s (subject_of line)) ys) in
    nat_le_yes n (told_of s (xs ++ ys)) (omega (arith, nat_le_is n (told_of s xs) h, parts))

pub has_told_more : (xs ys : List Outcome) (s : Subject) (n : ℕ) → has_told xs s n ≡ true → has_told (xs ++ ys) s n ≡ true
has_told_more xs ys (calls client) n h = any_more (names client n) xs ys h
has_told_more xs ys cleans n h = told_longer cleans xs ys n h
has_told_more xs ys (rebuilds i) n h = told_longer (rebuilds i) xs ys n h
has_told_more xs ys (crashes node) n h = told_longer (crashes node) xs ys n h
has_told_more xs ys (arms node) n h = told_longer (arms node) xs ys n h
has_told_more xs ys (ups node) n h = told_longer (ups node) xs ys n h
has_told_more xs ys (loses i) n h = told_longer (loses i) xs ys n h
has_told_more xs ys checkpoints n h = told_longer checkpoints xs ys n h

pub begun_lines : (script : List Line) (lines more : List Outcome) (place : ℕ) → is_begun script lines place ≡ true → is_begun script (lines ++ more) place ≡ true
begun_lines script lines more place h = all_met_more subject_in (has_told lines) (has_told (lines ++ more)) (has_told_more lines more) [] (take place script) h

-- what was begun where so many lines stood was begun behind them
pub begun_since : (script : List Line) (lines front rest : List Outcome) (at place : ℕ) → lines ≡ front ++ rest → at ≤ length front → is_begun script (take at lines) place ≡ true → is_begun script front place ≡ true
begun_since script lines front rest at place split le h =
    let same : take at lines ≡ take at front = ap (take at) split ∙ take-append-le at front rest le in
    subst (λ (l : List Outcome). is_begun script l place ≡ true) (take-append-drop at front)
    (begun_lines script (take at front) (drop at front) place (subst (λ (l : List Outcome). is_begun script l place ≡ true) same h))

-- More of the script.

pub begun_whole : (script : List Line) (lines : List Outcome) → is_begun script lines (length script) ≡ all_answered lines [] script
begun_whole script lines = ap (all_answered lines []) (take-length script)

pub begun_longer : (script more : List Line) (lines : List Outcome) (place : ℕ) → place ≤ length script → is_begun (script ++ more) lines place ≡ is_begun script lines place
begun_longer script more lines place le = ap (λ (s : List Line). all_answered lines [] s) (take-append-le place script more le)

-- the script is begun to its end where it was before its last line, and what that waits for is there
pub begun_row : (script : List Line) (lines : List Outcome) (line : Line) → is_begun script lines (length script) ≡ true → is_met (has_told lines) script (subject_in line) ≡ true → is_begun (script ++ line ∷ []) lines (length (script ++ line ∷ [])) ≡ true
begun_row script lines line h there =
    begun_whole (script ++ line ∷ []) lines ∙ all_met_append subject_in (has_told lines) [] script (line ∷ [])
    ∙ both (all_answered lines [] script) (is_met (has_told lines) script (subject_in line) && true) (sym (begun_whole script lines) ∙ h) (both (is_met (has_told lines) script (subject_in line)) true there refl)

-- Step lines.

pub answered_steps : (lines : List Outcome) (script : List Line) → all_answered lines [] script ≡ all_answered lines [] (without_steps script)
answered_steps lines script = all_met_steps subject_in (has_told lines) step_waits [] script

pub begun_steps : (script : List Line) (lines : List Outcome) → is_begun (without_steps script) lines (length (without_steps script)) ≡ is_begun script lines (length script)
begun_steps script lines = begun_whole (without_steps script) lines ∙ sym (answered_steps lines script) ∙ sym (begun_whole script lines)
