-- What printing lines of a report leaves.
use Rattle.std.proofs.Common.{◌≡◌, ℕ, suc, ◌+◌, List, [], ◌∷◌, ◌++◌, length, take, Result, Ok, Err, refl, sym, ap, ◌∙◌, append_assoc, arith}
use Rattle.std.specs.Prelude.{MatchResult}
use Rattle.std.proofs.lemmas.List.{append-nil}
use Rattle.zb_types.specs.declared.lines.Outcome.{Outcome}
use Rattle.zb_claims.specs.Text.{report_text, line_text}
use Rattle.zb_outside.specs.Meaning.{Meaning}
use Rattle.zb_outside.specs.Streams.{Streams, PutTold}
use Rattle.zb_course.specs.Seen.{SeenCourse}
use Rattle.zebra.specs.declared.ending.Halted.{Halted}
use Rattle.zebra.specs.declared.ending.Halted.TheVariants.{Memory, ReadFault, WriteFault}
use Rattle.zebra.specs.Moves.{IsPrinted, IsCut, PrintsUntil}

pub report_text-append : (xs ys : List Outcome) → report_text (xs ++ ys) ≡ report_text xs ++ report_text ys
report_text-append [] ys = refl
report_text-append (x ∷ xs) ys = ap (λ b. line_text x ++ b) (report_text-append xs ys) ∙ sym (append_assoc (line_text x) (report_text xs) (report_text ys))

no_more : (k : ℕ) → 0 + k ≡ k
no_more k = omega arith

one_more : (n k : ℕ) → suc n + k ≡ suc (n + k)
one_more n k = omega arith

pub take_front : {A : Type 0} (xs ys : List A) (k : ℕ) → take (length xs + k) (xs ++ ys) ≡ xs ++ take k ys
take_front [] ys k = ap (λ n. take n ys) (no_more k)
take_front {A = A} (x ∷ xs) ys k = ap (λ n. take n (x ∷ (xs ++ ys))) (one_more (length xs) k) ∙ ap (λ (l : List A). x ∷ l) (take_front xs ys k)

-- nothing waits, and more lines have no text
pub silent : (start : List ℕ) (lines more : List Outcome) (old new : SeenCourse) (printed : List ℕ) → IsPrinted start lines old printed → new.text ≡ old.text ++ report_text more → new.text ≡ old.text → IsPrinted start (lines ++ more) new printed
silent start lines more old new printed h text same =
    let none : report_text more ≡ [] = ap (λ (b : List ℕ). b ++ report_text more) (sym h.none) ∙ sym text ∙ same ∙ h.none in
    record {
      none = same ∙ h.none;
      text = h.text ∙ ap (λ (b : List ℕ). start ++ b) (sym (append-nil (report_text lines)) ∙ ap (λ (b : List ℕ). report_text lines ++ b) (sym none) ∙ sym (report_text-append lines more));
    }

-- a put of the text of more lines, and what was printed before
pub puts : {T E : Type 0} (start : List ℕ) (lines more : List Outcome) (old new end : SeenCourse) (result : Result T E) (before after : Streams) (m k : Meaning) → IsPrinted start lines old m.now.printed → new.text ≡ old.text ++ report_text more → end.text ≡ []
    → PutTold new.text result before after m k → MatchResult result (λ _. IsPrinted start (lines ++ more) end k.now.printed) (λ _. IsCut start (lines ++ more) k.now.printed)
puts {T} {E} start lines more old new end (Ok x) before after m k h text none told = record {
  none = none;
  text = told.printed ∙ ap (λ (b : List ℕ). m.now.printed ++ b) (text ∙ ap (λ (b : List ℕ). b ++ report_text more) h.none) ∙ ap (λ (b : List ℕ). b ++ report_text more) h.text
      ∙ append_assoc start (report_text lines) (report_text more) ∙ ap (λ b. start ++ b) (sym (report_text-append lines more));
}
puts {T} {E} start lines more old new end (Err e) before after m k h text none told = (
  length (report_text lines) + told.printed.0,
  told.printed.1 ∙ ap (λ (b : List ℕ). m.now.printed ++ take told.printed.0 b) (text ∙ ap (λ (b : List ℕ). b ++ report_text more) h.none)
      ∙ ap (λ (b : List ℕ). b ++ take told.printed.0 (report_text more)) h.text ∙ append_assoc start (report_text lines) (take told.printed.0 (report_text more))
      ∙ ap (λ b. start ++ b) (sym (take_front (report_text lines) (report_text more) told.printed.0))
      ∙ ap (λ b. start ++ take (length (report_text lines) + told.printed.0) b) (sym (report_text-append lines more)),
)

take_own : {A : Type 0} (xs : List A) → take (length xs) xs ≡ xs
take_own [] = refl
take_own {A = A} (x ∷ xs) = ap (λ (l : List A). x ∷ l) (take_own xs)

pub until_whole : (halted : Halted) (start : List ℕ) (lines : List Outcome) (printed : List ℕ) → printed ≡ start ++ report_text lines → PrintsUntil halted start lines printed
until_whole Memory start lines printed text = text
until_whole ReadFault start lines printed text = text
until_whole WriteFault start lines printed text = (length (report_text lines), text ∙ ap (λ b. start ++ b) (sym (take_own (report_text lines))))
