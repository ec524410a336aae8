-- The bytes of a report determine its lines.
use Rattle.std.proofs.Common.{◌≡◌, ℕ, List, [], ◌∷◌, ◌++◌, refl, sym, ap, ◌∙◌, append_assoc}
use Rattle.std.proofs.lemmas.List.{append-nil}
use Rattle.zb_types.specs.declared.geometry.Geometry.{Geometry}
use Rattle.zb_types.specs.declared.lines.Outcome.{Outcome}
use Rattle.zb_claims.specs.Text.{IsOutcome, outcome_text, line_text, report_text, newline}
use Rattle.zb_laws.specs.Texts.{NoFront, FrontLines, SameLines}
use Rattle.zb_laws.proofs.Bytes.{cut}
use Rattle.zb_laws.proofs.Clean.{clean-outcome}
use Rattle.zb_laws.proofs.Lines.{small_line, outcome_injective}

pub line_cut : (geo : Geometry) (a b : Outcome) (more rest : List ℕ) → IsOutcome geo a → IsOutcome geo b → line_text a ++ more ≡ line_text b ++ rest → (a ≡ b) × (more ≡ rest)
line_cut geo a b more rest p q e =
    let parts = cut 10 (outcome_text a) (outcome_text b) more rest (clean-outcome geo a p) (clean-outcome geo b q) (sym (append_assoc (outcome_text a) newline more) ∙ e ∙ append_assoc (outcome_text b) newline rest) in
    (outcome_injective a b (small_line geo a p) (small_line geo b q) parts.0, parts.1)

pub no_front : NoFront
no_front geo a b more p q e =
    let parts = line_cut geo a b more [] p q (e ∙ sym (append-nil (line_text b))) in
    record { same = parts.0; none = parts.1 }

some_left : (xs ys rest : List ℕ) → ys ≡ newline → (xs ++ ys) ++ rest ≡ [] → ⊥
some_left [] ys rest h e = let f : 10 ∷ rest ≡ [] = sym (ap (λ (l : List ℕ). l ++ rest) h) ∙ e in absurd cc
some_left (x ∷ xs) ys rest h e = absurd cc

none_left : (line : Outcome) (rest : List ℕ) → line_text line ++ rest ≡ [] → ⊥
none_left line rest e = some_left (outcome_text line) newline rest refl e

pub front_lines : FrontLines
front_lines geo [] bs rest p q e = record { more = bs; split = refl; text = e }
front_lines geo (a ∷ lines) [] rest p q e = absurd (none_left a (report_text lines ++ rest) (sym (append_assoc (line_text a) (report_text lines) rest) ∙ e))
front_lines geo (a ∷ lines) (b ∷ bs) rest p q e =
    let parts = line_cut geo a b (report_text lines ++ rest) (report_text bs) p.0 q.0 (sym (append_assoc (line_text a) (report_text lines) rest) ∙ e) in
    let front = front_lines geo lines bs rest p.1 q.1 parts.1 in
    record { more = front.more; split = ap (λ (l : Outcome). l ∷ bs) (sym parts.0) ∙ ap (λ (l : List Outcome). a ∷ l) front.split; text = front.text }

no_lines : (lines : List Outcome) → [] ≡ report_text lines → lines ≡ []
no_lines [] e = refl
no_lines (line ∷ lines) e = absurd (none_left line (report_text lines) (sym e))

pub same_lines : SameLines
same_lines geo lines bs p q e =
    let front = front_lines geo lines bs [] p q (append-nil (report_text lines) ∙ e) in
    sym (front.split ∙ ap (λ (l : List Outcome). lines ++ l) (no_lines front.more front.text) ∙ append-nil lines)
