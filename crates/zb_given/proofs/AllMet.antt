-- What each line of a script asks for is there, whatever is asked for and whatever is there.
use Rattle.std.proofs.Common.{◌≡◌, ℕ, suc, ◌+◌, ◌<◌, ◌≤◌, Bool, true, false, cond, ◌&&◌, List, [], ◌∷◌, ◌++◌, length, Option, Some, None, refl, sym, ap, subst, ◌∙◌, append_assoc, arith, inl, inr}
use Rattle.std.specs.Prelude.{map, filter}
use Rattle.std.proofs.lemmas.List.{append-nil, length-append, map-append}
use Rattle.std.proofs.lemmas.List.Elements.{filter-append}
use Rattle.std.proofs.Math.Bool.{and_assoc}
use Rattle.zb_types.specs.declared.lines.Line.{Line}
use Rattle.zb_claims.specs.Points.{Subject, is_about, asked_of, subject_asked, is_met, all_met}
use Rattle.zb_laws.proofs.Tests.{both, first_true, last_true, at_or_below}
use Rattle.zb_given.specs.Gives.{is_item, without_steps, with_plus}
use Rattle.zb_given.proofs.Subjects.{asks_about, about_asks}
use Rattle.zb_given.proofs.StepLines.{asked_of_steps, steps_push, steps_same}
use Rattle.zb_given.proofs.Plus.{plus_asks, asked_of_plus}

-- what was asked before counts alone
met_by : (f : Subject → ℕ → Bool) (a b : List Line) (o : Option Subject) → ((s : Subject) → asked_of s a ≡ asked_of s b) → is_met f a o ≡ is_met f b o
met_by f a b None same = refl
met_by f a b (Some s) same = ap (λ k. f s (suc k)) (same s)

met_more : (f g : Subject → ℕ → Bool) → ((s : Subject) (n : ℕ) → f s n ≡ true → g s n ≡ true) → (earlier : List Line) (o : Option Subject) → is_met f earlier o ≡ true → is_met g earlier o ≡ true
met_more f g more earlier None h = refl
met_more f g more earlier (Some s) h = more s (suc (asked_of s earlier)) h

pub all_met_more : (asks : Line → Option Subject) (f g : Subject → ℕ → Bool) → ((s : Subject) (n : ℕ) → f s n ≡ true → g s n ≡ true) → (earlier script : List Line) → all_met asks f earlier script ≡ true → all_met asks g earlier script ≡ true
all_met_more asks f g more earlier [] h = refl
all_met_more asks f g more earlier (line ∷ script) h =
    both (is_met g earlier (asks line)) (all_met asks g (earlier ++ line ∷ []) script)
    (met_more f g more earlier (asks line) (first_true (is_met f earlier (asks line)) (all_met asks f (earlier ++ line ∷ []) script) h))
    (all_met_more asks f g more (earlier ++ line ∷ []) script (last_true (is_met f earlier (asks line)) (all_met asks f (earlier ++ line ∷ []) script) h))

pub all_met_append : (asks : Line → Option Subject) (f : Subject → ℕ → Bool) (earlier script more : List Line) → all_met asks f earlier (script ++ more) ≡ (all_met asks f earlier script && all_met asks f (earlier ++ script) more)
all_met_append asks f earlier [] more = ap (λ (e : List Line). all_met asks f e more) (sym (append-nil earlier))
all_met_append asks f earlier (line ∷ script) more =
    ap (λ (b : Bool). is_met f earlier (asks line) && b) (all_met_append asks f (earlier ++ line ∷ []) script more)
    ∙ sym (and_assoc (is_met f earlier (asks line)) (all_met asks f (earlier ++ line ∷ []) script) (all_met asks f ((earlier ++ line ∷ []) ++ script) more))
    ∙ ap (λ (e : List Line). is_met f earlier (asks line) && all_met asks f (earlier ++ line ∷ []) script && all_met asks f e more) (append_assoc earlier (line ∷ []) script)

pub all_met_steps : (asks : Line → Option Subject) (f : Subject → ℕ → Bool) → ((line : Line) → is_item line ≡ false → asks line ≡ None) → (earlier script : List Line) → all_met asks f earlier script ≡ all_met asks f (without_steps earlier) (without_steps script)
all_met_steps asks f none earlier [] = refl
all_met_steps asks f none earlier (line ∷ script) =
    elim (is_item line) as (λ b. is_item line ≡ b → (is_met f earlier (asks line) && all_met asks f (earlier ++ line ∷ []) script) ≡ all_met asks f (without_steps earlier) (cond b (line ∷ filter is_item script) (filter is_item script))) [
      | true ↦ λ e.
          ap (λ (b : Bool). b && all_met asks f (earlier ++ line ∷ []) script) (met_by f earlier (without_steps earlier) (asks line) (λ s. sym (asked_of_steps s earlier)))
          ∙ ap (λ (b : Bool). is_met f (without_steps earlier) (asks line) && b)
          (all_met_steps asks f none (earlier ++ line ∷ []) script ∙ ap (λ (l : List Line). all_met asks f l (without_steps script)) (steps_push earlier line e))
      | false ↦ λ e.
          ap (λ (o : Option Subject). is_met f earlier o && all_met asks f (earlier ++ line ∷ []) script) (none line e)
          ∙ all_met_steps asks f none (earlier ++ line ∷ []) script ∙ ap (λ (l : List Line). all_met asks f l (without_steps script)) (steps_same earlier line e)
    ] refl

pub all_met_plus : (f : Subject → ℕ → Bool) (earlier script : List Line) → all_met subject_asked f (map with_plus earlier) (map with_plus script) ≡ all_met subject_asked f earlier script
all_met_plus f earlier [] = refl
all_met_plus f earlier (line ∷ script) =
    ap (λ (o : Option Subject). is_met f (map with_plus earlier) o && all_met subject_asked f (map with_plus earlier ++ with_plus line ∷ []) (map with_plus script)) (plus_asks line)
    ∙ ap (λ (b : Bool). b && all_met subject_asked f (map with_plus earlier ++ with_plus line ∷ []) (map with_plus script)) (met_by f (map with_plus earlier) earlier (subject_asked line) (λ s. asked_of_plus s earlier))
    ∙ ap (λ (b : Bool). is_met f earlier (subject_asked line) && b)
    (ap (λ (e : List Line). all_met subject_asked f e (map with_plus script)) (sym (map-append with_plus earlier (line ∷ []))) ∙ all_met_plus f (earlier ++ line ∷ []) script)

-- By subject.

asked_of_push : (s : Subject) (earlier : List Line) (line : Line) → asked_of s (earlier ++ line ∷ []) ≡ asked_of s earlier + length (cond (is_about s line) (line ∷ []) [])
asked_of_push s earlier line = ap length (filter-append (is_about s) earlier (line ∷ [])) ∙ length-append (filter (is_about s) earlier) (cond (is_about s line) (line ∷ []) [])

pub asked_of_one : (s : Subject) (earlier : List Line) (line : Line) → is_about s line ≡ true → asked_of s (earlier ++ line ∷ []) ≡ suc (asked_of s earlier)
asked_of_one s earlier line is = omega (arith, asked_of_push s earlier line, ap (λ (b : Bool). length (cond b (line ∷ []) [])) is)

pub asked_of_none : (s : Subject) (earlier : List Line) (line : Line) → is_about s line ≡ false → asked_of s (earlier ++ line ∷ []) ≡ asked_of s earlier
asked_of_none s earlier line is = omega (arith, asked_of_push s earlier line, ap (λ (b : Bool). length (cond b (line ∷ []) [])) is)

pub asked_of_append : (s : Subject) (a b : List Line) → asked_of s (a ++ b) ≡ asked_of s a + asked_of s b
asked_of_append s a b = ap length (filter-append (is_about s) a b) ∙ length-append (filter (is_about s) a) (filter (is_about s) b)

-- the numbers of these lines of a subject, behind those of earlier ones
abbrev pub Each : (Subject → ℕ → Bool) → List Line → List Line → Type 0
Each f earlier script = (s : Subject) (n : ℕ) → asked_of s earlier < n → n ≤ asked_of s (earlier ++ script) → f s n ≡ true

pub each_met : (f : Subject → ℕ → Bool) (earlier script : List Line) → all_met subject_asked f earlier script ≡ true → Each f earlier script
each_met f earlier [] h s n low high = absurd (omega (arith, low, high, ap (asked_of s) (append-nil earlier)))
each_met f earlier (line ∷ script) h s n low high =
    by_test (is_about s line) refl (each_met f (earlier ++ line ∷ []) script (last_true (is_met f earlier (subject_asked line)) (all_met subject_asked f (earlier ++ line ∷ []) script) h) s n)
  where
    high_on : n ≤ asked_of s ((earlier ++ line ∷ []) ++ script)
    high_on = omega (arith, high, ap (asked_of s) (append_assoc earlier (line ∷ []) script))

    first : is_about s line ≡ true → f s (suc (asked_of s earlier)) ≡ true
    first is = subst (λ (o : Option Subject). is_met f earlier o ≡ true) (about_asks line s is) (first_true (is_met f earlier (subject_asked line)) (all_met subject_asked f (earlier ++ line ∷ []) script) h)

    by_test : (b : Bool) → is_about s line ≡ b → (asked_of s (earlier ++ line ∷ []) < n → n ≤ asked_of s ((earlier ++ line ∷ []) ++ script) → f s n ≡ true) → f s n ≡ true
    by_test true is rest = elim (at_or_below (suc (asked_of s earlier)) n low) as (λ _. f s n ≡ true) [
      | inl e ↦ ap (f s) (sym e) ∙ first is
      | inr lt ↦ rest (omega (arith, lt, asked_of_one s earlier line is)) high_on
    ]
    by_test false is rest = rest (omega (arith, low, asked_of_none s earlier line is)) high_on

pub met_each : (f : Subject → ℕ → Bool) (earlier script : List Line) → Each f earlier script → all_met subject_asked f earlier script ≡ true
met_each f earlier [] each = refl
met_each f earlier (line ∷ script) each =
    both (is_met f earlier (subject_asked line)) (all_met subject_asked f (earlier ++ line ∷ []) script) (here (subject_asked line) refl)
    (met_each f (earlier ++ line ∷ []) script (λ s n low high. each s n
    (omega (arith, low, asked_of_append s earlier (line ∷ [])))
    (omega (arith, high, ap (asked_of s) (append_assoc earlier (line ∷ []) script)))))
  where
    here : (o : Option Subject) → subject_asked line ≡ o → is_met f earlier o ≡ true
    here None e = refl
    here (Some s) e = each s (suc (asked_of s earlier)) (omega arith)
        (omega (arith, asked_of_one s earlier line (asks_about line s e), ap (asked_of s) (append_assoc earlier (line ∷ []) script), asked_of_append s (earlier ++ line ∷ []) script))
