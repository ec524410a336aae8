-- Step lines ask for nothing.
use Rattle.std.proofs.Common.{◌≡◌, Bool, true, false, cond, List, [], ◌∷◌, ◌++◌, length, None, refl, ap, ◌∙◌}
use Rattle.std.specs.Prelude.{filter}
use Rattle.std.proofs.lemmas.List.{append-nil}
use Rattle.std.proofs.lemmas.List.Elements.{filter-append}
use Rattle.zb_types.specs.declared.lines.Line.{Line}
use Rattle.zb_types.specs.declared.lines.Line.TheVariants.{Call as CallLine, Job as JobLine, Steps, StepTo, Event as EventLine}
use Rattle.zb_claims.specs.Points.{Subject, is_about, asked_of, subject_asked, subject_in}
use Rattle.zb_given.specs.Gives.{is_item, without_steps, about}

pub about_is_item : (s : Subject) (line : Line) → is_about s line ≡ true → is_item line ≡ true
about_is_item s (CallLine plus client call) h = refl
about_is_item s (JobLine plus job) h = refl
about_is_item s (Steps actor count) h = absurd cc
about_is_item s (StepTo actor kind) h = absurd cc
about_is_item s (EventLine event) h = refl

step_is_of_none : (s : Subject) (line : Line) → is_item line ≡ false → is_about s line ≡ false
step_is_of_none s (CallLine plus client call) h = absurd cc
step_is_of_none s (JobLine plus job) h = absurd cc
step_is_of_none s (Steps actor count) h = refl
step_is_of_none s (StepTo actor kind) h = refl
step_is_of_none s (EventLine event) h = absurd cc

pub about_steps : (s : Subject) (script : List Line) → about s (without_steps script) ≡ about s script
about_steps s [] = refl
about_steps s (line ∷ script) =
    elim (is_item line) as (λ b. is_item line ≡ b → filter (is_about s) (cond b (line ∷ filter is_item script) (filter is_item script)) ≡ cond (is_about s line) (line ∷ filter (is_about s) script) (filter (is_about s) script)) [
      | true ↦ λ e. ap (λ (l : List Line). cond (is_about s line) (line ∷ l) l) (about_steps s script)
      | false ↦ λ e. rw (step_is_of_none s line e) (about_steps s script)
    ] refl

pub asked_of_steps : (s : Subject) (script : List Line) → asked_of s (without_steps script) ≡ asked_of s script
asked_of_steps s script = ap length (about_steps s script)

pub steps_push : (script : List Line) (line : Line) → is_item line ≡ true → without_steps (script ++ line ∷ []) ≡ without_steps script ++ line ∷ []
steps_push script line is = filter-append is_item script (line ∷ []) ∙ ap (λ (b : Bool). without_steps script ++ cond b (line ∷ []) []) is

pub steps_same : (script : List Line) (line : Line) → is_item line ≡ false → without_steps (script ++ line ∷ []) ≡ without_steps script
steps_same script line is = filter-append is_item script (line ∷ []) ∙ ap (λ (b : Bool). without_steps script ++ cond b (line ∷ []) []) is ∙ append-nil (without_steps script)

pub steps_twice : (script : List Line) → without_steps (without_steps script) ≡ without_steps script
steps_twice [] = refl
steps_twice (line ∷ script) =
    elim (is_item line) as (λ b. is_item line ≡ b → filter is_item (cond b (line ∷ filter is_item script) (filter is_item script)) ≡ cond b (line ∷ filter is_item script) (filter is_item script)) [
      | true ↦ λ e. rw e (ap (λ (l : List Line). line ∷ l) (steps_twice script))
      | false ↦ λ e. steps_twice script
    ] refl

pub step_asks : (line : Line) → is_item line ≡ false → subject_asked line ≡ None
step_asks (CallLine plus client call) h = absurd cc
step_asks (JobLine plus job) h = absurd cc
step_asks (Steps actor count) h = refl
step_asks (StepTo actor kind) h = refl
step_asks (EventLine event) h = absurd cc

pub step_waits : (line : Line) → is_item line ≡ false → subject_in line ≡ None
step_waits (CallLine plus client call) h = absurd cc
step_waits (JobLine plus job) h = absurd cc
step_waits (Steps actor count) h = refl
step_waits (StepTo actor kind) h = refl
step_waits (EventLine event) h = absurd cc
