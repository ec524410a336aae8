-- Lines with a plus.
use Rattle.std.proofs.Common.{◌≡◌, ℕ, zero, suc, Bool, true, false, cond, eqb, List, [], ◌∷◌, length, take, Option, Some, None, refl, sym, ap, ◌∙◌}
use Rattle.std.specs.Prelude.{map, filter}
use Rattle.zb_types.specs.declared.lines.Line.{Line}
use Rattle.zb_types.specs.declared.lines.Line.TheVariants.{Call as CallLine, Job as JobLine, Steps, StepTo, Event as EventLine}
use Rattle.zb_types.specs.declared.lines.Job.TheVariants.{Clean, Rebuild}
use Rattle.zb_claims.specs.Points.{Subject, is_about, asked_of, asked_from, asked, subject_asked}
use Rattle.zb_given.specs.Gives.{with_plus, about}
use Rattle.zb_given.proofs.Asking.{asked_zero, asked_cons, about_plus, plus_twice}

pub plus_asks : (line : Line) → subject_asked (with_plus line) ≡ subject_asked line
plus_asks (CallLine plus client call) = refl
plus_asks (JobLine plus Clean) = refl
plus_asks (JobLine plus (Rebuild server)) = refl
plus_asks (Steps actor count) = refl
plus_asks (StepTo actor kind) = refl
plus_asks (EventLine event) = refl

pub plus_about : (s : Subject) (script : List Line) → map with_plus (about s (map with_plus script)) ≡ map with_plus (about s script)
plus_about s [] = refl
plus_about s (line ∷ script) =
    ap (λ (b : Bool). map with_plus (cond b (with_plus line ∷ filter (is_about s) (map with_plus script)) (filter (is_about s) (map with_plus script)))) (about_plus s line)
    ∙ elim (is_about s line) as (λ b. map with_plus (cond b (with_plus line ∷ filter (is_about s) (map with_plus script)) (filter (is_about s) (map with_plus script))) ≡ map with_plus (cond b (line ∷ filter (is_about s) script) (filter (is_about s) script))) [
      | true ↦ ap (λ (l : Line). l ∷ map with_plus (about s (map with_plus script))) (plus_twice line) ∙ ap (λ (l : List Line). with_plus line ∷ l) (plus_about s script)
      | false ↦ plus_about s script
    ]

pub asked_of_plus : (s : Subject) (script : List Line) → asked_of s (map with_plus script) ≡ asked_of s script
asked_of_plus s [] = refl
asked_of_plus s (line ∷ script) =
    ap (λ (b : Bool). length (cond b (with_plus line ∷ filter (is_about s) (map with_plus script)) (filter (is_about s) (map with_plus script)))) (about_plus s line)
    ∙ elim (is_about s line) as (λ b. length (cond b (with_plus line ∷ filter (is_about s) (map with_plus script)) (filter (is_about s) (map with_plus script))) ≡ length (cond b (line ∷ filter (is_about s) script) (filter (is_about s) script))) [
      | true ↦ ap suc (asked_of_plus s script)
      | false ↦ asked_of_plus s script
    ]

pub take_plus : (n : ℕ) (script : List Line) → take n (map with_plus script) ≡ map with_plus (take n script)
take_plus zero script = refl
take_plus (suc n) [] = refl
take_plus (suc n) (line ∷ script) = ap (λ (l : List Line). with_plus line ∷ l) (take_plus n script)

abbrev place_found : Option (ℕ × Line) → Option ℕ
place_found None = None
place_found (Some found) = Some found.0

places_same : (base : ℕ) (s : Subject) (n : ℕ) (script : List Line) → place_found (asked_from base s n (map with_plus script)) ≡ place_found (asked_from base s n script)
places_same base s zero script = ap place_found (asked_zero base s (map with_plus script)) ∙ ap place_found (sym (asked_zero base s script))
places_same base s (suc n) [] = refl
places_same base s (suc n) (line ∷ script) =
    ap place_found (asked_cons base s n (with_plus line) (map with_plus script))
    ∙ ap (λ (b : Bool). place_found (cond b (cond (eqb n 0) (Some (base, with_plus line)) (asked_from (suc base) s n (map with_plus script))) (asked_from (suc base) s (suc n) (map with_plus script)))) (about_plus s line)
    ∙ elim (is_about s line) as (λ b. place_found (cond b (cond (eqb n 0) (Some (base, with_plus line)) (asked_from (suc base) s n (map with_plus script))) (asked_from (suc base) s (suc n) (map with_plus script))) ≡ place_found (cond b (cond (eqb n 0) (Some (base, line)) (asked_from (suc base) s n script)) (asked_from (suc base) s (suc n) script))) [
      | true ↦ elim (eqb n 0) as (λ b. place_found (cond b (Some (base, with_plus line)) (asked_from (suc base) s n (map with_plus script))) ≡ place_found (cond b (Some (base, line)) (asked_from (suc base) s n script))) [
        | true ↦ refl
        | false ↦ places_same (suc base) s n script
      ]
      | false ↦ places_same (suc base) s (suc n) script
    ]
    ∙ ap place_found (sym (asked_cons base s n line script))

pub same_place : (s : Subject) (n : ℕ) (script : List Line) (j place : ℕ) (l line : Line) → asked (map with_plus script) s n ≡ Some (j, l) → asked script s n ≡ Some (place, line) → j ≡ place
same_place s n script j place l line a b =
    let e : Some j ≡ Some place = sym (ap place_found a) ∙ places_same 0 s n script ∙ ap place_found b in cc
