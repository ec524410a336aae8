-- Lists, fronts of lines, and the updates that they have.
use Rattle.std.proofs.Common.{◌≡◌, ℕ, zero, suc, ◌≤◌, List, [], ◌∷◌, ◌++◌, length, take, drop, Option, Some, None, refl, sym, ap, subst, ◌∙◌, append_assoc, arith}
use Rattle.std.specs.Prelude.{slice_get, slice_index, replicate}
use Rattle.std.proofs.lemmas.List.{append-nil, length-append, take-append-drop}
use Rattle.std.proofs.Math.Seq.{take-append_seam}
use Rattle.zb_types.specs.declared.lines.Line.{Line}
use Rattle.zb_types.specs.declared.lines.Outcome.{Outcome}
use Rattle.zb_claims.specs.Points.{dids}
use Rattle.zb_claims.specs.Fits.{Clock, FitsNextBy, FitsFromBy}
use Rattle.zb_laws.proofs.Told.{dids-append}
use Rattle.zb_given.specs.Calls.{LookedUp}
use Rattle.zb_given.specs.Telling.{seen_by}

pub get_other : {X : Type 0} (xs : List X) (x : X) (k : ℕ) → (k ≡ length xs → ⊥) → slice_get (xs ++ x ∷ []) k ≡ slice_get xs k
get_other [] x zero other = absurd (other refl)
get_other [] x (suc k) other = refl
get_other (y ∷ xs) x zero other = refl
get_other (y ∷ xs) x (suc k) other = get_other xs x k (λ e. other (ap suc e))

pub all_zero : (count i : ℕ) → slice_index (replicate count 0) i ≡ 0
all_zero zero i = refl
all_zero (suc count) zero = refl
all_zero (suc count) (suc i) = all_zero count i

-- the last line fits those before it
last_from : (clock : Clock) (script : List Line) (before lines : List Outcome) (line : Outcome) → FitsFromBy clock script before (lines ++ line ∷ []) → FitsNextBy clock script (before ++ lines) line
last_from clock script before [] line fits = subst (λ (l : List Outcome). FitsNextBy clock script l line) (sym (append-nil before)) fits.0
last_from clock script before (x ∷ lines) line fits = subst (λ (l : List Outcome). FitsNextBy clock script l line) (append_assoc before (x ∷ []) lines) (last_from clock script (before ++ x ∷ []) lines line fits.1)

pub last_fits : (clock : Clock) (script : List Line) (lines : List Outcome) (line : Outcome) → FitsFromBy clock script [] (lines ++ line ∷ []) → FitsNextBy clock script lines line
last_fits clock script lines line fits = last_from clock script [] lines line fits

-- the lines that a read sees are a front
pub record IsFront (front lines : List Outcome) : Type 0 where
  pub rest : List Outcome
  pub split : lines ≡ front ++ rest

pub seen_front : (read : Option LookedUp) (lines : List Outcome) → IsFront (seen_by read lines) lines
seen_front None lines = record { rest = []; split = sym (append-nil lines) }
seen_front (Some read) lines = record { rest = drop read.at lines; split = sym (take-append-drop read.at lines) }

-- the updates of a front, and as many of all
pub record HasFront (script : List Line) (front lines : List Outcome) : Type 0 where
  pub few : length (dids script front) ≤ length (dids script lines)
  pub taken : take (length (dids script front)) (dids script lines) ≡ dids script front

pub front_dids : (script : List Line) (front lines : List Outcome) → IsFront front lines → HasFront script front lines
front_dids script front lines f =
    let whole : dids script lines ≡ dids script front ++ dids script f.rest = ap (dids script) f.split ∙ dids-append script front f.rest in
    record {
      few = omega (arith, ap length whole, length-append (dids script front) (dids script f.rest));
      taken = ap (take (length (dids script front))) whole ∙ take-append_seam (dids script front) (dids script f.rest);
    }
