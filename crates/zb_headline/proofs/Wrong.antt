-- What no run may do.
use Rattle.std.proofs.Common.{◌≡◌, ℕ, true, false, Bool, List, [], ◌∷◌, length, length-append, Option, Some, None, refl, sym, ap, ◌∙◌, ◌+◌, arith, inl, inr}
use Rattle.std.specs.Prelude.{◌⊎◌}
use Rattle.std.specs.List.{list_any}
use Rattle.zb_types.specs.declared.nodes.EventAnswer.TheVariants.{Done as EventDone, Stopped}
use Rattle.zb_types.specs.declared.nodes.Node.TheVariants.{Manager}
use Rattle.zb_types.specs.declared.lines.Told.TheVariants.{Arm, Up}
use Rattle.zb_types.specs.declared.lines.Mended.TheVariants.{Copied}
use Rattle.zb_types.specs.declared.lines.Outcome.{Outcome}
use Rattle.zb_types.specs.declared.lines.Outcome.TheVariants.{Rebuild as OfRebuild, Event as OfEvent}
use Rattle.zb_types.specs.declared.lines.Line.{Line}
use Rattle.zb_claims.specs.Points.{rebuilds, has_plus}
use Rattle.zb_headline.specs.Reasons.{HasReason, InSpan, MendedFails, breaks}
use Rattle.zb_headline.specs.Calm.{calm, place}
use Rattle.zb_headline.specs.Wrong.{rearmed_script, mending_script, early_faults, WrongClaims}

rearmed : HasReason (place (calm (λ platter n. 100)) rearmed_script (OfEvent (Arm Manager) EventDone ∷ [])) (OfEvent (Up Manager) (Stopped Manager)) → ⊥
rearmed (inl h) = h
rearmed (inr h) = absurd cc

abbrev plus_of : Option (ℕ × Line) → Bool
plus_of None = false
plus_of (Some found) = has_plus found.1

module _ where
  abbrev before : List Outcome
  before = OfRebuild (record { 0 = 1 }) (Copied 0) ∷ []

  not_since : InSpan (place early_faults mending_script before) (rebuilds 2) (λ front rest. (list_any (breaks 2) rest ≡ true) ⊎ (length front ≡ 0)) → ⊥
  not_since span =
      let none : span.rest ≡ [] = span.begins.at_once (sym (ap plus_of span.begins.is)) in
      let one : 1 ≡ length span.front + length span.rest = ap length span.split ∙ length-append span.front span.rest in
      elim span.holds [
        | inl broke ↦ let e : false ≡ true = sym (ap (list_any (breaks 2)) none) ∙ broke in absurd cc
        | inr first ↦ let e : length span.rest ≡ 0 = ap length none in absurd (omega (arith, one, first, e))
      ]

  not_mended : MendedFails (place early_faults mending_script before) 2 → ⊥
  not_mended (inl span) = not_since span
  not_mended (inr h) = h

pub wrong_claims : WrongClaims
wrong_claims = record { rearmed = rearmed; excused = λ h. not_mended (h refl); together = λ h. let e : false ≡ true = h.company in absurd cc }
