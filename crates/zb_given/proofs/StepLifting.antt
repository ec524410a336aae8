-- Step lines may stand anywhere.
use Rattle.std.proofs.Common.{◌≡◌, ℕ, suc, Bool, true, not, cond, ◌||◌, List, [], ◌∷◌, ◌++◌, length, take, Some, sym, ap, ◌∙◌, arith, inl}
use Rattle.std.specs.Prelude.{map}
use Rattle.std.proofs.lemmas.List.{append-nil}
use Rattle.std.proofs.lemmas.List.Elements.{filter-append}
use Rattle.zb_types.specs.declared.nodes.Node.TheVariants.{Manager}
use Rattle.zb_types.specs.declared.lines.Line.{Line}
use Rattle.zb_types.specs.declared.lines.Line.TheVariants.{Call as CallLine}
use Rattle.zb_types.specs.declared.lines.Outcome.{Outcome}
use Rattle.zb_claims.specs.Points.{Subject, calls, crashes, asked, asked_of, has_plus, all_answered, is_begun}
use Rattle.zb_claims.specs.Fits.{clock_of_run}
use Rattle.zb_given.specs.Gives.{is_item, without_steps, with_plus, about}
use Rattle.zb_given.specs.Lifts.{StepsAnywhere}
use Rattle.zb_given.proofs.Parts.{splits, front_taken, one_part}
use Rattle.zb_given.proofs.StepLines.{about_is_item, about_steps, asked_of_steps}
use Rattle.zb_given.proofs.Begun.{begun_whole, answered_steps}
use Rattle.zb_given.proofs.Carry.{Extends, Carries, before_crash_by, carry}

module _ (A B : List Line) (same : without_steps A ≡ without_steps B) where
  pub steps_extend : Extends A B
  steps_extend s = ([], ap (map with_plus) (sym (about_steps s B) ∙ ap (about s) (sym same) ∙ about_steps s A) ∙ sym (append-nil (map with_plus (about s A))))

  -- both have the same before this line, but for steps
  pub same_front : (s : Subject) (n j place : ℕ) (l line : Line) → asked A s n ≡ Some (j, l) → asked B s n ≡ Some (place, line) → (without_steps (take j A) ≡ without_steps (take place B)) × (l ≡ line)
  same_front s n j place l line a b =
      let p = splits 0 s n A j l a in
      let q = splits 0 s n B place line b in
      let left : without_steps A ≡ without_steps p.front ++ l ∷ without_steps p.rest = cut A p.front p.rest l p.split (about_is_item s l p.is) in
      let right : without_steps B ≡ without_steps q.front ++ line ∷ without_steps q.rest = cut B q.front q.rest line q.split (about_is_item s line q.is) in
      let counts : asked_of s (without_steps p.front) ≡ asked_of s (without_steps q.front) =
      asked_of_steps s p.front ∙ less (sym p.count ∙ q.count) ∙ sym (asked_of_steps s q.front) in
      let one = one_part s (without_steps p.front) (without_steps q.front) (without_steps p.rest) (without_steps q.rest) l line (sym left ∙ same ∙ right) p.is q.is counts in
      (ap without_steps (front_taken A s n j l p) ∙ one.0 ∙ ap without_steps (sym (front_taken B s n place line q)), one.1)
    where
      less : {a b : ℕ} → suc a ≡ suc b → a ≡ b
      less e = omega (arith, e)

      cut : (X f r : List Line) (x : Line) → X ≡ f ++ x ∷ r → is_item x ≡ true → without_steps X ≡ without_steps f ++ x ∷ without_steps r
      cut X f r x e is = ap without_steps e ∙ filter-append is_item f (x ∷ r) ∙ ap (λ (b : Bool). without_steps f ++ cond b (x ∷ without_steps r) (without_steps r)) is

  pub steps_carry : (ordered : Bool) (lines : List Outcome) → Carries A B (clock_of_run ordered A) (clock_of_run ordered B) lines
  steps_carry ordered lines = record {
    extends = steps_extend;
    begun = λ s n j place l line a b front rest split h.
        let fronts = same_front s n j place l line a b in
        let begun : is_begun A front j ≡ is_begun B front place = answered_steps front (take j A) ∙ ap (all_answered front []) fronts.0 ∙ sym (answered_steps front (take place B)) in
        ap (λ (b : Bool). not ordered || b) (sym begun) ∙ h;
    manager = λ s n j place l line a b before h.
        let fronts = same_front s n j place l line a b in
        let counts : asked_of (crashes Manager) (take j A) ≡ asked_of (crashes Manager) (take place B) = sym (asked_of_steps (crashes Manager) (take j A)) ∙ ap (asked_of (crashes Manager)) fronts.0 ∙ asked_of_steps (crashes Manager) (take place B) in
        ap (λ (b : Bool). not ordered || b) (sym (before_crash_by A B before j place counts)) ∙ h;
    over = λ front rest split h.
        let over : is_begun A front (length A) ≡ is_begun B front (length B) = begun_whole A front ∙ answered_steps front A ∙ ap (all_answered front []) same ∙ sym (answered_steps front B) ∙ sym (begun_whole B front) in
        ap (λ (b : Bool). not ordered || b) (sym over) ∙ h;
    at_once = λ before after client n reply at j place p q call a b is.
        let fronts = same_front (calls client) n j place (CallLine p client call) (CallLine q client call) a b in
        inl (λ v_ordered no_plus. (v_ordered, ap has_plus fronts.1 ∙ no_plus));
  }

pub steps_anywhere : StepsAnywhere
steps_anywhere ordered script other lines same fits =
    carry script other (clock_of_run ordered script) (clock_of_run ordered other) lines (steps_carry script other same ordered lines) fits
