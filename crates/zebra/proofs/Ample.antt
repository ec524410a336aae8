-- A script whose calls come one after the other, with ample space.
use Rattle.std.proofs.Common.{◌≡◌, ◌≢◌, ℕ, zero, suc, ◌+◌, ◌≤◌, ◌&&◌, ◌||◌, true, false, Bool, cond, List, [], ◌∷◌, ◌++◌, length, take, Option, Some, None, refl, sym, ap, ◌∙◌, subst, arith, inl, inr}
use Rattle.std.specs.Prelude.{◌⊎◌, ◌==◌, filter, map, not}
use Rattle.std.specs.List.{AllByRecursion, list_any}
use Rattle.std.proofs.lemmas.Bool.{and_parts, or_parts, true≢false}
use Rattle.std.proofs.Math.Seq.{take-length}
use Rattle.zb_types.specs.declared.geometry.Geometry.{Geometry}
use Rattle.zb_types.specs.declared.lines.Line.{Line}
use Rattle.zb_types.specs.declared.lines.Line.TheVariants.{Call as CallLine, Job as JobLine, Steps, StepTo, Event as EventLine}
use Rattle.zb_types.specs.declared.lines.Outcome.{Outcome}
use Rattle.zb_types.specs.declared.lines.Outcome.TheVariants.{Call as OfCall, Clean as OfClean, Rebuild as OfRebuild, Event as OfEvent}
use Rattle.zb_types.specs.declared.lines.Said.{Said}
use Rattle.zb_types.specs.declared.lines.Said.TheVariants.{Reply as Replied, Buffered, Kept, Failed, Dropped, Unfinished}
use Rattle.zb_claims.specs.Points.{Subject, all_met, has_plus, has_told, is_begun, is_met, subject_asked, subject_in}
use Rattle.zb_claims.specs.Runs.{is_unfinished}
use Rattle.zb_headline.specs.Complete.{is_beside, is_replied}
use Rattle.zb_headline.specs.Need.{space_needed}
use Rattle.zb_given.specs.Ends.{all_told}
use Rattle.zb_given.specs.Given.{Given, script_of}
use Rattle.zb_given.specs.Gives.{Gives, are_over, is_item, with_plus, without_steps}
use Rattle.zb_given.proofs.Ending.{gives_in_turn, space_same}
use Rattle.zb_given.proofs.AllMet.{all_met_plus}
use Rattle.zb_ample.specs.Turning.{AreInTurn}

-- ---- no call is unfinished

done_said : (client n : ℕ) (what : Said) → is_replied (OfCall client n what) ≡ true → is_unfinished (OfCall client n what) ≡ false
done_said client n (Replied reply) e = refl
done_said client n Buffered e = refl
done_said client n (Kept cause) e = refl
done_said client n (Failed cause) e = refl
done_said client n Dropped e = refl
done_said client n (Unfinished cause) e = absurd (true≢false (sym e))

done_line : (line : Outcome) → is_replied line ≡ true → is_unfinished line ≡ false
done_line (OfCall client n what) e = done_said client n what e
done_line (OfClean pass) e = refl
done_line (OfRebuild server end) e = refl
done_line (OfEvent event answer) e = refl

pub none_unfinished : (lines : List Outcome) → AllByRecursion (λ line. is_replied line ≡ true) lines → list_any is_unfinished lines ≡ false
none_unfinished [] all = refl
none_unfinished (line ∷ lines) all = ap (λ (b : Bool). b || list_any is_unfinished lines) (done_line line all.0) ∙ none_unfinished lines all.1

-- ---- no line has a plus

plus_beside : (line : Line) → is_beside line ≡ false → has_plus line ≡ false
plus_beside (CallLine plus client call) e = e
plus_beside (JobLine plus job) e = absurd (true≢false e)
plus_beside (Steps actor count) e = absurd (true≢false e)
plus_beside (StepTo actor kind) e = absurd (true≢false e)
plus_beside (EventLine event) e = refl

none_plus : (script : List Line) → list_any is_beside script ≡ false → list_any has_plus script ≡ false
none_plus [] e = refl
none_plus (line ∷ script) e =
    let parts = or_parts (is_beside line) (list_any is_beside script) e in
    ap (λ (b : Bool). b || list_any has_plus script) (plus_beside line parts.0) ∙ none_plus script parts.1

none_filtered : (p q : Line → Bool) (xs : List Line) → list_any p xs ≡ false → list_any p (filter q xs) ≡ false
none_filtered p q [] e = refl
none_filtered p q (x ∷ xs) e = elim (q x) as (λ b. list_any p (cond b (x ∷ filter q xs) (filter q xs)) ≡ false) [
  | true ↦
      let parts = or_parts (p x) (list_any p xs) e in
      ap (λ (b : Bool). b || list_any p (filter q xs)) parts.0 ∙ none_filtered p q xs parts.1
  | false ↦ none_filtered p q xs (or_parts (p x) (list_any p xs) e).1
]

-- so each has its line where it was begun
all_met_unplussed : (f : Subject → ℕ → Bool) (earlier script : List Line) → list_any has_plus script ≡ false → all_met subject_asked f earlier script ≡ all_met subject_in f earlier script
all_met_unplussed f earlier [] e = refl
all_met_unplussed f earlier (line ∷ script) e =
    let parts = or_parts (has_plus line) (list_any has_plus script) e in
    ap (λ (b : Bool). is_met f earlier (cond b None (subject_asked line)) && all_met subject_asked f (earlier ++ line ∷ []) script) (sym parts.0)
    ∙ ap (λ (b : Bool). is_met f earlier (subject_in line) && b) (all_met_unplussed f (earlier ++ line ∷ []) script parts.1)

told_begun : (script : List Line) (lines : List Outcome) → list_any has_plus script ≡ false → is_begun script lines (length script) ≡ true → all_told lines (map with_plus script) ≡ true
told_begun script lines none begun =
    all_met_plus (has_told lines) [] script ∙ all_met_unplussed (has_told lines) [] script none
    ∙ ap (λ (s : List Line). all_met subject_in (has_told lines) [] s) (sym (take-length script)) ∙ begun

-- also at each finish
finishes_told : (script : List Line) (lines : List Outcome) (finishes : List ℕ) → list_any has_plus script ≡ false → are_over script lines finishes ≡ true
    → AllByRecursion (λ at. all_told (take at lines) (map with_plus script) ≡ true) finishes
finishes_told script lines [] none over = tt
finishes_told script lines (at ∷ finishes) none over =
    let parts = and_parts (is_begun script (take at lines) (length script)) (are_over script lines finishes) over in
    (told_begun script (take at lines) none parts.0, finishes_told script lines finishes none parts.1)

-- the calls were given in turn
pub given_in_turn : (script : List Line) (given : Given) (lines : List Outcome) → Gives script given lines → list_any is_beside script ≡ false → AreInTurn given lines
given_in_turn script given lines gives none = (
  gives_in_turn script given lines gives (none_plus script none),
  subst (λ (s : List Line). AllByRecursion (λ at. all_told (take at lines) s ≡ true) given.finishes) (sym gives.items)
      (finishes_told (without_steps script) lines given.finishes (none_filtered has_plus is_item script (none_plus script none)) gives.over),
)

-- and need what the script needs
pub given_needs : (geo : Geometry) (script : List Line) (given : Given) (lines : List Outcome) → Gives script given lines → space_needed geo (script_of given) ≡ space_needed geo script
given_needs geo script given lines gives = ap (space_needed geo) gives.items ∙ space_same geo script
