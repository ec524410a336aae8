-- Steps, one behind the other.
use Rattle.std.proofs.Common.{◌≡◌, ℕ, List, [], ◌∷◌, ◌++◌, append-nil, refl, sym, ap, ◌∙◌, subst, append_assoc}
use Rattle.zb_types.specs.declared.geometry.Geometry.{Geometry}
use Rattle.zb_types.specs.declared.lines.Outcome.{Outcome}
use Rattle.zb_claims.specs.Text.{line_text, report_text}
use Rattle.zb_given.specs.Given.{Given}
use Rattle.zb_finishing.proofs.Begun.{begun_before}
use Rattle.zb_course.specs.Seen.{SeenCourse}
use Rattle.zb_running.specs.Reports.{HasReport, IsFinishingTelling, IsReported, IsTelling}
use Rattle.zb_running.specs.Telling.{HasHalted, SomeHasTold, TellsMore, TellsUntil}

-- the texts of two parts of a report
pub text_of_both : (xs ys : List Outcome) → report_text (xs ++ ys) ≡ report_text xs ++ report_text ys
text_of_both [] ys = refl
text_of_both (x ∷ xs) ys = ap (λ (b : List ℕ). line_text x ++ b) (text_of_both xs ys) ∙ sym (append_assoc (line_text x) (report_text xs) (report_text ys))

-- the text of lines that came, and then of more
text_then : (old mid new : SeenCourse) (first more : List Outcome) → mid.text ≡ old.text ++ report_text first → new.text ≡ mid.text ++ report_text more → new.text ≡ old.text ++ report_text (first ++ more)
text_then old mid new first more a b =
    b ∙ ap (λ (x : List ℕ). x ++ report_text more) a ∙ append_assoc old.text (report_text first) (report_text more)
    ∙ ap (λ (x : List ℕ). old.text ++ x) (sym (text_of_both first more))

module _ {geo : Geometry} {given : Given} {lines : List Outcome} where
  pub tells_none : {old : SeenCourse} → HasReport geo given lines old → TellsMore geo given lines old old
  tells_none {old} r = record {
    more = [];
    report = subst (λ (l : List Outcome). HasReport geo given l old) (sym (append-nil lines)) r;
    text = sym (append-nil old.text);
  }

  pub tells_both : {old mid new : SeenCourse} (a : TellsMore geo given lines old mid) → TellsMore geo given (lines ++ a.more) mid new → TellsMore geo given lines old new
  tells_both {old} {mid} {new} a b = record {
    more = a.more ++ b.more;
    report = subst (λ (l : List Outcome). HasReport geo given l new) (append_assoc lines a.more b.more) b.report;
    text = text_then old mid new a.more b.more a.text b.text;
  }

  pub tells_until : {old mid new : SeenCourse} (a : TellsMore geo given lines old mid) → TellsUntil geo given (lines ++ a.more) mid new → TellsUntil geo given lines old new
  tells_until {old} {mid} {new} a b = record {
    more = a.more ++ b.more;
    report = subst (λ (l : List Outcome). IsReported geo given l new) (append_assoc lines a.more b.more) b.report;
    text = text_then old mid new a.more b.more a.text b.text;
  }

  pub tells_step : {old mid new : SeenCourse} {client : ℕ} (a : TellsMore geo given lines old mid) → SomeHasTold a.report new client → TellsMore geo given lines old new
  tells_step a s = tells_both a (record { more = s.told.more; report = s.told.report; text = s.told.text })

  pub tells_halt : {old mid new : SeenCourse} (a : TellsMore geo given lines old mid) → HasHalted geo given (lines ++ a.more) mid new → TellsUntil geo given lines old new
  tells_halt a h = record { more = a.more; report = h.report; text = h.text ∙ a.text }

  -- behind something that left the text
  pub tells_behind : {old mid new : SeenCourse} → mid.text ≡ old.text → TellsMore geo given lines mid new → TellsMore geo given lines old new
  tells_behind same t = record { more = t.more; report = t.report; text = t.text ∙ ap (λ (x : List ℕ). x ++ report_text t.more) same }

  pub tells_until_behind : {old mid new : SeenCourse} → mid.text ≡ old.text → TellsUntil geo given lines mid new → TellsUntil geo given lines old new
  tells_until_behind same t = record { more = t.more; report = t.report; text = t.text ∙ ap (λ (x : List ℕ). x ++ report_text t.more) same }

-- the report of a step
pub telling_step : {new : SeenCourse} {client : ℕ} {old : SeenCourse} (t : IsTelling old) → SomeHasTold t.report new client → IsTelling new
telling_step t s = record { geo = t.geo; given = t.given; lines = t.lines ++ s.told.more; report = s.told.report }

-- and of several
pub telling_more : {old new : SeenCourse} (t : IsTelling old) → TellsMore t.geo t.given t.lines old new → IsTelling new
telling_more t a = record { geo = t.geo; given = t.given; lines = t.lines ++ a.more; report = a.report }

pub finishing_more : {old new : SeenCourse} (t : IsFinishingTelling old) → TellsMore t.geo t.given t.lines old new → IsFinishingTelling new
finishing_more t a = record { geo = t.geo; given = t.given; lines = t.lines ++ a.more; report = a.report; finishing = begun_before t.given t.lines a.more t.finishing }
