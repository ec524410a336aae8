use Rattle.std.proofs.Common.{◌≡◌, ℕ, false, List, None, Option, refl, sym, ap, subst, ◌∙◌}
use Rattle.zb_types.specs.declared.geometry.Geometry.{Geometry}
use Rattle.zb_claims.specs.Script.{is_comment, ended_line}
use Rattle.zb_script.specs.Places.{Place, MayStand}
use Rattle.zb_script.proofs.NextBytes.{header_none}
use Rattle.zb_script.proofs.reader.Script.whole.Goals as goal
use Rattle.zb_script.proofs.reader.Script.whole.Goals.{in-Some-read_header, in-None}

pub returns-in_default : goal.returns-in_default
returns-in_default c =
    let at : c.args.self.now.geo ≡ None = ap (λ (p : Place). p.geo) (sym c.self.view_is) ∙ c.in_default.is in
    let other : is_comment c.args.words.now ≡ false = sym c.is_comment.ensures ∙ c.if-is_comment.false in
    elim c.match-read_header.branch [
      | in-Some-read_header w ↦ rw w.result-is (at, (rw w.in-Some-read_header.is at c.read_header.ensures).1, refl)
      | in-None w ↦ rw w.result-is (
        c.line_number-number.ensures,
        subst (λ (geo : Option Geometry). (text : List ℕ) → MayStand geo text → text ≡ ended_line c.args.words.now → ⊥) (sym at) (header_none c.args.words.now other (rw w.in-None.is at c.read_header.ensures)),
      )
    ]
