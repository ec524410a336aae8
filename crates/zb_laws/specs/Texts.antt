-- What the texts of lines determine.
use Rattle.std.specs.Prelude.{◌≡◌, ℕ, List, [], ◌++◌}
use Rattle.std.specs.List.{AllByRecursion}
use Rattle.zb_types.specs.declared.geometry.Geometry.{Geometry}
use Rattle.zb_types.specs.declared.lines.Line.{Line}
use Rattle.zb_types.specs.declared.lines.Outcome.{Outcome}
use Rattle.zb_claims.specs.Text.{IsOutcome, line_text, report_text, IsLine, words}

-- it is the other, and nothing follows
pub record LineFront (a b : Outcome) (more : List ℕ) : Type 0 where
  pub same : a ≡ b
  pub none : more ≡ []

-- no text of a line is a front of another's
abbrev pub NoFront : Type 0
NoFront = (geo : Geometry) (a b : Outcome) (more : List ℕ) → IsOutcome geo a → IsOutcome geo b → line_text a ++ more ≡ line_text b → LineFront a b more

-- these lines are the first of those, and the rest is the text of the others
pub record IsTextFront (lines all : List Outcome) (rest : List ℕ) : Type 0 where
  pub more : List Outcome
  pub split : all ≡ lines ++ more
  pub text : rest ≡ report_text more

-- a front of a report's text that is a text of lines is that of its first lines
abbrev pub FrontLines : Type 0
FrontLines = (geo : Geometry) (lines all : List Outcome) (rest : List ℕ) → AllByRecursion (IsOutcome geo) lines → AllByRecursion (IsOutcome geo) all → report_text lines ++ rest ≡ report_text all → IsTextFront lines all rest

-- the bytes of a report determine its lines
abbrev pub SameLines : Type 0
SameLines = (geo : Geometry) (lines others : List Outcome) → AllByRecursion (IsOutcome geo) lines → AllByRecursion (IsOutcome geo) others → report_text lines ≡ report_text others → lines ≡ others

-- a spelling is that of one line of a script
abbrev pub OneSpelling : Type 0
OneSpelling = (geo : Geometry) (a b : Line) → IsLine geo a → IsLine geo b → words a ≡ words b → a ≡ b
