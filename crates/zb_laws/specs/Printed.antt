-- What a run prints determines its lines.
use Rattle.std.specs.Prelude.{◌≡◌, ◌≢◌, ℕ, Bool, false, List, [], ◌∷◌, ◌++◌, take, drop, codes, ◌&&◌, ◌||◌, nat_lt}
use Rattle.std.specs.List.{list_any, list_all, AllByRecursion}
use Rattle.std.specs.Str.{bytes_eq}
use Rattle.zb_types.specs.declared.geometry.Geometry.{Geometry}
use Rattle.zb_types.specs.declared.lines.Line.{Line}
use Rattle.zb_types.specs.declared.lines.Outcome.{Outcome}
use Rattle.zb_claims.specs.Text.{IsOutcome, report_text}
use Rattle.zb_claims.specs.Script.{Grammar, Row}
use Rattle.zb_claims.specs.Runs.{Tails, TellsTree, EndsSo, EndsBefore, RunsScriptBy}

-- a `c` with a digit
abbrev pub starts_call : List ℕ → Bool
starts_call text = bytes_eq (take 1 text) (codes "c") && list_all (λ b. nat_lt b 58) (take 1 (drop 1 text))

-- the first letters are those of a line that answers a line of the script
abbrev pub starts_line : List ℕ → Bool
starts_line text = starts_call text || list_any (bytes_eq (take 3 text)) (codes "cle" ∷ codes "reb" ∷ codes "cra" ∷ codes "arm" ∷ codes "up " ∷ codes "los" ∷ codes "che" ∷ [])

-- the same lines, and the same behind them
pub record SameReport (lines others : List Outcome) (tail other : List ℕ) : Type 0 where
  pub same_lines : lines ≡ others
  pub same_tail : tail ≡ other

-- lines and a tail that starts otherwise are told apart
abbrev pub OneReport : Type 0
OneReport = (geo : Geometry) (lines others : List Outcome) (tail other : List ℕ) → AllByRecursion (IsOutcome geo) lines → AllByRecursion (IsOutcome geo) others → starts_line tail ≡ false → starts_line other ≡ false
    → report_text lines ++ tail ≡ report_text others ++ other → SameReport lines others tail other

-- what stands for the tree begins like no such line, where what follows doesn't
abbrev pub BeginsOtherwise : Tails
BeginsOtherwise script all text = (more : List ℕ) → starts_line more ≡ false → starts_line (text ++ more) ≡ false

-- the tree after all updates does so
abbrev pub TreeBeginsOtherwise : Type 0
TreeBeginsOtherwise = (script : List Line) (all : List Outcome) (text : List ℕ) → TellsTree script all text → BeginsOtherwise script all text

-- what stands behind the lines starts otherwise
abbrev pub TailsDiffer : Grammar → Type 0
TailsDiffer g = (bytes : List ℕ) (geo : Geometry) (rows : List Row) (rest : List ℕ) (all : List Outcome) (end : ℕ) (tail : List ℕ) → EndsSo g BeginsOtherwise bytes geo rows rest all end tail → starts_line tail ≡ false

-- so does the line of a run that has no others
abbrev pub LinesAloneDiffer : Grammar → Type 0
LinesAloneDiffer g = (bytes : List ℕ) (end : ℕ) (last : List ℕ) → EndsBefore g bytes end last → starts_line last ≡ false

-- the same sizes, lines, and what stands behind them
pub record SameRun (geo other_geo : Geometry) (all other_all : List Outcome) (tail other_tail : List ℕ) : Type 0 where
  pub geometry : geo ≡ other_geo
  pub same_lines : all ≡ other_all
  pub same_tail : tail ≡ other_tail

-- what a run prints to its end determines its lines
abbrev pub OneRun : Grammar → Type 0
OneRun g = (ordered : Bool) (status : ℕ) (bytes printed : List ℕ) → status ≢ 4 → (run other : RunsScriptBy ordered g BeginsOtherwise status bytes printed) → SameRun run.geo other.geo run.all other.all run.tail other.tail
