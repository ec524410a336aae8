-- What is seen of a course.
use Rattle.std.specs.Prelude.{ℕ, Bool, List, [], Option, Some, None}
use Rattle.zb_types.specs.declared.lines.Outcome.{Outcome}
use Rattle.zb_ledger.specs.Seen.{SeenLedger}
use Rattle.zb_system.specs.Nodes.{SeenNodes}
use Rattle.zb_course.specs.declared.lines.Untold.{Untold}

-- The nodes; their ledger; the text of the lines that weren't handed over; the lines that aren't in the text yet; whether a
-- call was told as unfinished; and how many calls were given.
pub record SeenCourse : Type 0 where
  pub nodes : SeenNodes
  pub ledger : SeenLedger
  pub text : List ℕ
  pub untold : Option Untold
  pub unfinished : Bool
  pub calls : ℕ

-- the lines that aren't in the text yet
abbrev pub lines_behind : Option Untold → List Outcome
lines_behind None = []
lines_behind (Some untold) = untold.lines
