-- A program at a call of its script.
use Rattle.std.specs.Prelude.{ℕ, ◌-◌, Bool, List}
use Rattle.zb_types.specs.declared.calls.Call.{Call}
use Rattle.zb_types.specs.declared.geometry.Geometry.{Geometry}
use Rattle.zb_types.specs.declared.lines.Line.{Line}
use Rattle.zb_types.specs.declared.lines.Line.TheVariants.{Call as CallLine}
use Rattle.zb_types.specs.declared.lines.Outcome.{Outcome}
use Rattle.zb_given.specs.Given.{Given}
use Rattle.zb_given.specs.Loops.{IsAt}
use Rattle.zb_given.specs.Telling.{LooksNow}
use Rattle.zb_course.specs.Seen.{SeenCourse}
use Rattle.zb_running.specs.Reports.{HasReport, reads_of}

-- The call behind these lines was given, and may not have its line yet; where it is a read that was looked up, it is of the tree of now.
pub record IsAtCall (script : List Line) (plus : Bool) (client : ℕ) (call : Call) {geo : Geometry} {given : Given} {lines : List Outcome} {c : SeenCourse} (r : HasReport geo given lines c) : Type 0 where
  pub at : IsAt script (CallLine plus client call) given lines
  pub looks : LooksNow given lines client (reads_of r (client - 1))
