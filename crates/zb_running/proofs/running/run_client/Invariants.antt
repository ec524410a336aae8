use Rattle.std.proofs.Common.{List}
use Rattle.zb_types.specs.declared.geometry.Geometry.{Geometry}
use Rattle.zb_types.specs.declared.lines.Outcome.{Outcome}
use Rattle.zb_given.specs.Given.{Given}
use Rattle.zb_ending.specs.Left.{work_left}
use Rattle.zb_running.specs.Reports.{HasReport, IsTelling}
use Rattle.zb_running.specs.Resting.{LeavesRest}
use Rattle.zb_running.specs.Telling.{TellsMore}
use Rattle.zb_running.proofs.running.run_client.Given as goal

abbrev pub invariant-steps : goal.invariant-steps
invariant-steps l =
    IsTelling l.course
    × LeavesRest l.fn.course.nodes l.course.nodes
    × ((geo : Geometry) (given : Given) (lines : List Outcome) → HasReport geo given lines l.fn.course → TellsMore geo given lines l.fn.course l.course)

abbrev pub decreases-steps : goal.decreases-steps
decreases-steps l = work_left l.course.nodes
