use Rattle.std.proofs.Common.{◌<◌, ◌+◌, ℕ, List}
use Rattle.zb_types.specs.declared.geometry.Geometry.{Geometry}
use Rattle.zb_types.specs.declared.lines.Outcome.{Outcome}
use Rattle.zb_given.specs.Given.{Given}
use Rattle.zb_finishing.specs.Clients.{IsIdleAt}
use Rattle.zb_running.specs.Reports.{HasReport, IsTelling}
use Rattle.zb_running.specs.Resting.{LeavesRest}
use Rattle.zb_running.specs.Telling.{TellsMore}
use Rattle.zb_running.proofs.finishing.run_all.Given as goal

abbrev pub invariant-clients : goal.invariant-clients
invariant-clients l =
    IsTelling l.course
    × LeavesRest l.fn.course.nodes l.course.nodes
    × ((j : ℕ) → j + 1 < l.client → IsIdleAt l.course.nodes j)
    × ((geo : Geometry) (given : Given) (lines : List Outcome) → HasReport geo given lines l.fn.course → TellsMore geo given lines l.fn.course l.course)
