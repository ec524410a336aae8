use Rattle.std.proofs.Common.{◌≡◌, ◌<◌, ◌+◌, ℕ, List, length}
use Rattle.zb_types.specs.declared.geometry.Geometry.{Geometry}
use Rattle.zb_types.specs.declared.lines.Outcome.{Outcome}
use Rattle.zb_given.specs.Given.{Given}
use Rattle.zb_line_laws.specs.Calls.{IsFinishing}
use Rattle.zb_finishing.specs.Clients.{AllIdle, KeepsNoneAt}
use Rattle.zb_running.specs.Reports.{HasReport, IsFinishingTelling}
use Rattle.zb_running.specs.Telling.{TellsMore}
use Rattle.zb_running.proofs.finishing.flush_all.Given as goal

abbrev pub invariant-clients : goal.invariant-clients
invariant-clients l =
    IsFinishingTelling l.course
    × (length l.course.nodes.clients ≡ length l.fn.course.nodes.clients)
    × AllIdle l.course.nodes
    × ((j : ℕ) → j + 1 < l.client → KeepsNoneAt l.course.nodes j)
    × ((geo : Geometry) (given : Given) (lines : List Outcome) → HasReport geo given lines l.fn.course → IsFinishing given lines → TellsMore geo given lines l.fn.course l.course)
