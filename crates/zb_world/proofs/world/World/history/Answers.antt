use Rattle.std.proofs.Common.{◌≡◌, ◌∙◌, ap, None}
use Rattle.zb_running.proofs.Shown.{shows_legal}
use Rattle.zb_world.specs.World.{SeenWorld}
use Rattle.zb_world.proofs.Keeping.{report_now}
use Rattle.zb_world.proofs.world.World.history.Goals as goal

pub returns-clause-legal : goal.returns-clause-legal
returns-clause-legal g c told =
    let none : c.self.inside.course.untold ≡ None = ap (λ (w : SeenWorld g.row.O.Denot). w.course.untold) c.self.view_is ∙ told in
    rw (c.history.ensures.updates, c.history.ensures.reads) (shows_legal (report_now c.self.invariant none))
