use Rattle.zb_world.specs.World.{SeenWorld}
use Rattle.std.proofs.Common.{◌≡◌, ◌∙◌, ap, None}
use Rattle.zb_world.proofs.Keeping.{after_finish, report_now, settled_after}
use Rattle.zb_world.proofs.world.World.finish.Goals as goal

pub finish-requires-clause-telling : goal.finish-requires-clause-telling
finish-requires-clause-telling g c =
    let told : c.self.inside.course.untold ≡ None = ap (λ (w : SeenWorld g.row.O.Denot). w.course.untold) c.self.view_is ∙ c.requires.told in
    record { geo = c.self.inside.geo; given = c.self.invariant.given; lines = c.self.invariant.lines; report = report_now c.self.invariant told }

pub invariant_of-self : goal.invariant_of-self
invariant_of-self g c =
    let told : c.self.inside.course.untold ≡ None = ap (λ (w : SeenWorld g.row.O.Denot). w.course.untold) c.self.view_is ∙ c.requires.told in
    let r = report_now c.self.invariant told in
    after_finish c.self.invariant c.finish.new.course told c.finish.result (c.finish.ensures.ok c.self.inside.geo _ _ r) (c.finish.ensures.err c.self.inside.geo _ _ r)

pub returns-clause-settled : goal.returns-clause-settled
returns-clause-settled g c =
    let told : c.self.inside.course.untold ≡ None = ap (λ (w : SeenWorld g.row.O.Denot). w.course.untold) c.self.view_is ∙ c.requires.told in
    settled_after _ _ _ _ _ c.finish.result (c.finish.ensures.ok c.self.inside.geo _ _ (report_now c.self.invariant told))
