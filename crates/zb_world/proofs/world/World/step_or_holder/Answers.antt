use Rattle.zb_world.specs.World.{SeenWorld}
use Rattle.std.proofs.Common.{◌≡◌, ◌∙◌, ap, None}
use Rattle.zb_world.proofs.Keeping.{after_one, report_now}
use Rattle.zb_world.proofs.world.World.step_or_holder.Goals as goal

pub step_or_holder-requires-clause-telling : goal.step_or_holder-requires-clause-telling
step_or_holder-requires-clause-telling g c =
    let told : c.self.inside.course.untold ≡ None = ap (λ (w : SeenWorld g.row.O.Denot). w.course.untold) c.self.view_is ∙ c.requires.told in
    record { geo = c.self.inside.geo; given = c.self.invariant.given; lines = c.self.invariant.lines; report = report_now c.self.invariant told }

pub invariant_of-self : goal.invariant_of-self
invariant_of-self g c =
    let told : c.self.inside.course.untold ≡ None = ap (λ (w : SeenWorld g.row.O.Denot). w.course.untold) c.self.view_is ∙ c.requires.told in
    let r = report_now c.self.invariant told in
    after_one c.self.invariant c.step_or_holder.new.course told c.args.client c.step_or_holder.result (c.step_or_holder.ensures.ok c.self.inside.geo _ _ r) (c.step_or_holder.ensures.err c.self.inside.geo _ _ r)

pub returns-clause-ok : goal.returns-clause-ok
returns-clause-ok g c = rw (← c.self.view_is) (λ given lines r. c.step_or_holder.ensures.ok c.self.inside.geo given lines r)
