use Rattle.zb_world.specs.World.{SeenWorld}
use Rattle.std.proofs.Common.{◌≡◌, ◌∙◌, ap, None, subst, sym}
use Rattle.std.specs.Prelude.{IsTrue}
use Rattle.zb_types.specs.Limits.{within}
use Rattle.zb_course.proofs.Giving.{next_is_new}
use Rattle.zb_world.proofs.Keeping.{after_call, report_now}
use Rattle.zb_world.proofs.world.World.call.Goals as goal

pub call-requires-clause-fresh : goal.call-requires-clause-fresh
call-requires-clause-fresh g c =
    let told : c.self.inside.course.untold ≡ None = ap (λ (w : SeenWorld g.row.O.Denot). w.course.untold) c.self.view_is ∙ c.requires.told in
    next_is_new _ _ c.self.inside.course c.args.client (report_now c.self.invariant told).settled

pub invariant_of-self : goal.invariant_of-self
invariant_of-self g c =
    let told : c.self.inside.course.untold ≡ None = ap (λ (w : SeenWorld g.row.O.Denot). w.course.untold) c.self.view_is ∙ c.requires.told in
    after_call c.self.invariant c.call.new.self told c.args.client c.args.call c.call.result (subst (λ (w : SeenWorld g.row.O.Denot). IsTrue (within 1 w.geo.clients c.args.client)) (sym c.self.view_is) c.requires.client) c.requires.short c.call.ensures.ok c.call.ensures.few c.call.ensures.err
