use Rattle.std.proofs.Common.{◌≡◌, ◌∙◌, ap, None, subst, sym}
use Rattle.zb_types.specs.declared.nodes.Node.TheVariants.{Client}
use Rattle.zb_world.specs.World.{IsActor, SeenWorld}
use Rattle.zb_world.proofs.Keeping.{after_step, report_now, steps_nearer}
use Rattle.zb_world.proofs.world.World.step.Goals as goal

pub invariant_of-self : goal.invariant_of-self
invariant_of-self g c =
    let told : c.self.inside.course.untold ≡ None = ap (λ (w : SeenWorld g.row.O.Denot). w.course.untold) c.self.view_is ∙ c.requires.told in
    let own : IsActor c.self.inside.geo (Client c.in-Client.client) = rw c.in-Client.is at (subst (λ (w : SeenWorld g.row.O.Denot). IsActor w.geo c.args.actor) (sym c.self.view_is) c.requires.actor) in
    after_step c.self.invariant c.step.new.self told c.in-Client.client c.step.result own c.step.ensures.ok c.step.ensures.err

pub returns-in-Client-clause-less : goal.returns-in-Client-clause-less
returns-in-Client-clause-less g c =
    let told : c.self.inside.course.untold ≡ None = ap (λ (w : SeenWorld g.row.O.Denot). w.course.untold) c.self.view_is ∙ c.requires.told in
    rw (← c.self.view_is) (steps_nearer (report_now c.self.invariant told) c.step.new.self c.in-Client.client c.step.result c.step.ensures.ok)
