use Rattle.std.proofs.Common.{subst, sym}
use Rattle.zb_world.specs.World.{IsSound}
use Rattle.zb_world.proofs.Keeping.{handed_over}
use Rattle.zb_world.proofs.world.World.put_report.Goals as goal

pub invariant_of-self : goal.invariant_of-self
invariant_of-self g c = subst (IsSound c.self.inside.geo) (sym c.hand_over.ensures) (handed_over c.self.inside.geo c.self.inside.course c.self.invariant)
