use Rattle.zb_world.proofs.Keeping.{after_tell}
use Rattle.zb_world.proofs.world.World.tell.Goals as goal

pub invariant_of-self : goal.invariant_of-self
invariant_of-self g c = after_tell c.self.invariant c.tell.new.self c.tell.result c.tell.ensures.ok c.tell.ensures.err
