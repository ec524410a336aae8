use Rattle.zb_world.proofs.Keeping.{first_sound}
use Rattle.zb_world.proofs.world.World.new.Goals as goal

pub invariant_of-result : goal.invariant_of-result
invariant_of-result g c = first_sound c.args.geo c.in-Ok.course c.in-Ok.ensures
