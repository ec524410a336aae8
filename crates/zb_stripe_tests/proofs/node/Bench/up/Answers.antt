use Rattle.zb_server.proofs.Served.{risen_node}
use Rattle.zb_stripe_tests.proofs.node.Bench.up.Goals as goal

pub invariant_of-self : goal.invariant_of-self
invariant_of-self c = (c.self.invariant.0, (c.self.invariant.1.0, risen_node c.self.inside.geo c.self.inside.server c.up.result c.up.new.self c.up.ensures.leaves))
