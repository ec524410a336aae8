use Rattle.zb_server.proofs.Served.{may_serve}
use Rattle.zb_stripe_tests.proofs.node.Bench.serve.Goals as goal

pub serve-response-requires : goal.serve-response-requires
serve-response-requires c = record {
  fits = may_serve c.self.inside.geo c.self.inside.server _ c.in_ok-request.request c.self.invariant.1.1 (c.in_ok-request.ensures c.self.inside.geo c.self.invariant.0 c.self.invariant.1.0);
}

pub invariant_of-self : goal.invariant_of-self
invariant_of-self c = (c.self.invariant.0, (c.self.invariant.1.0, c.serve-response.ensures.system c.self.inside.geo c.self.inside.server c.self.invariant.1.1))
