use Rattle.std.proofs.Common.{None, length}
use Rattle.zb_stripe.specs.declared.flush.Flush.{Flush}
use Rattle.zb_stripe.specs.Writing.{plan_requests}
use Rattle.zb_stripe.specs.Fresh.{IsFreshFlush}
use Rattle.zb_plain.proofs.Deliveries.{IsLeft}
use Rattle.zb_plain.proofs.servers.PlainServers.write.Given as goal

abbrev pub invariant-requests : goal.invariant-requests
invariant-requests l = (flush : Flush) → IsFreshFlush l.geo.servers l.geo.fragment flush l.fresh
    → IsLeft l.fn.self l.self (plan_requests l.geo.servers l.geo.fragment None l.fn.class flush) l.plan

abbrev pub decreases-requests : goal.decreases-requests
decreases-requests l = length l.plan
