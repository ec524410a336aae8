use Rattle.std.proofs.Common.{◌≡◌, ◌++◌}
use Rattle.zb_stripe.specs.declared.flush.Part.{Part}
use Rattle.zb_stripe.specs.Writing.{share_requests}
use Rattle.zb_stripe.specs.Fresh.{IsFresh}
use Rattle.zb_stripe.proofs.write_plan.push_part.Given as goal

abbrev pub invariant-loop-k : goal.invariant-loop-k
invariant-loop-k l = (part : Part) → IsFresh l.to.geo.servers l.to.geo.fragment part l.fresh
    → l.requests.items ≡ l.fn.requests.items ++ share_requests l.to.geo.servers l.to.geo.fragment l.to.out l.to.class l.to.log part l.k
