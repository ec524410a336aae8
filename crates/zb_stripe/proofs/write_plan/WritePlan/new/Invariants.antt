use Rattle.std.proofs.Common.{◌≡◌, take}
use Rattle.std.specs.List.{flat_map}
use Rattle.zb_stripe.specs.declared.flush.Flush.{Flush}
use Rattle.zb_stripe.specs.Writing.{part_requests}
use Rattle.zb_stripe.specs.Fresh.{IsFreshFlush}
use Rattle.zb_stripe.proofs.write_plan.WritePlan.new.Given as goal

abbrev pub invariant-loop-part : goal.invariant-loop-part
invariant-loop-part l = (flush : Flush) → IsFreshFlush l.to.geo.servers l.to.geo.fragment flush l.fresh
    → l.requests.items ≡ flat_map (part_requests l.to.geo.servers l.to.geo.fragment l.to.out l.to.class l.to.log) (take l.part-index flush.parts)
