use Rattle.std.proofs.Common.{◌≡◌, ◌++◌, drop}
use Rattle.zb_usage.specs.Uses.{closed}
use Rattle.zb_usage.proofs.closing.closed_beside.Given as goal

abbrev pub invariant-loop-stripe : goal.invariant-loop-stripe
invariant-loop-stripe l = l.stripes.items ++ closed l.logs (drop l.stripe-index l.held) ≡ closed l.logs l.held
