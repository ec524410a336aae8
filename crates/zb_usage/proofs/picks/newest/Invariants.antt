use Rattle.std.proofs.Common.{◌≡◌, max, drop}
use Rattle.zb_usage.specs.Choosing.{newest}
use Rattle.zb_usage.proofs.picks.newest.Given as goal

abbrev pub invariant-loop-stripe : goal.invariant-loop-stripe
invariant-loop-stripe l = max l.newest (newest (drop l.stripe-index l.list)) ≡ newest l.list
