use Rattle.std.proofs.Common.{arith}
use Rattle.zb_usage.proofs.Newest.{born_within}
use Rattle.zb_usage.specs.declared.stripe_use.StripeUse.{StripeUse}
use Rattle.zb_usage.proofs.picks.oldest.Goals as goal

abbrev first : StripeUse
first = record { log = record { 0 = 0 }; stripe = 0; bytes = 0; live = 0; born = 0 }

pub dead_by_age-requires : goal.dead_by_age-requires
dead_by_age-requires c = let e = c.newest-newest.ensures in let b = c.loop-i.invariant.0 in omega (arith, e, born_within c.args.list.now c.loop-i.best first (omega (arith, b)))

pub dead_by_age-requires-in-loop-i : goal.dead_by_age-requires-in-loop-i
dead_by_age-requires-in-loop-i c = let e = c.newest-newest.ensures in omega (arith, e, born_within c.args.list.now c.loop-i.i first (omega arith))
