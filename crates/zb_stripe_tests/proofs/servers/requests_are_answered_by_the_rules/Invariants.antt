use Rattle.std.proofs.Common.{◌≡◌, length}
use Rattle.zb_stripe_tests.proofs.servers.requests_are_answered_by_the_rules.Given as goal

abbrev pub invariant-loop-generation : goal.invariant-loop-generation
invariant-loop-generation g l = length l.servers.servers ≡ 3
