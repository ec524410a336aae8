use Rattle.std.proofs.Common.{◌≡◌, length}
use Rattle.zb_stripe_tests.proofs.servers.write.Given as goal

abbrev pub invariant-loop : goal.invariant-loop
invariant-loop l = length l.servers.servers ≡ 3
