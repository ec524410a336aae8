use Rattle.std.proofs.Common.{◌≡◌}
use Rattle.std.specs.Prelude.{replicate}
use Rattle.zb_servers.specs.Standing.{empty_server}
use Rattle.zb_servers.proofs.servers.Servers.new.Given as goal

abbrev pub invariant-loop : goal.invariant-loop
invariant-loop l = l.servers.items ≡ replicate l.counter empty_server
