use Rattle.std.proofs.Common.{sym, subst, arith}
use Rattle.zb_servers.specs.Standing.{AreServers}
use Rattle.zb_servers.proofs.Placed.{all_empty, nothing_stands}
use Rattle.zb_servers.proofs.servers.Servers.new.Goals as goal

pub invariant_of-result : goal.invariant_of-result
invariant_of-result c =
    let few = c.args.geo.now.limits.servers_high in
    subst (AreServers c.args.geo.now.slots) (sym c.loop.invariant) (all_empty c.args.geo.now.slots c.loop.counter (omega (arith, c.loop.auto.counter-end, few)))

pub returns-clause-nothing : goal.returns-clause-nothing
returns-clause-nothing c server id = nothing_stands c.loop.servers.items c.loop.counter server id c.loop.invariant
