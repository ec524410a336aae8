use Rattle.std.proofs.Common.{◌-◌, ap}
use Rattle.zb_servers.specs.Standing.{SeenServers}
use Rattle.zb_servers.proofs.Placed.{placed, has_room}
use Rattle.zb_servers.proofs.servers.Servers.free.Goals as goal

pub free-requires : goal.free-requires
free-requires c =
    let servers = c.self.inside.servers.items in
    let p = placed c.args.self.now servers c.args.server c.from.result c.index.result.now c.from.ensures c.requires.first c.requires.last (ap (λ (s : SeenServers). s.servers) c.self.view_is) c.index.ensures in
    has_room c.self.inside.slots servers c.args.server (c.from.result - 1) c.index.result.now c.self.invariant p
