use Rattle.std.proofs.Common.{◌-◌, ap}
use Rattle.zb_servers.specs.Standing.{SeenServers}
use Rattle.zb_servers.proofs.Placed.{IsPlaced, placed, has_room, still_servers}
use Rattle.zb_servers.proofs.Carrying.{left_there, all_carried}
use Rattle.zb_servers.proofs.servers.Servers.serve.Goals as goal

-- what is read is the server that is asked
asked_is : (c : goal.After-self-1) → IsPlaced c.self.inside.servers.items c.args.server (c.from.result - 1) c.index_mut.result.now
asked_is c =
    placed c.args.self.now c.self.inside.servers.items c.args.server c.from.result c.index_mut.result.now c.from.ensures c.requires.first c.requires.last
    (ap (λ (s : SeenServers). s.servers) c.self.view_is) c.index_mut.ensures.value

pub serve-requires-clause-room : goal.serve-requires-clause-room
serve-requires-clause-room c =
    let servers = c.self.inside.servers.items in
    let p =
    placed c.args.self.now servers c.args.server c.from.result c.index_mut.result.now c.from.ensures c.requires.first c.requires.last (ap (λ (s : SeenServers). s.servers) c.self.view_is) c.index_mut.ensures.value in
    has_room c.self.inside.slots servers c.args.server (c.from.result - 1) c.index_mut.result.now c.self.invariant p

pub invariant_of-self : goal.invariant_of-self
invariant_of-self c =
    let p = asked_is c in
    still_servers c.self.inside.servers.items c.args.server c.serve.new.self (c.from.result - 1) p.place c.self.inside.slots c.self.invariant p.below c.serve.ensures.count

pub returns-clause-left : goal.returns-clause-left
returns-clause-left c =
    rw (← c.self.view_is) (left_there c.self.inside.slots c.self.inside.servers.items c.args.server (c.from.result - 1) c.index_mut.result.now c.serve.new.self c.args.request.now (asked_is c) c.serve.result
    c.serve.ensures.left)

pub returns-clause-carried : goal.returns-clause-carried
returns-clause-carried c =
    rw (← c.self.view_is) (all_carried c.self.inside.slots c.self.inside.servers.items c.args.server (c.from.result - 1) c.index_mut.result.now c.serve.new.self c.args.request.now (asked_is c)
    c.args.generation c.serve.result c.serve.ensures.rules c.serve.ensures.left)
