use Rattle.std.proofs.Common.{ap}
use Rattle.zb_layout.proofs.Reaching.{rests, numbered}
use Rattle.zb_layout.proofs.server_of.Goals as goal

pub returns : goal.returns
returns c =
    let id = c.args.id in
    let n = c.args.geo.now.servers in
    ap numbered (rw (c.from-servers.ensures, c.from.ensures, c.from-2.ensures) (rests id.log.0 id.stripe id.index n))
