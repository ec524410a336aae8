use Rattle.zb_servers.proofs.Ruling.{append_left}
use Rattle.zb_servers.proofs.server.Server.serve.Goals as goal

pub returns-in-Append-clause-left : goal.returns-in-Append-clause-left
returns-in-Append-clause-left c =
    rw (c.in-Append.is, ← c.slice-in-Append.ensures)
    (append_left c.args.slots c.args.self.now c.append.new.self c.in-Append.id c.in-Append.place c.slice-in-Append.result.now c.append.result _ c.append.ensures.answer c.append.ensures.put
    c.append.ensures.refused c.append.ensures.count c.append.ensures.fence)
