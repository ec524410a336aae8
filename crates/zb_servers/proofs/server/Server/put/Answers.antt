use Rattle.std.proofs.Common.{◌+◌, cond, length, Some, ap, ◌∙◌, is_some}
use Rattle.zb_servers.proofs.Naming.{stands-is, put_by}
use Rattle.zb_servers.proofs.server.Server.put.Goals as goal

pub returns-clause-put : goal.returns-clause-put
returns-clause-put c =
    let old = c.self.inside.kept.entries in
    rw (← c.self.view_is) (put_by old c.insert.new.self.entries c.args.id (Some c.args.kept) c.in_ok-insert.ensures.updates.0)

pub returns-clause-count : goal.returns-clause-count
returns-clause-count c =
    let old = c.self.inside.kept.entries in
    let was = c.in_ok-insert.ensures.old ∙ stands-is old c.args.id in
    rw (← c.self.view_is) (c.in_ok-insert.ensures.len ∙ ap (λ o. length old + cond (is_some o) 0 1) was)
