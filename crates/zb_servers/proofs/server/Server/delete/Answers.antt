use Rattle.std.proofs.Common.{◌+◌, cond, length, None, sym, ap, ◌∙◌, is_some}
use Rattle.zb_servers.proofs.Naming.{stands-is, put_by}
use Rattle.zb_servers.proofs.server.Server.delete.Goals as goal

pub returns-clause-put : goal.returns-clause-put
returns-clause-put c = rw (← c.self.view_is) (put_by c.self.inside.kept.entries c.remove.new.self.entries c.args.id None c.remove.ensures.updates.0)

pub returns-clause-count : goal.returns-clause-count
returns-clause-count c =
    let old = c.self.inside.kept.entries in
    let was = c.remove.ensures.value ∙ stands-is old c.args.id in
    rw (← c.self.view_is) (ap (λ o. length c.remove.new.self.entries + cond (is_some o) 1 0) (sym was) ∙ c.remove.ensures.len)
