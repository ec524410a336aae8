use Rattle.std.proofs.Common.{ap, sym}
use Rattle.zb_steps.specs.declared.next.Next.{Next}
use Rattle.zb_steps.specs.Going.{Onward}
use Rattle.zb_steps.proofs.Serving.{gives_lack}
use Rattle.zb_steps.proofs.desk.Desk.took.Goals as goal

pub returns-in_default-clause-ok : goal.returns-in_default-clause-ok
returns-in_default-clause-ok c =
    let on : Onward = record { desk = c.args.self.now; next = c.lacked.result } in
    gives_lack c.args.self.now c.args.kept.now c.args.queue.now.items c.args.read.basis c.args.read.at c.args.read.ptr c.args.fed.0 c.args.serving c.args.fed.1 on (λ bytes e. c.in_default.not-Bytes bytes (sym e))
    (ap (λ (n : Next). let o : Onward = record { desk = c.args.self.now; next = n } in o) c.lacked.ensures)
