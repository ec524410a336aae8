use Rattle.std.proofs.Common.{ap, sym}
use Rattle.zb_steps.specs.declared.next.Next.{Next}
use Rattle.zb_steps.specs.Going.{Onward}
use Rattle.zb_steps.proofs.Serving.{gives_plain}
use Rattle.zb_steps.proofs.desk.Desk.fetched.Goals as goal

pub returns-then-not-brings_bytes-clause-ok : goal.returns-then-not-brings_bytes-clause-ok
returns-then-not-brings_bytes-clause-ok c =
    let on : Onward = record { desk = c.args.self.now; next = c.lacking.result } in
    gives_plain c.args.self.now c.args.kept.now c.args.queue.now.items c.args.read.basis c.args.read.at c.args.read.ptr c.args.read.plan c.args.response.now c.args.serving on (sym c.if-not-brings_bytes.ensures)
    (ap (λ (n : Next). let o : Onward = record { desk = c.args.self.now; next = n } in o) c.lacking.ensures)
