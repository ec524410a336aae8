use Rattle.std.proofs.Common.{sym, subst, rules}
use Rattle.zb_steps.specs.Going.{Onward}
use Rattle.zb_client.specs.contracts.client.Client.{the_view}
use Rattle.zb_client.specs.declared.steps.Answer.TheVariants.{Server}
use Rattle.zb_client.specs.Seen.{SeenClient}
use Rattle.zb_client.specs.Answering.{Answers}
use Rattle.zb_client.specs.Hearing.{Hears}
use Rattle.zb_client.proofs.Answered.{server_hears}
use Rattle.zb_client.proofs.Heard.{server_heard, server_wears}
use Rattle.zb_client.proofs.client.Client.hear_server.Goals as goal

pub returns-in-Ok-clause-ok : goal.returns-in-Ok-clause-ok
returns-in-Ok-clause-ok c =
    let view = the_view c.self.inside in
    let on : Onward = record { desk = c.served-served.new.self; next = c.in-Ok.next } in
    let answers = subst (λ (z : SeenClient). Answers z (Server c.args.response c.args.serving)) (sym c.self.view_is) c.requires.answers in
    let gives = rw c.deref.ensures.value at c.in-Ok.ensures.ok in
    subst (λ (z : SeenClient). Hears z (Server c.args.response c.args.serving) (record { client = c.go_on.new.self; told = c.go_on.result })) c.self.view_is
    (server_hears view view.task c.args.response c.args.serving (record { client = c.go_on.new.self; told = c.go_on.result }) answers
    (server_heard view c.take_step-step.new.task c.take_step-step.result c.args.response c.args.serving on (record { client = c.go_on.new.self; told = c.go_on.result })
    c.take_step-step.ensures.left c.take_step-step.ensures.taken gives c.go_on.ensures))

pub returns-in-Err-clause-worn : goal.returns-in-Err-clause-worn
returns-in-Err-clause-worn c =
    let wears = rw c.deref.ensures.value at c.in-Err.ensures.worn in
    rw (← c.self.view_is)
    (λ worn. server_wears (the_view c.self.inside) c.take_step-step.result c.args.response c.take_step-step.ensures.taken (wears (search rules)))
