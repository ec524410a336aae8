use Rattle.std.proofs.Common.{sym, subst}
use Rattle.zb_work.specs.Fitting.{wanted_for}
use Rattle.zb_steps.specs.Going.{Onward}
use Rattle.zb_client.specs.contracts.client.Client.{the_view}
use Rattle.zb_client.specs.declared.steps.Answer.TheVariants.{Found}
use Rattle.zb_client.specs.Seen.{SeenClient}
use Rattle.zb_client.specs.Telling.{Heard}
use Rattle.zb_client.specs.Answering.{Answers}
use Rattle.zb_client.specs.Hearing.{Hears, GoesOn, asks, looked_up}
use Rattle.zb_client.proofs.Answered.{found_hears}
use Rattle.zb_client.proofs.Heard.{goes_heard}
use Rattle.zb_client.proofs.client.Client.hear_found.Goals as goal

pub returns-clause-ok : goal.returns-clause-ok
returns-clause-ok c =
    let view = the_view c.self.inside in
    let on : Onward = record { desk = c.found.new.self; next = c.in_ok-next.next } in
    let answers = subst (λ (z : SeenClient). Answers z (Found c.args.found)) (sym c.self.view_is) c.requires.answers in
    let gives = rw c.deref.ensures.value at c.in_ok-next.ensures.ok in
    let goes = goes_heard (asks view (wanted_for view.block view.kept view.queue c.args.found)) (looked_up view c.args.found) on gives in
    subst (λ (z : SeenClient). Hears z (Found c.args.found) (record { client = c.go_on.new.self; told = c.go_on.result })) c.self.view_is
    (found_hears view view.task c.args.found (record { client = c.go_on.new.self; told = c.go_on.result }) answers
    (subst (λ (h : Heard). GoesOn (asks view (wanted_for view.block view.kept view.queue c.args.found)) (looked_up view c.args.found) h) c.go_on.ensures goes))
