use Rattle.std.proofs.Common.{rules, ap}
use Rattle.zb_running.specs.Telling.{HasTold}
use Rattle.zebra.proofs.Stepping.{between_silent, between_put}
use Rattle.zebra.proofs.steps.step_once.Goals as goal

pub returns-in_err-put_report-in-Answered-clause-told : goal.returns-in_err-put_report-in-Answered-clause-told
returns-in_err-put_report-in-Answered-clause-told g c tells start script h =
    let t : HasTold h.report c.step.new.self.course c.args.client = c.reports_take_steps.ensures.step _ _ _ _ _ c.args.client c.in_ok-step.field-0 h.report c.requires.client c.in_ok-step.ensures.ok in
    let past = c.steps_keep_the_line.ensures.between _ _ _ _ _ script c.args.client h.report h.past t in
    let prints = c.reports_take_steps.ensures.prints _ _ _ _ t.report in
    let put =
    between_put start c.args.world.now.geo script c.args.world.now.course _ h c.step.new.self.course c.args.client t past c.put_report.new.self.course c.put_report.ensures.course prints
    c.put_report.result _ _ _ _ (ap (λ out. (g.O.Bay.meaning out).now.printed) c.step.ensures.out) (c.put_report.ensures.told tells) in
    search rules

pub returns-in_ok-put_report-in-Answered-clause-told : goal.returns-in_ok-put_report-in-Answered-clause-told
returns-in_ok-put_report-in-Answered-clause-told g c tells start script h =
    let t : HasTold h.report c.step.new.self.course c.args.client = c.reports_take_steps.ensures.step _ _ _ _ _ c.args.client c.in_ok-step.field-0 h.report c.requires.client c.in_ok-step.ensures.ok in
    let past = c.steps_keep_the_line.ensures.between _ _ _ _ _ script c.args.client h.report h.past t in
    let prints = c.reports_take_steps.ensures.prints _ _ _ _ t.report in
    let put =
    between_put start c.args.world.now.geo script c.args.world.now.course _ h c.step.new.self.course c.args.client t past c.put_report.new.self.course c.put_report.ensures.course prints
    c.put_report.result _ _ _ _ (ap (λ out. (g.O.Bay.meaning out).now.printed) c.step.ensures.out) (c.put_report.ensures.told tells) in
    search rules

pub returns-in-Moved-clause-told : goal.returns-in-Moved-clause-told
returns-in-Moved-clause-told g c tells start script h =
    let t : HasTold h.report c.step.new.self.course c.args.client = c.reports_take_steps.ensures.step _ _ _ _ _ c.args.client c.in_ok-step.field-0 h.report c.requires.client c.in_ok-step.ensures.ok in
    let past = c.steps_keep_the_line.ensures.between _ _ _ _ _ script c.args.client h.report h.past t in
    between_silent start c.args.world.now.geo script c.args.world.now.course _ h c.step.new.self.course c.args.client t past _
    (ap (λ out. (g.O.Bay.meaning out).now.printed) c.step.ensures.out) (c.in_ok-step.ensures.quiet (search rules))

pub returns-in-Blocked-clause-told : goal.returns-in-Blocked-clause-told
returns-in-Blocked-clause-told g c tells start script h =
    let t : HasTold h.report c.step.new.self.course c.args.client = c.reports_take_steps.ensures.step _ _ _ _ _ c.args.client c.in_ok-step.field-0 h.report c.requires.client c.in_ok-step.ensures.ok in
    let past = c.steps_keep_the_line.ensures.between _ _ _ _ _ script c.args.client h.report h.past t in
    between_silent start c.args.world.now.geo script c.args.world.now.course _ h c.step.new.self.course c.args.client t past _
    (ap (λ out. (g.O.Bay.meaning out).now.printed) c.step.ensures.out) (c.in_ok-step.ensures.quiet (search rules))
