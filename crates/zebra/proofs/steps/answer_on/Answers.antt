use Rattle.std.proofs.Common.{rules, ap}
use Rattle.zebra.proofs.Stepping.{calling_silent, calling_put, first_client}
use Rattle.zebra.proofs.steps.answer_on.Goals as goal

pub returns-in_err-put_report-in-Answered-clause-told : goal.returns-in_err-put_report-in-Answered-clause-told
returns-in_err-put_report-in-Answered-clause-told g c tells start script plus call h =
    let s = c.in_ok-step_or_holder.ensures.ok h.given h.lines h.report in
    let at = c.steps_keep_the_line.ensures.step _ _ _ _ _ script plus c.args.client call h.report (first_client _ c.args.client c.requires.client) h.at s in
    let prints = c.reports_take_steps.ensures.prints _ _ _ _ s.told.report in
    let put =
    calling_put start c.args.world.now.geo script plus c.args.client call c.args.world.now.course _ h c.step_or_holder.new.self.course s.who s.told at c.put_report.new.self.course c.put_report.ensures.course prints
    c.put_report.result _ _ _ _ (ap (λ out. (g.O.Bay.meaning out).now.printed) c.step_or_holder.ensures.out) (c.put_report.ensures.told tells) in
    search rules

pub returns-in_ok-put_report-in-Answered-clause-told : goal.returns-in_ok-put_report-in-Answered-clause-told
returns-in_ok-put_report-in-Answered-clause-told g c tells start script plus call h =
    let s = c.in_ok-step_or_holder.ensures.ok h.given h.lines h.report in
    let at = c.steps_keep_the_line.ensures.step _ _ _ _ _ script plus c.args.client call h.report (first_client _ c.args.client c.requires.client) h.at s in
    let prints = c.reports_take_steps.ensures.prints _ _ _ _ s.told.report in
    let put =
    calling_put start c.args.world.now.geo script plus c.args.client call c.args.world.now.course _ h c.step_or_holder.new.self.course s.who s.told at c.put_report.new.self.course c.put_report.ensures.course prints
    c.put_report.result _ _ _ _ (ap (λ out. (g.O.Bay.meaning out).now.printed) c.step_or_holder.ensures.out) (c.put_report.ensures.told tells) in
    search rules

pub returns-in-Moved-clause-told : goal.returns-in-Moved-clause-told
returns-in-Moved-clause-told g c tells start script plus call h =
    let s = c.in_ok-step_or_holder.ensures.ok h.given h.lines h.report in
    let at = c.steps_keep_the_line.ensures.step _ _ _ _ _ script plus c.args.client call h.report (first_client _ c.args.client c.requires.client) h.at s in
    calling_silent start c.args.world.now.geo script plus c.args.client call c.args.world.now.course _ h c.step_or_holder.new.self.course s.who s.told at _
    (ap (λ out. (g.O.Bay.meaning out).now.printed) c.step_or_holder.ensures.out) (c.in_ok-step_or_holder.ensures.quiet (search rules))

pub returns-in-Idle-clause-told : goal.returns-in-Idle-clause-told
returns-in-Idle-clause-told g c tells start script plus call h =
    let s = c.in_ok-step_or_holder.ensures.ok h.given h.lines h.report in
    let at = c.steps_keep_the_line.ensures.step _ _ _ _ _ script plus c.args.client call h.report (first_client _ c.args.client c.requires.client) h.at s in
    calling_silent start c.args.world.now.geo script plus c.args.client call c.args.world.now.course _ h c.step_or_holder.new.self.course s.who s.told at _
    (ap (λ out. (g.O.Bay.meaning out).now.printed) c.step_or_holder.ensures.out) (c.in_ok-step_or_holder.ensures.quiet (search rules))
