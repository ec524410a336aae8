use Rattle.zebra.proofs.Stepping.{call_done, calling, first_client, last_client, past_plus, short_call}
use Rattle.zebra.proofs.run.run_call.Goals as goal

pub returns-then-plus-clause-told : goal.returns-then-plus-clause-told
returns-then-plus-clause-told g c tells start script b =
    let given = c.reports_take_calls.ensures.call _ _ _ _ _ c.args.client c.args.call b.report c.requires.line.0 (short_call c.args.call c.requires.line.1) c.in_ok-call.ensures.few c.in_ok-call.ensures.ok in
    let at = c.steps_keep_the_line.ensures.given _ _ _ _ _ script c.args.plus c.args.client c.args.call b.report (first_client _ c.args.client c.requires.line.0) (last_client b.report c.args.client c.requires.line.0) b.unfinished b.past given in
    let called = calling start c.args.world.now.geo script c.args.plus c.args.client c.args.call c.args.world.now.course _ b c.call.new.self.course c.in_ok-call.ensures.ok.text given at in
    rw c.call.ensures.out (past_plus start c.args.world.now.geo script c.args.plus c.args.client c.args.call c.call.new.self.course _ c.if-plus.true called)

pub returns-clause-told : goal.returns-clause-told
returns-clause-told g c tells start script b =
    let given = c.reports_take_calls.ensures.call _ _ _ _ _ c.args.client c.args.call b.report c.requires.line.0 (short_call c.args.call c.requires.line.1) c.in_ok-call.ensures.few c.in_ok-call.ensures.ok in
    let at = c.steps_keep_the_line.ensures.given _ _ _ _ _ script c.args.plus c.args.client c.args.call b.report (first_client _ c.args.client c.requires.line.0) (last_client b.report c.args.client c.requires.line.0) b.unfinished b.past given in
    let called = calling start c.args.world.now.geo script c.args.plus c.args.client c.args.call c.args.world.now.course _ b c.call.new.self.course c.in_ok-call.ensures.ok.text given at in
    let told = rw (c.call.ensures.geo, c.call.ensures.out) at c.settle.ensures.told tells start script c.args.plus c.args.call in
    call_done start c.args.world.now.geo script c.args.plus c.args.client c.args.call c.settle.new.world.course _ c.settle.result c.settle.ensures.idle
    (λ given lines r idle. c.reports_end.ensures.lines _ given lines _ c.args.client r (first_client _ c.args.client c.requires.line.0) idle) (told called)
