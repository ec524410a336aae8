use Rattle.std.proofs.Common.{rules}
use Rattle.zebra.specs.Running.{IsBetween}
use Rattle.zebra.proofs.Finishing.{final, halted_then, not_printed}
use Rattle.zebra.proofs.last.finish.Goals as goal

pub returns-in_err-put_report-clause-told : goal.returns-in_err-put_report-clause-told
returns-in_err-put_report-clause-told g c tells start script h =
    let b : IsBetween start c.args.world.now.geo script c.args.world.now.course (g.O.Bay.meaning c.finish-finished.new.self.out).now.printed = rw c.finish-finished.ensures.out h in
    let cut =
    not_printed start c.args.world.now.geo script c.args.world.now.course c.finish-finished.new.self.course _ _ _ _ b c.finish-finished.result (c.finish-finished.ensures.ok b.given b.lines b.report) (c.finish-finished.ensures.err b.given b.lines b.report)
    c.put_report.result (c.put_report.ensures.told tells) in
    search rules

pub returns-in_err-finished-clause-told : goal.returns-in_err-finished-clause-told
returns-in_err-finished-clause-told g c tells start script h =
    let b : IsBetween start c.args.world.now.geo script c.args.world.now.course (g.O.Bay.meaning c.finish-finished.new.self.out).now.printed = rw c.finish-finished.ensures.out h in
    let cut =
    halted_then start c.args.world.now.geo script c.args.world.now.course c.finish-finished.new.self.course _ _ _ _ b (c.in_err-finished.ensures.err b.given b.lines b.report)
    c.put_report.result (c.put_report.ensures.told tells) in
    search rules

pub returns-clause-told : goal.returns-clause-told
returns-clause-told g c tells start script h =
    let b : IsBetween start c.args.world.now.geo script c.args.world.now.course (g.O.Bay.meaning c.finish-finished.new.self.out).now.printed = rw c.finish-finished.ensures.out h in
    let t = c.in_ok-finished.ensures.ok b.given b.lines b.report in
    let done =
    final start c.args.world.now.geo script c.args.world.now.course c.finish-finished.new.self.course _ _ _ _ b t (c.reports_take_steps.ensures.prints c.args.world.now.geo _ _ c.finish-finished.new.self.course t.report)
    c.put_report.new.self.course c.put_report.ensures.course c.put_report.result (c.put_report.ensures.told tells) in
    search rules
