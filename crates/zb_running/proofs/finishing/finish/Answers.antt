use Rattle.std.proofs.Common.{rules, length}
use Rattle.zb_given.specs.Given.{with_finish}
use Rattle.zb_finishing.proofs.Begun.{begun_before, begun_now}
use Rattle.zb_running.proofs.Reported.{finish_given}
use Rattle.zb_running.proofs.Runs.{tells_both, tells_until}
use Rattle.zb_running.proofs.finishing.finish.Goals as goal

pub returns-in_err-run_all-clause-err : goal.returns-in_err-run_all-clause-err
returns-in_err-run_all-clause-err c geo given lines r =
    let h = c.in_err-run_all.ensures.err geo _ lines (finish_given r).report in
    search rules

pub flush_all-requires-clause-telling : goal.flush_all-requires-clause-telling
flush_all-requires-clause-telling c =
    let t = c.requires.telling in
    let a = c.in_ok-run_all.ensures.ok t.geo _ t.lines (finish_given t.report).report in
    record { geo = t.geo; given = _; lines = _; report = a.report; finishing = begun_before (with_finish t.given (length t.lines)) t.lines a.more (begun_now t.given t.lines) }

pub returns-in_err-flush_all-clause-err : goal.returns-in_err-flush_all-clause-err
returns-in_err-flush_all-clause-err c geo given lines r =
    let a = c.in_ok-run_all.ensures.ok geo _ lines (finish_given r).report in
    let h = tells_until a (c.in_err-flush_all.ensures.err geo _ _ a.report (begun_before (with_finish given (length lines)) lines a.more (begun_now given lines))) in
    search rules

pub returns-clause-ok : goal.returns-clause-ok
returns-clause-ok c geo given lines r =
    let a = c.in_ok-run_all.ensures.ok geo _ lines (finish_given r).report in
    tells_both a (c.in_ok-flush_all.ensures.ok geo _ _ a.report (begun_before (with_finish given (length lines)) lines a.more (begun_now given lines)))
