use Rattle.std.proofs.Common.{subst, sym}
use Rattle.zb_claims.specs.Script.{lines_in}
use Rattle.zb_types.specs.declared.geometry.Geometry.{Geometry}
use Rattle.zb_running.specs.Reports.{HasReport}
use Rattle.zebra.specs.declared.reading.Ending.{Ending}
use Rattle.zebra.specs.Moves.{tape}
use Rattle.zebra.specs.Running.{HasStopped, IsFinal}
use Rattle.zebra.proofs.Finishing.{between_at, broken_at, ended_at, starved_at}
use Rattle.zebra.proofs.Running.{on_this_err}
use Rattle.zebra.proofs.last.last_of.Goals as goal

pub returns-in_err-done-in-End-clause-told : goal.returns-in_err-done-in-End-clause-told
returns-in_err-done-in-End-clause-told g c tells start p same h =
    let before = tape (g.O.Bay.counts c.args.world.now.out).streams (g.O.Bay.meaning c.args.world.now.out) in
    let now = tape (g.O.Bay.counts c.finish.new.world.out).streams (g.O.Bay.meaning c.finish.new.world.out) in
    let s = subst (λ (e : Ending). HasStopped e start p c.args.world.now.course before) c.in-End.is h in
    let b = between_at start p c.args.world.now.course c.finish.new.world.course before now s (c.finish.ensures.takes tells) c.args.world.now.geo same in
    on_this_err c.from_residual-in_err-done-in-End.result c.in_err-done-in-End.field-0.0 _ _ c.from_residual-in_err-done-in-End.ensures.1
    (broken_at start p c.args.world.now.course c.finish.new.world.course before now s (c.finish.ensures.takes tells) c.args.world.now.geo same _ (c.in_err-done-in-End.ensures.told tells start.tape.printed (lines_in s.rows) b))

pub returns-in_err-end_of-in-End-clause-told : goal.returns-in_err-end_of-in-End-clause-told
returns-in_err-end_of-in-End-clause-told g c tells start p same h =
    let before = tape (g.O.Bay.counts c.args.world.now.out).streams (g.O.Bay.meaning c.args.world.now.out) in
    let now = tape (g.O.Bay.counts c.finish.new.world.out).streams (g.O.Bay.meaning c.finish.new.world.out) in
    let s = subst (λ (e : Ending). HasStopped e start p c.args.world.now.course before) c.in-End.is h in
    let b = between_at start p c.args.world.now.course c.finish.new.world.course before now s (c.finish.ensures.takes tells) c.args.world.now.geo same in
    on_this_err c.from_residual-in_err-end_of-in-End.result _ _ _ c.from_residual-in_err-end_of-in-End.ensures.1
    (starved_at start p c.args.world.now.course c.finish.new.world.course before now s (c.finish.ensures.takes tells) c.args.world.now.geo same (c.in_ok-done-in-End.ensures.told tells start.tape.printed (lines_in s.rows) b))

pub returns-in_ok-end_of-in-End-clause-told : goal.returns-in_ok-end_of-in-End-clause-told
returns-in_ok-end_of-in-End-clause-told g c tells start p same h =
    let before = tape (g.O.Bay.counts c.args.world.now.out).streams (g.O.Bay.meaning c.args.world.now.out) in
    let now = tape (g.O.Bay.counts c.finish.new.world.out).streams (g.O.Bay.meaning c.finish.new.world.out) in
    let s = subst (λ (e : Ending). HasStopped e start p c.args.world.now.course before) c.in-End.is h in
    let b = between_at start p c.args.world.now.course c.finish.new.world.course before now s (c.finish.ensures.takes tells) c.args.world.now.geo same in
    let f : IsFinal start.tape.printed c.args.world.now.geo (lines_in s.rows) c.finish.new.world.course now.printed = c.in_ok-done-in-End.ensures.told tells start.tape.printed (lines_in s.rows) b in
    ended_at start p c.args.world.now.course c.finish.new.world.course before now s (c.finish.ensures.takes tells) c.args.world.now.geo same f
    (c.reports_end.ensures.last c.args.world.now.geo f.given f.lines c.finish.new.world.course f.report c.in_ok-done-in-End.ensures.idle c.in_ok-done-in-End.ensures.none_kept)
    c.in_ok-done-in-End.done c.in_ok-done-in-End.ensures.unfinished c.in_ok-end_of-in-End.field-0 c.in_ok-end_of-in-End.ensures.status
    (c.in_ok-end_of-in-End.ensures.text f.given f.lines (subst (λ (geo : Geometry). HasReport geo f.given f.lines c.finish.new.world.course) (sym c.finish.ensures.geo) f.report))
