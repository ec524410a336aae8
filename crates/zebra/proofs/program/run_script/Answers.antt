use Rattle.std.proofs.Common.{sym, []}
use Rattle.zb_given.specs.Given.{none_given}
use Rattle.zb_running.specs.Reports.{HasReport}
use Rattle.zebra.specs.Moves.{tape}
use Rattle.zebra.specs.Running.{Start, IsRunning}
use Rattle.zebra.proofs.Closing.{start_of, ran, broken, first_running}
use Rattle.zebra.proofs.program.run_script.Goals as goal
use Rattle.zebra.proofs.program.run_script.Goals.{in-Ok-last, in-Err-last}

pub returns-clause-told : goal.returns-clause-told
returns-clause-told g c tells tape_before has same =
    let before = tape (g.O.Bay.counts c.args.out).streams (g.O.Bay.meaning c.args.out) in
    let start : Start = start_of tape_before c.args.geo c.args.script c.args.source before has in
    let report : HasReport c.args.geo none_given [] c.in-Ok.world.course = c.reports_begin.ensures c.args.geo c.in-Ok.world.course c.in-Ok.ensures.first in
    let running : IsRunning start c.args.script c.args.source c.in-Ok.world.course (tape (g.O.Bay.counts c.in-Ok.world.out).streams (g.O.Bay.meaning c.in-Ok.world.out)) =
    rw c.in-Ok.ensures.out (first_running tape_before c.args.geo c.args.script c.args.source before has same c.in-Ok.world.course report c.in-Ok.ensures.first.text) in
    elim c.match-last.branch [
      | in-Ok-last w ↦ rw (w.status-is, w.out-is) (ran start (tape (g.O.Bay.counts c.run_all-last.new.world.out).streams (g.O.Bay.meaning c.run_all-last.new.world.out)) (tape (g.O.Bay.counts w.put_last-status.new.out).streams (g.O.Bay.meaning w.put_last-status.new.out))
          w.in-Ok-last.last c.run_all-last.new.source w.put_last-status.result.0 has.skipped_first (w.in-Ok-last.ensures.told tells start (sym c.in-Ok.ensures.geo) running)
          (rw (w.deref.ensures.value, c.outside-out.ensures) at w.put_last-status.ensures.told tells))
      | in-Err-last w ↦ rw (w.status-is, w.out-is) (broken start w.in-Err-last.halted (tape (g.O.Bay.counts c.run_all-last.new.world.out).streams (g.O.Bay.meaning c.run_all-last.new.world.out))
          (tape (g.O.Bay.counts w.put_halted-status-in-Err-last.new.out).streams (g.O.Bay.meaning w.put_halted-status-in-Err-last.new.out))
          w.put_halted-status-in-Err-last.result.0 has.skipped_first (w.in-Err-last.ensures.told tells start (sym c.in-Ok.ensures.geo) running)
          (rw c.outside-out.ensures at w.put_halted-status-in-Err-last.ensures.told tells))
    ]
