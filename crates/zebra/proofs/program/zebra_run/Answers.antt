use Rattle.std.proofs.Common.{sym}
use Rattle.zebra.specs.Moves.{tape}
use Rattle.zebra.proofs.Heading.{first_heading}
use Rattle.zebra.proofs.Closing.{missing_put, broken_first}
use Rattle.zebra.proofs.program.zebra_run.Goals as goal
use Rattle.zebra.proofs.program.zebra_run.Goals.{in-Ok-Missing, in-Err}

pub returns-in-Ok-System-clause-runs : goal.returns-in-Ok-System-clause-runs
returns-in-Ok-System-clause-runs g c tells own =
    let start = tape (g.O.Bay.counts c.args.out).streams (g.O.Bay.meaning c.args.out) in
    let head = rw c.in-Ok-System.field-0-is at c.in-Ok-System.ensures.told tells start (rw (c.new-script.ensures, c.new-source.ensures) (first_heading start)) in
    c.run_script.ensures.told tells start head (sym (c.read_head.ensures.prints tells))

pub returns-clause-runs : goal.returns-clause-runs
returns-clause-runs g c tells own =
    let start = tape (g.O.Bay.counts c.args.out).streams (g.O.Bay.meaning c.args.out) in
    elim c.match-read_head.branch [
      | in-Ok-Missing w ↦ rw (w.status-is, w.out-is)
          (let head = rw w.in-Ok-Missing.field-0-is at w.in-Ok-Missing.ensures.told tells start (rw (c.new-script.ensures, c.new-source.ensures) (first_heading start)) in
          missing_put start _ _ w.in-Ok-Missing.number _ c.read_head.new.source w.bad_line.result head w.bad_line.ensures (c.read_head.ensures.prints tells) (w.put_fault-status.ensures.told tells))
      | in-Err w ↦ rw (w.status-is, w.out-is)
          (broken_first w.in-Err.halted start _ _ _ (w.in-Err.ensures.told tells start (rw (c.new-script.ensures, c.new-source.ensures) (first_heading start))) (c.read_head.ensures.prints tells) (w.put_halted-status.ensures.told tells))
    ]
