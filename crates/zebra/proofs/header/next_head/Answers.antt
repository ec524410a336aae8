use Rattle.zb_script.specs.Places.{IsOpen}
use Rattle.zebra.proofs.NextRow.{no_row, no_line}
use Rattle.zebra.proofs.Heading.{no_row_here}
use Rattle.zebra.proofs.header.next_head.Goals as goal
use Rattle.zebra.proofs.header.next_head.Goals.{in-Skipped, in-Header, in-Bad, in-More, in-Line}

pub returns-clause-next : goal.returns-clause-next
returns-clause-next c = elim c.match-branch-2.branch [
  | in-Skipped w ↦ rw w.result-is (rw (w.in-Skipped.is, c.rest.ensures) at c.in_ok-used.ensures.next)
  | in-Header w ↦ rw w.result-is (rw (w.in-Header.is, c.rest.ensures) at c.in_ok-used.ensures.next).1
  | in-Bad w ↦ rw w.result-is (let here = rw (w.in-Bad.is, c.rest.ensures) at c.in_ok-used.ensures.next in (here.0, no_row_here c.args.script.now c.args.source.now here.1))
  | in-More w ↦ rw w.result-is (let here : IsOpen c.args.source.now.rest = rw (w.in-More.is, c.rest.ensures) at c.in_ok-used.ensures.next in
      (c.line_number-number.ensures, no_row c.args.script.now.geo c.args.script.now.used c.args.source.now c.requires.whole here))
  | in-Line w ↦ absurd (let here = rw (w.in-Line.is, c.rest.ensures) at c.in_ok-used.ensures.next in no_line c.args.script.now.geo _ c.requires.none here.0)
]
