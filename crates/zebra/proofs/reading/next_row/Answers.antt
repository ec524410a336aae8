use Rattle.std.proofs.Common.{sym, ◌∙◌}
use Rattle.zb_script.specs.Places.{IsOpen}
use Rattle.zebra.proofs.NextRow.{bad_line, open_bad, open_end, nothing_or_some, next_line}
use Rattle.zebra.proofs.reading.next_row.Goals as goal
use Rattle.zebra.proofs.reading.next_row.Goals.{in-Line, in-Skipped, in-More, in-Bad, in-Header}

pub returns-clause-next : goal.returns-clause-next
returns-clause-next c = elim c.match-branch-2.branch [
  | in-Line w ↦ rw (w.result-is, w.next_of.ensures) (let here = rw (w.in-Line.is, c.rest-rest.ensures) at c.in_ok-line.ensures.next in
      next_line c.args.script.now c.args.source.now c.line_number-number.result w.in-Line.line w.in-Line.used c.line_number-number.ensures here.0 here.1)
  | in-Skipped w ↦ rw w.result-is (rw (w.in-Skipped.is, c.rest-rest.ensures) at c.in_ok-line.ensures.next)
  | in-More w ↦ rw w.result-is (let here : IsOpen c.args.source.now.rest = rw (w.in-More.is, c.rest-rest.ensures) at c.in_ok-line.ensures.next in
      nothing_or_some c.args.source.now.rest _
      (λ none. rw (w.unended.ensures.none (c.rest-rest.ensures ∙ none)) (open_end c.args.source.now c.requires.whole here none))
      (λ some. rw (w.unended.ensures.some (λ none. some (sym c.rest-rest.ensures ∙ none))) (c.line_number-number.ensures, open_bad c.args.script.now c.args.source.now c.requires.whole here some)))
  | in-Bad w ↦ rw w.result-is (let here = rw (w.in-Bad.is, c.rest-rest.ensures) at c.in_ok-line.ensures.next in (here.0, bad_line c.args.script.now c.args.source.now here.1))
  | in-Header w ↦ absurd (let here = rw (w.in-Header.is, c.rest-rest.ensures) at c.in_ok-line.ensures.next in c.requires.system here.0)
]
