use Rattle.std.proofs.Common.{◌≡◌, None, Some, sym, arith}
use Rattle.std.specs.Prelude.{position}
use Rattle.zb_script.proofs.Marks.{is_end}
use Rattle.zb_script.proofs.NextBytes.{endless, too_far, whole_next, open_line}
use Rattle.zb_script.proofs.reader.Script.next.Goals as goal
use Rattle.zb_script.proofs.reader.Script.next.Goals.{then-bytes-le-MAX_LINE, else-bytes-le-MAX_LINE}

pub returns-in_default-clause-next : goal.returns-in_default-clause-next
returns-in_default-clause-next c =
    let at : position is_end c.args.bytes.now ≡ None = sym c.in_default.ensures in
    elim c.if-bytes-le-MAX_LINE.branch [
      | then-bytes-le-MAX_LINE w ↦ rw w.result-is (open_line c.args.bytes.now at (omega (arith, w.if-bytes-le-MAX_LINE.true)))
      | else-bytes-le-MAX_LINE w ↦ rw w.result-is (c.line_number-number.ensures, endless c.args.self.now c.args.bytes.now at (omega (arith, w.if-bytes-le-MAX_LINE.false)))
    ]

pub returns-then-end-self-clause-next : goal.returns-then-end-self-clause-next
returns-then-end-self-clause-next c =
    let at : position is_end c.args.bytes.now ≡ Some c.in-Some.end = sym c.in-Some.ensures in
    (c.line_number-number.ensures, too_far c.args.self.now c.args.bytes.now c.in-Some.end at (rw (← c.self.view_is) (omega (arith, c.if-end-self.true))))

pub returns-clause-next : goal.returns-clause-next
returns-clause-next c =
    let at : position is_end c.args.bytes.now ≡ Some c.in-Some.end = sym c.in-Some.ensures in
    whole_next c.args.self.now c.args.bytes.now c.in-Some.end c.in_ok-parsed.parsed at (rw (← c.self.view_is) (omega (arith, c.if-end-self.false))) (rw c.split_at.ensures.front at c.in_ok-parsed.ensures)
