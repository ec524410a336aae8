use Rattle.std.proofs.Common.{◌≡◌, ◌≤◌, length, reverse}
use Rattle.zb_ledger.specs.Seen.{told_all}
use Rattle.zb_course.proofs.lines.tell_all.Given as goal

abbrev pub invariant-loop-line : goal.invariant-loop-line
invariant-loop-line l =
    (told_all l.ledger l.client (reverse l.rest.items) ≡ told_all l.fn.ledger l.client l.fn.lines)
    × (length l.rest.items ≤ l.ledger.room) × (l.client ≤ l.ledger.clients)

abbrev pub decreases-loop-line : goal.decreases-loop-line
decreases-loop-line l = length l.rest.items
