use Rattle.std.proofs.Common.{◌≡◌, ℕ, ◌+◌, ◌-◌, ◌≤◌, cond, List, length}
use Rattle.std.specs.Prelude.{IsTrue}
use Rattle.zebra.specs.Moves.{Tape, tape, IsRead}
use Rattle.zebra.proofs.header.fill.Given as goal

abbrev pub invariant-takes : goal.invariant-takes
invariant-takes g l =
    (IsTrue g.O.Bay.tells → (start : Tape) (front : List ℕ) → IsRead start front l.fn.source (tape (g.O.Bay.counts l.fn.out).streams (g.O.Bay.meaning l.fn.out)) → IsRead start front l.source (tape (g.O.Bay.counts l.out).streams (g.O.Bay.meaning l.out)))
    × (IsTrue g.O.Bay.tells → (g.O.Bay.meaning l.out).now.printed ≡ (g.O.Bay.meaning l.fn.out).now.printed)
    × ((g.O.Bay.counts l.fn.out).streams.read_faults ≤ (g.O.Bay.counts l.out).streams.read_faults)
    × ((g.O.Bay.counts l.out).streams.write_faults ≡ (g.O.Bay.counts l.fn.out).streams.write_faults)

abbrev pub decreases-takes : goal.decreases-takes
decreases-takes g l = (17001 - length l.source.rest) + cond l.source.ended 0 1
