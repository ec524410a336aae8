use Rattle.std.proofs.Common.{◌≡◌, ℕ, ◌+◌, ◌-◌, ◌≤◌, cond, List, length}
use Rattle.std.specs.Prelude.{IsTrue}
use Rattle.zebra.specs.Moves.{Tape, tape, IsRead}
use Rattle.zebra.proofs.run.fill.Given as goal

abbrev pub invariant-takes : goal.invariant-takes
invariant-takes g l =
    (l.world.course ≡ l.fn.world.course)
    × (l.world.geo ≡ l.fn.world.geo)
    × (IsTrue g.O.Bay.tells → (start : Tape) (front : List ℕ) → IsRead start front l.fn.source (tape (g.O.Bay.counts l.fn.world.out).streams (g.O.Bay.meaning l.fn.world.out)) → IsRead start front l.source (tape (g.O.Bay.counts l.world.out).streams (g.O.Bay.meaning l.world.out)))
    × (IsTrue g.O.Bay.tells → (g.O.Bay.meaning l.world.out).now.printed ≡ (g.O.Bay.meaning l.fn.world.out).now.printed)
    × ((g.O.Bay.counts l.fn.world.out).streams.read_faults ≤ (g.O.Bay.counts l.world.out).streams.read_faults)
    × ((g.O.Bay.counts l.world.out).streams.write_faults ≡ (g.O.Bay.counts l.fn.world.out).streams.write_faults)

abbrev pub decreases-takes : goal.decreases-takes
decreases-takes g l = (17001 - length l.source.rest) + cond l.source.ended 0 1
