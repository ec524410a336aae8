use Rattle.std.proofs.Common.{◌≡◌, ◌≤◌, ◌-◌, None}
use Rattle.std.specs.Prelude.{IsTrue}
use Rattle.zb_claims.specs.Text.{max_script}
use Rattle.zebra.specs.Moves.{Tape, tape}
use Rattle.zebra.specs.Headers.{IsHeading}
use Rattle.zebra.proofs.header.read_head.Given as goal

abbrev pub invariant-lines : goal.invariant-lines
invariant-lines g l =
    (l.script.geo ≡ None)
    × (IsTrue g.O.Bay.tells → (start : Tape) → IsHeading start l.fn.script l.fn.source (tape (g.O.Bay.counts l.fn.out).streams (g.O.Bay.meaning l.fn.out)) → IsHeading start l.script l.source (tape (g.O.Bay.counts l.out).streams (g.O.Bay.meaning l.out)))
    × (IsTrue g.O.Bay.tells → (g.O.Bay.meaning l.out).now.printed ≡ (g.O.Bay.meaning l.fn.out).now.printed)
    × ((g.O.Bay.counts l.fn.out).streams.read_faults ≤ (g.O.Bay.counts l.out).streams.read_faults)
    × ((g.O.Bay.counts l.fn.out).streams.write_faults ≤ (g.O.Bay.counts l.out).streams.write_faults)

abbrev pub decreases-lines : goal.decreases-lines
decreases-lines g l = max_script - l.script.used
