use Rattle.std.proofs.Common.{◌≡◌, ◌≤◌, ◌-◌, Some, None}
use Rattle.std.specs.Prelude.{IsTrue}
use Rattle.zb_claims.specs.Text.{max_script}
use Rattle.zebra.specs.Moves.{tape}
use Rattle.zebra.specs.Running.{Start, IsRunning}
use Rattle.zebra.proofs.run.run_rows.Given as goal

abbrev pub invariant-rows : goal.invariant-rows
invariant-rows g l =
    (l.script.geo ≡ Some l.world.geo)
    × (l.world.course.untold ≡ None)
    × (l.world.geo ≡ l.fn.world.geo)
    × (IsTrue g.O.Bay.tells → (start : Start) → IsRunning start l.fn.script l.fn.source l.fn.world.course (tape (g.O.Bay.counts l.fn.world.out).streams (g.O.Bay.meaning l.fn.world.out)) → IsRunning start l.script l.source l.world.course (tape (g.O.Bay.counts l.world.out).streams (g.O.Bay.meaning l.world.out)))
    × ((g.O.Bay.counts l.fn.world.out).streams.read_faults ≤ (g.O.Bay.counts l.world.out).streams.read_faults)
    × ((g.O.Bay.counts l.fn.world.out).streams.write_faults ≤ (g.O.Bay.counts l.world.out).streams.write_faults)

abbrev pub decreases-rows : goal.decreases-rows
decreases-rows g l = max_script - l.script.used
