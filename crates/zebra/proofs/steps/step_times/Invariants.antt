use Rattle.std.proofs.Common.{◌≡◌, ◌≤◌, List, None, ℕ}
use Rattle.std.specs.Prelude.{IsTrue}
use Rattle.zb_types.specs.declared.lines.Line.{Line}
use Rattle.zebra.specs.Moves.{tape, TakesNone}
use Rattle.zebra.specs.Running.{IsBetween}
use Rattle.zebra.proofs.steps.step_times.Given as goal

abbrev pub invariant-steps : goal.invariant-steps
invariant-steps g l =
    (l.world.course.untold ≡ None)
    × (l.world.geo ≡ l.fn.world.geo)
    × (IsTrue g.O.Bay.tells → (start : List ℕ) (script : List Line) → IsBetween start l.fn.world.geo script l.fn.world.course (g.O.Bay.meaning l.fn.world.out).now.printed → IsBetween start l.fn.world.geo script l.world.course (g.O.Bay.meaning l.world.out).now.printed)
    × (IsTrue g.O.Bay.tells → TakesNone (tape (g.O.Bay.counts l.fn.world.out).streams (g.O.Bay.meaning l.fn.world.out)) (tape (g.O.Bay.counts l.world.out).streams (g.O.Bay.meaning l.world.out)))
    × ((g.O.Bay.counts l.fn.world.out).streams.write_faults ≤ (g.O.Bay.counts l.world.out).streams.write_faults)
    × ((g.O.Bay.counts l.fn.world.out).streams.read_faults ≤ (g.O.Bay.counts l.world.out).streams.read_faults)
