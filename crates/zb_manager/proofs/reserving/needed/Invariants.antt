use Rattle.std.proofs.Common.{◌≡◌, ◌+◌, length}
use Rattle.zb_manager.specs.Works.{needed}
use Rattle.zb_manager.proofs.reserving.needed.Given as goal

abbrev pub invariant-loop-step : goal.invariant-loop-step
invariant-loop-step l = l.count + needed l.fid.0 l.rest ≡ needed l.fid.0 l.fn.steps

abbrev pub decreases-loop-step : goal.decreases-loop-step
decreases-loop-step l = length l.rest
