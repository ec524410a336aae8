use Rattle.std.proofs.Common.{◌≡◌, take}
use Rattle.zb_forming.specs.Ops.{deltas_made}
use Rattle.zb_forming.proofs.building.deltas_made.Given as goal

abbrev pub invariant-loop-change : goal.invariant-loop-change
invariant-loop-change l = l.deltas.items ≡ deltas_made l.ptrs l.fid l.version (take l.change-index l.changes)
