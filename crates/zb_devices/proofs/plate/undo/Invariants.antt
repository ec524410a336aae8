use Rattle.std.proofs.Common.{◌≡◌, length}
use Rattle.zb_devices.specs.Plates.{undone}
use Rattle.zb_devices.proofs.plate.undo.Given as goal

abbrev pub invariant-loop-last : goal.invariant-loop-last
invariant-loop-last l = undone l.rest l.image.items ≡ undone l.fn.ranges l.fn.image.items

abbrev pub decreases-loop-last : goal.decreases-loop-last
decreases-loop-last l = length l.rest
