use Rattle.std.proofs.Common.{◌≡◌, length}
use Rattle.zb_devices.specs.Record.{filled}
use Rattle.zb_devices.specs.Plates.{ranges_of}
use Rattle.zb_devices.proofs.plate.fill.Given as goal

abbrev pub invariant-loop-rest : goal.invariant-loop-rest
invariant-loop-rest l = filled l.byte (ranges_of l.rest) l.image.items ≡ filled l.fn.byte (ranges_of l.fn.ranges) l.fn.image.items

abbrev pub decreases-loop-rest : goal.decreases-loop-rest
decreases-loop-rest l = length l.rest
