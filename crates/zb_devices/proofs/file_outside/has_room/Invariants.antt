use Rattle.std.proofs.Common.{◌+◌, ◌-◌, length}
use Rattle.zb_devices.proofs.file_outside.has_room.Given as goal

abbrev pub decreases-loop-places : goal.decreases-loop-places
decreases-loop-places l = l.platter + 1 - length l.places.items
