use Rattle.std.proofs.Common.{◌≡◌, length}
use Rattle.zb_devices.specs.Memory.{AllEmpty}
use Rattle.zb_devices.proofs.mem_outside.empty_plates.Given as goal

abbrev pub invariant-loop-i : goal.invariant-loop-i
invariant-loop-i l = record {
  long : length l.plates.items ≡ l.i;
  all : AllEmpty l.plates.items;
}
