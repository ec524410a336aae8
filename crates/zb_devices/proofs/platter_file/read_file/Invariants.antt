use Rattle.std.proofs.Common.{◌≤◌, ◌≡◌, length}
use Rattle.zb_devices.proofs.platter_file.read_file.Given as goal

abbrev pub invariant-tries : goal.invariant-tries
invariant-tries l = record {
  within : l.done ≤ length l.buf;
  long : length l.buf ≡ length l.fn.buf;
}
