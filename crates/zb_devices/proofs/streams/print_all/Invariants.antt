use Rattle.std.proofs.Common.{◌≤◌, length, take}
use Rattle.std.specs.Io.KnownBytes.{Appends}
use Rattle.zb_devices.proofs.streams.print_all.Given as goal

abbrev pub invariant-tries : goal.invariant-tries
invariant-tries g l = record {
  within : l.done ≤ length l.bytes;
  written : Appends (g.W.Write.contents l.initial.writer) (g.W.Write.contents l.writer) (take l.done l.bytes);
}
