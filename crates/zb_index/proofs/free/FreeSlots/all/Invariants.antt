use Rattle.std.proofs.Common.{◌≡◌, ℕ, length}
use Rattle.std.specs.Prelude.{nat_lt, if◌then◌else◌}
use Rattle.zb_index.specs.Free.{times}
use Rattle.zb_index.proofs.free.FreeSlots.all.Given as goal

abbrev pub invariant-loop-slot : goal.invariant-loop-slot
invariant-loop-slot l = record {
  each : (j : ℕ) → times j l.free.slots ≡ (if nat_lt j l.slot then 1 else 0);
  count : length l.free.slots ≡ l.slot;
  room : l.free.room ≡ l.fn.room;
}
