use Rattle.std.proofs.Common.{◌≡◌, ℕ, ◌*◌, ◌<◌, ◌≤◌, length, slice_index}
use Rattle.zb_slots.specs.Slots.{four_at}
use Rattle.zb_slots.proofs.area.spelled_lengths.Given as goal

abbrev pub invariant-loop-i : goal.invariant-loop-i
invariant-loop-i l = record {
  size : length l.head ≡ 64;
  spelled : (k : ℕ) → k < l.i → four_at (slice_index l.head) (4 * k) ≡ slice_index l.lengths k;
  zeros : (k : ℕ) → 4 * l.i ≤ k → slice_index l.head k ≡ 0;
}
