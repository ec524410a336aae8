use Rattle.std.proofs.Common.{◌≡◌, ℕ, ◌+◌, ◌<◌, length, slice_index}
use Rattle.zb_cell.proofs.cell.payload_at.Given as goal

abbrev pub invariant-loop-i : goal.invariant-loop-i
invariant-loop-i l = record {
  long : length l.payload ≡ 40;
  same : (k : ℕ) → k < l.i → slice_index l.payload k ≡ slice_index l.bytes (l.at + 8 + k);
}
