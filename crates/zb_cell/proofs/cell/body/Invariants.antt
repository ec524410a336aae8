use Rattle.std.proofs.Common.{◌≡◌, ℕ, ◌+◌, ◌<◌, ◌≤◌, length, slice_index}
use Rattle.zb_cell.proofs.cell.body.Given as goal

abbrev pub invariant-loop-i : goal.invariant-loop-i
invariant-loop-i l = record {
  long : length l.bytes ≡ 63;
  turn : slice_index l.bytes 0 ≡ l.turn;
  front : (k : ℕ) → 1 ≤ k → k < 7 → slice_index l.bytes k ≡ 0;
  payload : (k : ℕ) → k < l.i → slice_index l.bytes (7 + k) ≡ slice_index l.payload k;
  back : (k : ℕ) → 7 + l.i ≤ k → slice_index l.bytes k ≡ 0;
}
