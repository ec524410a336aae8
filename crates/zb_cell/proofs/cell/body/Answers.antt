use Rattle.std.proofs.Common.{◌≡◌, ◌≢◌, ℕ, ◌+◌, ◌<◌, List, length, replicate, slice_index, slice_set, refl, ◌∙◌, arith, get_or-set_other, get_or-set_same, length-set, below_more}
use Rattle.zb_outside.specs.Ranges.{zeros}
use Rattle.zb_cell.proofs.cell.body.Goals as goal

put_other : (xs : List ℕ) (i k v x : ℕ) → k ≢ i → slice_index xs k ≡ x → slice_index (slice_set xs i v) k ≡ x
put_other xs i k v x ne is = rw get_or-set_other is

put_same : (xs : List ℕ) (i v : ℕ) → i < length xs → slice_index (slice_set xs i v) i ≡ v
put_same xs i v lt = rw get_or-set_same

pub loop-i-preserved : goal.loop-i-preserved
loop-i-preserved c =
    let h = c.loop-i.invariant in
    record {
      long = length-set c.loop-i.bytes _ _ ∙ h.long;
      turn = put_other c.loop-i.bytes (7 + c.loop-i.i) 0 _ _ (omega arith) h.turn;
      front = λ k le lt. put_other c.loop-i.bytes (7 + c.loop-i.i) k _ _ (omega arith) (h.front k le lt);
      payload = below_more _ _
          (λ k lt. put_other c.loop-i.bytes (7 + c.loop-i.i) (7 + k) _ _ (omega arith) (h.payload k lt))
          (put_same c.loop-i.bytes (7 + c.loop-i.i) _ (omega (arith, h.long, c.loop-i-test.true)));
      back = λ k le. put_other c.loop-i.bytes (7 + c.loop-i.i) k _ _ (omega arith) (h.back k (omega arith));
    }

pub loop-i-init : goal.loop-i-init
loop-i-init c = record {
  long = refl;
  turn = refl;
  front = λ k le lt. put_other (replicate 63 0) 0 k c.args.turn _ (omega arith) (zeros 63 k);
  payload = λ k lt. absurd (omega arith);
  back = λ k le. put_other (replicate 63 0) 0 k c.args.turn _ (omega arith) (zeros 63 k);
}
