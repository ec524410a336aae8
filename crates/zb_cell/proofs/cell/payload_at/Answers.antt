use Rattle.std.proofs.Common.{◌≡◌, ◌≢◌, ℕ, ◌+◌, ◌<◌, List, length, slice_index, slice_set, sym, ◌∙◌, arith, get_or-set_other, get_or-set_same, length-set, below_more}
use Rattle.zb_cell.proofs.Values.{window_is}
use Rattle.zb_cell.proofs.cell.payload_at.Goals as goal

put_other : (xs : List ℕ) (i k v x : ℕ) → k ≢ i → slice_index xs k ≡ x → slice_index (slice_set xs i v) k ≡ x
put_other xs i k v x ne is = rw get_or-set_other is

put_same : (xs : List ℕ) (i v : ℕ) → i < length xs → slice_index (slice_set xs i v) i ≡ v
put_same xs i v lt = rw get_or-set_same

pub loop-i-preserved : goal.loop-i-preserved
loop-i-preserved c =
    let h = c.loop-i.invariant in
    record {
      long = length-set c.loop-i.payload _ _ ∙ h.long;
      same = below_more _ _
          (λ k lt. put_other c.loop-i.payload c.loop-i.i k _ _ (omega arith) (h.same k lt))
          (put_same c.loop-i.payload c.loop-i.i _ (omega (arith, h.long, c.loop-i-test.true)));
    }

pub returns : goal.returns
returns c =
    let h = c.loop-i.invariant in
    sym (window_is (slice_index c.args.bytes.now) c.loop-i.payload (c.args.at + 8) 40 (sym h.long) (λ i lt. sym (h.same i (omega (arith, c.loop-i-test.false, lt)))))
