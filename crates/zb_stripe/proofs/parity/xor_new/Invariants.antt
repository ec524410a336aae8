use Rattle.std.proofs.Common.{◌≡◌, ◌++◌, List, ℕ, length, slice_index, bit_xor}
use Rattle.zb_holding.specs.Exclusive.{xor_at}
use Rattle.zb_holding.specs.Placing.{share_of}
use Rattle.zb_stripe.proofs.parity.xor_new.Given as goal

abbrev pub invariant-loop-k : goal.invariant-loop-k
invariant-loop-k l = (before : List ℕ) (y : ℕ) → length before ≡ l.begin
    → bit_xor (slice_index l.into y) (xor_at (share_of l.geo.fragment before) l.k y) ≡ bit_xor (slice_index l.fn.into y) (xor_at (share_of l.geo.fragment (before ++ l.new)) l.k y)
