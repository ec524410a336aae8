use Rattle.std.proofs.Common.{◌≡◌, map}
use Rattle.std.specs.List.{range_with_len}
use Rattle.zb_holding.specs.Placing.{share_length}
use Rattle.zb_stripe.proofs.parity.lengths.Given as goal

abbrev pub invariant-loop-k : goal.invariant-loop-k
invariant-loop-k l = l.lengths.items ≡ map (share_length l.geo.fragment l.length) (range_with_len 0 l.k)
