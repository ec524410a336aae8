use Rattle.std.proofs.Common.{◌≡◌, map}
use Rattle.std.specs.List.{range_with_len}
use Rattle.zb_holding.specs.Placing.{frag_id, server_of}
use Rattle.zb_holding.specs.Holding.{is_away}
use Rattle.zb_stripe.proofs.read_plan.out_indexes.Given as goal

abbrev pub invariant-loop-index : goal.invariant-loop-index
invariant-loop-index l = l.lost.items ≡ map (λ k. is_away l.out (server_of l.geo.servers (frag_id l.ptr.log l.ptr.stripe k))) (range_with_len 0 l.index)
