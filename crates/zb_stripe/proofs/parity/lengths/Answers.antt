use Rattle.std.proofs.Common.{◌∙◌, sym, arith}
use Rattle.std.proofs.lemmas.List.FromFn.{map-range_with_len_more}
use Rattle.zb_holding.specs.Placing.{share_length}
use Rattle.zb_stripe.proofs.parity.lengths.Goals as goal

pub loop-k-preserved : goal.loop-k-preserved
loop-k-preserved c =
    let more = map-range_with_len_more (share_length c.args.geo.now.fragment c.args.length) 0 c.loop-k.k c.loop-k.k (omega arith) in
    c.in_ok-push.ensures.items ∙ rw (c.loop-k.invariant, c.share.ensures) (sym more)
