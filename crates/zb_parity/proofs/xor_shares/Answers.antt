use Rattle.std.proofs.Common.{◌∙◌, List, ℕ, length, min, take, get_or, ap, arith}
use Rattle.zb_holding.proofs.Exclusives.{get_or-xored}
use Rattle.zb_parity.proofs.Sharing.{xor_at-put_more}
use Rattle.zb_parity.proofs.xor_shares.Goals as goal

pub loop-share-preserved : goal.loop-share-preserved
loop-share-preserved c y l =
    let x = c.share-item.result in
    let mid = c.loop-share.into in
    let part = take (min (length x) (length mid)) x in
    let put = rw (c.min-reached.ensures, c.slice-share.ensures) at c.xor_into.ensures in
    xor_at-put_more c.args.shares.now c.loop-share.share-index x c.args.into.now mid c.xor_into.new.into (length mid) y
    c.loop-share-test.true c.share-item.is (omega arith) (c.loop-share.invariant y (omega arith))
    (ap (λ (z : List ℕ). get_or z y 0) put ∙ get_or-xored mid part y (omega arith))
