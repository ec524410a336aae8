use Rattle.std.proofs.Common.{arith}
use Rattle.zb_parity.proofs.Sharing.{greatest-take_more}
use Rattle.zb_parity.proofs.longest.Goals as goal

pub loop-share-preserved : goal.loop-share-preserved
loop-share-preserved c = omega (arith, greatest-take_more c.args.shares.now c.loop-share.share-index c.share-item.result c.loop-share-test.true c.share-item.is)
