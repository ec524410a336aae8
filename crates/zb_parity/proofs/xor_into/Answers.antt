use Rattle.std.proofs.Common.{◌+◌, refl, sym, arith}
use Rattle.zb_parity.proofs.Lanes.{put_chunk-xored, set-xored}
use Rattle.zb_holding.proofs.Exclusives.{xored-nil}
use Rattle.zb_parity.proofs.xor_into.Goals as goal

pub loop-at-init : goal.loop-at-init
loop-at-init c = (sym (xored-nil c.args.into.now), omega arith)

pub loop-at-preserved : goal.loop-at-preserved
loop-at-preserved c =
    let was = c.loop-at.invariant in
    let room = c.loop-at-test.true in
    let fits = c.requires in
    (rw was.0 (put_chunk-xored _ (λ a b. refl) c.loop-at.at 32 (c.loop-at.at + 32) c.args.into.now c.args.from.now refl (omega arith) fits), omega arith)

pub loop-at-2-preserved : goal.loop-at-2-preserved
loop-at-2-preserved c =
    let was = c.loop-at-2.invariant in
    let room = c.loop-at-2-test.true in
    let fits = c.requires in
    (rw was.0 (set-xored c.loop-at-2.at (c.loop-at-2.at + 1) c.args.into.now c.args.from.now refl room fits), omega arith)
