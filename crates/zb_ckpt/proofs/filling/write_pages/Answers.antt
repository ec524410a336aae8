use Rattle.std.proofs.Common.{◌≡◌, ◌∙◌, ◌+◌, ◌*◌, ℕ, take, ap, arith}
use Rattle.zb_outside.proofs.Runs.{run_spares, others_then}
use Rattle.zb_outside.proofs.Touching.{touches_then}
use Rattle.zb_ckpt.proofs.Places.{page_at}
use Rattle.zb_ckpt.proofs.Fills.{IsPart, fill_more, is_part, stand_more, written_at, told_at}
use Rattle.zb_ckpt.proofs.filling.write_pages.Goals as goal

pub loop-page-preserved : goal.loop-page-preserved
loop-page-preserved g c =
    let part = c.split_at-in-loop-page.result.0.now in
    let at : 1048576 + (2 * c.loop-page.page + c.from.result) * 65536 ≡ page_at c.args.slot c.loop-page.page = ap (λ (k : ℕ). 1048576 + (2 * c.loop-page.page + k) * 65536) c.from.ensures in
    let is : IsPart c.loop-page.page c.args.bytes.now part =
    is_part c.loop-page.page c.args.bytes.now c.split_at.result.1.now part c.split_at.ensures.back (c.split_at-in-loop-page.ensures.front ∙ ap (λ (n : ℕ). take n c.split_at.result.1.now) c.page_len.ensures) (c.split_at-in-loop-page.ensures.front_len ∙ c.page_len.ensures) c.split_at.ensures.back_len in
    record {
      run = λ told settled. fill_more c.args.slot c.loop-page.page part c.requires.slot is.few (c.loop-page.invariant.run told settled) (told_at at (c.write_at.ensures.told told));
      stand = λ told. stand_more c.args.slot c.loop-page.page c.args.bytes.now part _ _ is (written_at at (c.in_ok-write_at.ensures.told told).written) (c.loop-page.invariant.stand told);
      others = λ told. others_then (c.loop-page.invariant.others told) (run_spares (c.write_at.ensures.told told).ticks);
      touches = touches_then g.B.Bay.counts g.B.Bay.follows g.met.B.Bay.follows_then c.loop-page.invariant.touches c.in_ok-write_at.ensures.touches;
      written = omega (arith, c.loop-page.invariant.written, c.write_at.ensures.written);
    }
