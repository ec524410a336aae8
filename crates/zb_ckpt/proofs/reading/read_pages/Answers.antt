use Rattle.std.proofs.Common.{◌≡◌, ◌≤◌, ◌<◌, ◌+◌, ◌*◌, ℕ, length, ap, arith, length-append}
use Rattle.zb_outside.proofs.Touching.{touches_then}
use Rattle.zb_ckpt.proofs.Places.{page_at}
use Rattle.zb_ckpt.proofs.Pages.{left_then, page_read}
use Rattle.zb_ckpt.proofs.reading.read_pages.Goals as goal

pub loop-page-preserved : goal.loop-page-preserved
loop-page-preserved g c =
    let at : 1048576 + (2 * c.loop-page.page + c.from.result) * 65536 ≡ page_at c.args.slot c.loop-page.page = ap (λ (k : ℕ). 1048576 + (2 * c.loop-page.page + k) * 65536) c.from.ensures in
    let before : 65536 * c.loop-page.page < c.args.len = omega arith in
    let size : length c.loop-page.bytes.items ≡ 65536 * c.loop-page.page = omega (arith, c.loop-page.invariant.size) in
    let few : length c.in_ok-part.part.items ≤ 65536 = omega (arith, c.in_ok-part.ensures.size, c.page_len-count.ensures) in
    let longer = ap (length {A = ℕ}) c.in_ok-extend_from_slice.ensures.items in
    let same = ap (length {A = ℕ}) c.as_slice.ensures.value in
    record {
      told = λ told. left_then (c.loop-page.invariant.told told) (c.read_bytes.ensures.told told);
      stand = λ told.
          page_read c.args.slot c.loop-page.page _ c.loop-page.bytes.items c.in_ok-part.part.items c.as_slice.result.now c.extend_from_slice.new.self.items _ _ size few (c.loop-page.invariant.stand told)
          (c.in_ok-part.ensures.read told) (c.loop-page.invariant.told told).seen at c.as_slice.ensures.value c.in_ok-extend_from_slice.ensures.items;
      size = omega (arith, longer, same, size, before, c.in_ok-part.ensures.size, c.page_len-count.ensures, length-append c.loop-page.bytes.items c.as_slice.result.now);
      touches = touches_then g.B.Bay.counts g.B.Bay.follows g.met.B.Bay.follows_then c.loop-page.invariant.touches c.in_ok-part.ensures.touches;
    }

pub returns-in_err-part-clause-told : goal.returns-in_err-part-clause-told
returns-in_err-part-clause-told g c told = left_then (c.loop-page.invariant.told told) (c.read_bytes.ensures.told told)

pub returns-in_err-extend_from_slice-clause-told : goal.returns-in_err-extend_from_slice-clause-told
returns-in_err-extend_from_slice-clause-told g c told = left_then (c.loop-page.invariant.told told) (c.read_bytes.ensures.told told)
