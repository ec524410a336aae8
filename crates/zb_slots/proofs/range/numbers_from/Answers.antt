use Rattle.std.proofs.Common.{◌*◌, slice_index, sym, ◌∙◌}
use Rattle.zb_slots.proofs.Bodies.{number_pushed}
use Rattle.zb_slots.proofs.Numbers.{four_from}
use Rattle.zb_slots.proofs.range.numbers_from.Goals as goal

pub loop-i-preserved : goal.loop-i-preserved
loop-i-preserved c = number_pushed (slice_index c.args.area.now) c.loop-i.i c.u32_at.result c.loop-i.numbers.items _ c.in_ok-push.ensures.items c.loop-i.invariant (c.u32_at.ensures ∙ sym (four_from c.args.area.now (4 * c.loop-i.i)))
