use Rattle.std.proofs.Common.{◌≡◌, slice_index}
use Rattle.zb_slots.specs.Slots.{numbers_at}
use Rattle.zb_slots.proofs.range.numbers_from.Given as goal

abbrev pub invariant-loop-i : goal.invariant-loop-i
invariant-loop-i l = l.numbers.items ≡ numbers_at (slice_index l.area) 0 l.i
