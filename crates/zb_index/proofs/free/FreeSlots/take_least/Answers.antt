use Rattle.std.specs.BinaryHeap.{heap_items}
use Rattle.zb_index.proofs.Counting.{is_taken}
use Rattle.zb_index.proofs.free.FreeSlots.take_least.Goals as goal

pub returns-clause-some : goal.returns-clause-some
returns-clause-some c = rw (← c.self.view_is) (is_taken c.in_ok-slot.field-0 (heap_items c.self.inside.heap) (heap_items c.pop.new.self) c.in_ok-slot.ensures.permutation (c.in_ok-slot.ensures.heap_order c.self.invariant.0).1)
