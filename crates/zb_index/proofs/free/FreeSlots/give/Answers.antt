use Rattle.std.specs.BinaryHeap.{heap_items}
use Rattle.zb_index.proofs.Counting.{is_given}
use Rattle.zb_index.proofs.free.FreeSlots.give.Goals as goal

pub returns-clause-given : goal.returns-clause-given
returns-clause-given c = rw (← c.self.view_is) (is_given _ (heap_items c.self.inside.heap) (heap_items c.push.new.self) (rw c.unwrap.ensures at c.push.ensures.permutation))
