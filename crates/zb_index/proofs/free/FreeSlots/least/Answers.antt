use Rattle.std.proofs.Common.{arith, refl}
use Rattle.std.specs.BinaryHeap.{heap_items}
use Rattle.zb_index.proofs.Counting.{is_least, has_first}
use Rattle.zb_index.proofs.free.FreeSlots.least.Goals as goal

pub returns-clause-some : goal.returns-clause-some
returns-clause-some c =
    let heap = c.self.inside.heap in
    let there = has_first c.in_ok-least.least.now (heap_items heap) (omega (arith, heap.data.ok.0, c.in_ok-least.ensures.variant.0 refl)) c.in_ok-least.ensures.lookup in
    rw (← c.self.view_is) (is_least c.in_ok-least.least.now (heap_items heap) there (c.in_ok-least.ensures.greatest c.self.invariant.0))
