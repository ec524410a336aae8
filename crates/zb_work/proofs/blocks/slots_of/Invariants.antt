use Rattle.std.proofs.Common.{◌≡◌, take, map}
use Rattle.zb_work.specs.Blocks.{slot_of}
use Rattle.zb_work.proofs.blocks.slots_of.Given as goal

abbrev pub invariant-loop-ptr : goal.invariant-loop-ptr
invariant-loop-ptr l = l.blocks.items ≡ map (slot_of l.cache.entries) (take l.ptr-index l.wanted)
