use Rattle.std.proofs.Common.{[], sym, subst}
use Rattle.zb_types.specs.declared.ids.Ptr.{Ptr}
use Rattle.zb_pointers.specs.Blocks.{IsRising}
use Rattle.zb_types.proofs.KeyedLists.{ordered-from_IsRising}
use Rattle.zb_pointers.proofs.blocks.BlockMap.new.Goals as goal

pub invariant_of-result : goal.invariant_of-result
invariant_of-result c = subst IsRising (sym c.new.ensures.items) (ordered-from_IsRising {A = Ptr} [] tt)
