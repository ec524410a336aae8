use Rattle.std.proofs.Common.{◌≡◌, take}
use Rattle.zb_batch.proofs.copies.OpCopied.copy_all.Given as goal

abbrev pub invariant-loop-op : goal.invariant-loop-op
invariant-loop-op l = l.made.items ≡ take l.op-index l.items
