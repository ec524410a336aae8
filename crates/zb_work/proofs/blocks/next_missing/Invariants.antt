use Rattle.std.proofs.Common.{◌≡◌, drop}
use Rattle.zb_work.specs.Blocks.{next_missing, shifted}
use Rattle.zb_work.proofs.blocks.next_missing.Given as goal

abbrev pub invariant-loop-at : goal.invariant-loop-at
invariant-loop-at l = next_missing l.blocks ≡ shifted l.at (next_missing (drop l.at l.blocks))
