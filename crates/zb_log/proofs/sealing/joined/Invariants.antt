use Rattle.std.proofs.Common.{◌≡◌, ◌++◌, drop}
use Rattle.std.specs.List.{concat}
use Rattle.zb_log.proofs.sealing.joined.Given as goal

abbrev pub invariant-loop-block : goal.invariant-loop-block
invariant-loop-block l = l.new.items ++ concat (drop l.block-index l.blocks) ≡ l.meta ++ concat l.blocks
