use Rattle.std.proofs.Common.{take}
use Rattle.std.specs.Prelude.{All}
use Rattle.zb_basis.specs.Looking.{IsFoundBlock}
use Rattle.zb_work.proofs.finding.are_found_blocks.Given as goal

abbrev pub invariant-loop-k : goal.invariant-loop-k
invariant-loop-k l = All (IsFoundBlock l.block l.room l.ask) (take l.k-index l.blocks)
