use Rattle.std.proofs.Common.{◌≤◌, ◌^◌, drop}
use Rattle.zb_work.specs.Finding.{RisesFrom}
use Rattle.zb_work.proofs.finding.rise.Given as goal

abbrev pub invariant-loop-k : goal.invariant-loop-k
invariant-loop-k l = record {
  rises : RisesFrom l.least (drop l.k-index l.blocks) → RisesFrom 0 l.blocks;
  back : RisesFrom 0 l.blocks → RisesFrom l.least (drop l.k-index l.blocks);
  small : l.least ≤ 2 ^ 32;
}
