use Rattle.std.proofs.Common.{arith}
use Rattle.std.proofs.lemmas.Grind.{common_steps}
use Rattle.zb_parity.specs.Rebuilding.{Rebuilds}
use Rattle.zb_parity.proofs.Sharing.{restores}
use Rattle.zb_parity.proofs.rebuild_one.Goals as goal

pub returns-clause-restores : goal.returns-clause-restores
returns-clause-restores c =
    let rebuilds : Rebuilds c.args.parity.now c.args.others.now c.of.result = λ y l. grind (arith, common_steps) in
    restores c.args.parity.now c.args.others.now c.of.result rebuilds
