use Rattle.std.proofs.Common.{rules, ◌∙◌}
use Rattle.zb_pass.proofs.Moved.{made_all, made_each}
use Rattle.zb_pass.proofs.forming.moves.Goals as goal
use Rattle.zb_pass.proofs.forming.moves.Goals.{else-loop-body-test, then-loop-body-test+in_default}

pub returns : goal.returns
returns c =
    c.of.ensures
    ∙ elim c.loop-body-test.branch [
      | else-loop-body-test w ↦ made_each _ _ _ _ c.loop-body.body-index c.loop-body.invariant (search rules)
      | then-loop-body-test+in_default w ↦ made_all _ _ _ _ c.loop-body.invariant (search rules)
    ]
