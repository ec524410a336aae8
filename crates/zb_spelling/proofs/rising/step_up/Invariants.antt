use Rattle.std.proofs.Common.{◌≡◌, length, map}
use Rattle.zb_spelling.specs.Limits.{rise}
use Rattle.zb_spelling.proofs.rising.step_up.Given as goal

abbrev pub invariant-loop-rest : goal.invariant-loop-rest
invariant-loop-rest g l = rise g.T.Rising.order (map g.T.Rising.key l.rest) ≡ rise g.T.Rising.order (map g.T.Rising.key l.items)

abbrev pub decreases-loop-rest : goal.decreases-loop-rest
decreases-loop-rest g l = length l.rest
