use Rattle.std.proofs.Common.{◌≡◌}
use Rattle.zb_log.specs.Placing.{with_meta}
use Rattle.zb_log.proofs.laying.Laying.add_meta.Given as goal

abbrev pub invariant-loop-left : goal.invariant-loop-left
invariant-loop-left l = with_meta l.self l.left ≡ with_meta l.fn.self l.len

abbrev pub decreases-loop-left : goal.decreases-loop-left
decreases-loop-left l = l.left
