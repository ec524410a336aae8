use Rattle.std.proofs.Common.{◌≡◌, ◌++◌, length}
use Rattle.zb_claims.specs.Text.{list_text}
use Rattle.zb_report.proofs.report.tree.Given as goal

abbrev pub invariant-loop-rest : goal.invariant-loop-rest
invariant-loop-rest l = l.out.items ++ list_text l.rest ≡ list_text l.tree

abbrev pub decreases-loop-rest : goal.decreases-loop-rest
decreases-loop-rest l = length l.rest
