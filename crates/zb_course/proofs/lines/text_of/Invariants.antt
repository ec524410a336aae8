use Rattle.std.proofs.Common.{◌≡◌, ◌++◌, length}
use Rattle.std.specs.List.{AllByRecursion}
use Rattle.zb_claims.specs.Text.{HasReply, report_text}
use Rattle.zb_course.proofs.lines.text_of.Given as goal

abbrev pub invariant-loop-rest : goal.invariant-loop-rest
invariant-loop-rest l = (l.out.items ++ report_text l.rest ≡ report_text l.lines) × (AllByRecursion HasReply l.rest → AllByRecursion HasReply l.lines)

abbrev pub decreases-loop-rest : goal.decreases-loop-rest
decreases-loop-rest l = length l.rest
