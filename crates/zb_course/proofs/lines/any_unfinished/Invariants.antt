use Rattle.std.proofs.Common.{◌≡◌, length}
use Rattle.std.specs.List.{list_any}
use Rattle.zb_claims.specs.Runs.{is_unfinished}
use Rattle.zb_course.proofs.lines.any_unfinished.Given as goal

abbrev pub invariant-loop-rest : goal.invariant-loop-rest
invariant-loop-rest l = list_any is_unfinished l.rest ≡ list_any is_unfinished l.lines

abbrev pub decreases-loop-rest : goal.decreases-loop-rest
decreases-loop-rest l = length l.rest
