use Rattle.std.proofs.Common.{length}
use Rattle.zb_forming.proofs.wanting.+wanted_after.Given as goal

abbrev pub decreases-wanted_after : goal.decreases-wanted_after
decreases-wanted_after l = length l.calls.now
