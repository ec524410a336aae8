use Rattle.std.proofs.Common.{length}
use Rattle.zb_forming.proofs.standing.+moved_in.Given as goal

abbrev pub decreases-moved_in : goal.decreases-moved_in
decreases-moved_in l = length l.drafts.now
