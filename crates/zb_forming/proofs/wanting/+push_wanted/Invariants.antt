use Rattle.std.proofs.Common.{length}
use Rattle.zb_forming.proofs.wanting.+push_wanted.Given as goal

abbrev pub decreases-push_wanted : goal.decreases-push_wanted
decreases-push_wanted l = length l.changes.now
