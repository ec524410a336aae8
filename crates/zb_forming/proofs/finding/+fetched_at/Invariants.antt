use Rattle.std.proofs.Common.{length}
use Rattle.zb_forming.proofs.finding.+fetched_at.Given as goal

abbrev pub decreases-fetched_at : goal.decreases-fetched_at
decreases-fetched_at l = length l.fetched.now
