use Rattle.std.proofs.Common.{length}
use Rattle.zb_forming.proofs.building.+ops_made.Given as goal

abbrev pub decreases-ops_made : goal.decreases-ops_made
decreases-ops_made l = length l.calls.now
