use Rattle.std.proofs.Common.{length}
use Rattle.zb_forming.proofs.drafting.+drafted.Given as goal

abbrev pub decreases-drafted : goal.decreases-drafted
decreases-drafted l = length l.calls.now
