use Rattle.std.proofs.Common.{length}
use Rattle.zb_forming.proofs.building.+know_all_paths.Given as goal

abbrev pub decreases-know_all_paths : goal.decreases-know_all_paths
decreases-know_all_paths l = length l.calls.now
