use Rattle.std.proofs.Common.{length}
use Rattle.zb_forming.proofs.standing.+rose_in.Given as goal

abbrev pub decreases-rose_in : goal.decreases-rose_in
decreases-rose_in l = length l.drafts.now
