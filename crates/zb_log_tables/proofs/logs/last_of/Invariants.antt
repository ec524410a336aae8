use Rattle.std.proofs.Common.{◌≡◌, length}
use Rattle.zb_tables.specs.Fold.{last_of}
use Rattle.zb_log_tables.proofs.logs.last_of.Given as goal

abbrev pub invariant-loop-piece : goal.invariant-loop-piece
invariant-loop-piece l = last_of l.last l.rest ≡ last_of l.fn.last l.fn.pieces

abbrev pub decreases-loop-piece : goal.decreases-loop-piece
decreases-loop-piece l = length l.rest
