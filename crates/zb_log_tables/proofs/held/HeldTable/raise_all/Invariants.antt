use Rattle.std.proofs.Common.{length}
use Rattle.zb_log_tables.proofs.Raising.{Raising}
use Rattle.zb_log_tables.proofs.held.HeldTable.raise_all.Given as goal

abbrev pub invariant-loop-piece : goal.invariant-loop-piece
invariant-loop-piece l = Raising l.fn.log l.fn.born l.rest l.fn.pieces l.self l.initial.self

abbrev pub decreases-loop-piece : goal.decreases-loop-piece
decreases-loop-piece l = length l.rest
