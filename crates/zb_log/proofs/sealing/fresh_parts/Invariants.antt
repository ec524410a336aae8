use Rattle.std.proofs.Common.{drop}
use Rattle.zb_log.proofs.Parting.{Growing}
use Rattle.zb_log.proofs.sealing.fresh_parts.Given as goal

abbrev pub invariant-loop-piece : goal.invariant-loop-piece
invariant-loop-piece l = Growing l.geo.servers l.geo.fragment l.at_work l.parity l.pieces l.new (drop l.piece-index l.pieces) l.rest l.parts.items
