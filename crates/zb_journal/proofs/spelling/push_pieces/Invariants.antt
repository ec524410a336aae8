use Rattle.std.proofs.Common.{◌≡◌, ◌++◌, length}
use Rattle.std.specs.List.{flat_map, AllByRecursion}
use Rattle.zb_journal.specs.Spelling.{piece_text, IsPiece}
use Rattle.zb_journal.proofs.spelling.push_pieces.Given as goal

abbrev pub invariant-loop-rest : goal.invariant-loop-rest
invariant-loop-rest l = record {
  text : l.to ++ flat_map piece_text l.rest ≡ l.initial.to ++ flat_map piece_text l.pieces;
  each : AllByRecursion IsPiece l.rest → AllByRecursion IsPiece l.pieces;
}

abbrev pub decreases-loop-rest : goal.decreases-loop-rest
decreases-loop-rest l = length l.rest
