use Rattle.std.proofs.Common.{◌≡◌, ◌++◌, ◌+◌, ◌*◌, length}
use Rattle.std.specs.List.{flat_map, AllByRecursion}
use Rattle.zb_journal.specs.Spelling.{piece_text, IsPiece}
use Rattle.zb_journal.proofs.reading.read_pieces.Given as goal

abbrev pub invariant-loop : goal.invariant-loop
invariant-loop l = record {
  counted : length l.pieces ≡ l.counter;
  front : flat_map piece_text l.pieces ++ l.rest ≡ l.bytes;
  left : length l.rest + 16 * l.counter ≡ length l.bytes;
  each : AllByRecursion IsPiece l.pieces;
}
