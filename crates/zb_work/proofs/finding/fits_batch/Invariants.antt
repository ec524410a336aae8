use Rattle.std.proofs.Common.{◌≡◌, drop, length}
use Rattle.zb_basis.specs.Looking.{asks_of, AreFoundFor}
use Rattle.zb_work.proofs.finding.fits_batch.Given as goal

abbrev pub invariant-loop-i : goal.invariant-loop-i
invariant-loop-i l = record {
  long : length l.calls ≡ length l.found;
  fits : AreFoundFor l.block l.room (asks_of l.block (drop l.i l.calls)) (drop l.i l.found) → AreFoundFor l.block l.room (asks_of l.block l.calls) l.found;
  back : AreFoundFor l.block l.room (asks_of l.block l.calls) l.found → AreFoundFor l.block l.room (asks_of l.block (drop l.i l.calls)) (drop l.i l.found);
}
