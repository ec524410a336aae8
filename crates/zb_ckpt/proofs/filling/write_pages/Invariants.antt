use Rattle.std.proofs.Common.{◌*◌, false, IsTrue}
use Rattle.zb_outside.specs.Counts.{Touches, HasWritten}
use Rattle.zb_outside.specs.Runs.{Run, IsSettled, SparesOthers}
use Rattle.zb_ckpt.specs.Write.{KeepsSlot, StandUpTo, other_slot}
use Rattle.zb_ckpt.proofs.filling.write_pages.Given as goal

abbrev pub invariant-loop-page : goal.invariant-loop-page
invariant-loop-page g l = record {
  run : IsTrue g.B.Bay.tells → IsSettled 0 (g.B.Bay.meaning l.fn.bay).now → Run 0 (KeepsSlot (other_slot l.slot) ((g.B.Bay.meaning l.fn.bay).now.seen 0)) (g.B.Bay.meaning l.fn.bay) (g.B.Bay.meaning l.bay);
  stand : IsTrue g.B.Bay.tells → StandUpTo (65536 * l.page) l.slot l.bytes ((g.B.Bay.meaning l.bay).now.seen 0);
  others : IsTrue g.B.Bay.tells → SparesOthers 0 (g.B.Bay.meaning l.fn.bay) (g.B.Bay.meaning l.bay);
  touches : Touches g.B.Bay.counts g.B.Bay.follows 0 l.page false l.fn.bay l.bay;
  written : HasWritten 0 l.page (g.B.Bay.counts l.fn.bay) (g.B.Bay.counts l.bay);
}
