use Rattle.std.proofs.Common.{◌≡◌, ◌*◌, false, min, IsTrue, length}
use Rattle.zb_outside.specs.Counts.{Touches}
use Rattle.zb_ckpt.specs.Reading.{LeftAlone}
use Rattle.zb_ckpt.specs.Says.{BytesStand}
use Rattle.zb_ckpt.proofs.reading.read_pages.Given as goal

abbrev pub invariant-loop-page : goal.invariant-loop-page
invariant-loop-page g l = record {
  told : IsTrue g.B.Bay.tells → LeftAlone (g.B.Bay.meaning l.fn.bay) (g.B.Bay.meaning l.bay);
  stand : IsTrue g.B.Bay.tells → BytesStand ((g.B.Bay.meaning l.fn.bay).now.seen 0) l.slot l.bytes.items;
  size : length l.bytes.items ≡ min (65536 * l.page) l.len;
  touches : Touches g.B.Bay.counts g.B.Bay.follows 0 0 false l.fn.bay l.bay;
}
