use Rattle.std.proofs.Common.{false, ◌≡◌, ◌*◌, min, []}
use Rattle.std.specs.Bool.{IsTrue}
use Rattle.zb_outside.specs.Counts.{Touches}
use Rattle.zb_outside.specs.Runs.{Run}
use Rattle.zb_slot_map.specs.Zeros.{AreZeros}
use Rattle.zb_slot_map.proofs.Wiping.{Any}
use Rattle.zb_slot_map.proofs.wipe.write_zeros.Given as goal

abbrev pub invariant-loop-i : goal.invariant-loop-i
invariant-loop-i g l = record {
  told : IsTrue g.B.Bay.tells → (g.B.Bay.meaning l.fn.bay).now.seen l.platter ≡ [] → Run l.platter Any (g.B.Bay.meaning l.fn.bay) (g.B.Bay.meaning l.bay) × AreZeros (min l.size (65536 * l.i)) ((g.B.Bay.meaning l.bay).now.seen l.platter);
  touches : Touches g.B.Bay.counts g.B.Bay.follows l.platter l.i false l.fn.bay l.bay;
}
