use Rattle.std.proofs.Common.{false, ◌*◌}
use Rattle.std.specs.Bool.{IsTrue}
use Rattle.zb_outside.specs.Runs.{IsSettled, SparesOthers}
use Rattle.zb_slot_map.specs.Tidy.{IsSound}
use Rattle.zb_slot_map.specs.Freeing.{HasOlder}
use Rattle.zb_slot_map.proofs.Going.{IsUnderway}
use Rattle.zb_outside.specs.Counts.{Touches}
use Rattle.zb_slot_map.proofs.older.free_older.Given as goal

abbrev pub invariant-loop-slot : goal.invariant-loop-slot
invariant-loop-slot g l = record {
  told : IsTrue g.B.Bay.tells → IsSettled l.platter (g.B.Bay.meaning l.fn.bay).now → IsSound l.geo ((g.B.Bay.meaning l.fn.bay).now.seen l.platter) → HasOlder l.geo ((g.B.Bay.meaning l.fn.bay).now.seen l.platter) l.older
      → IsUnderway l.geo l.platter l.older l.slot-index (g.B.Bay.meaning l.fn.bay) (g.B.Bay.meaning l.bay);
  others : IsTrue g.B.Bay.tells → SparesOthers l.platter (g.B.Bay.meaning l.fn.bay) (g.B.Bay.meaning l.bay);
  touches : Touches g.B.Bay.counts g.B.Bay.follows l.platter (3 * l.slot-index) false l.fn.bay l.bay;
}
