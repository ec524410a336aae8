use Rattle.std.proofs.Common.{false, ◌≡◌, ◌≤◌, ◌<◌, ◌+◌, ◌-◌, ℕ, length, slice_index}
use Rattle.std.specs.Bool.{IsTrue}
use Rattle.zb_slots.specs.Reading.{LeftAlone}
use Rattle.zb_outside.specs.Counts.{Touches}
use Rattle.zb_slots.proofs.same.are_there.Given as goal

abbrev pub invariant-loop-at : goal.invariant-loop-at
invariant-loop-at g l = record {
  told : IsTrue g.B.Bay.tells → LeftAlone l.platter (g.B.Bay.meaning l.fn.bay) (g.B.Bay.meaning l.bay);
  within : l.at ≤ length l.bytes;
  same : IsTrue g.B.Bay.tells → (i : ℕ) → i < l.at → slice_index l.bytes i ≡ slice_index ((g.B.Bay.meaning l.fn.bay).now.seen l.platter) (l.place + i);
  touches : Touches g.B.Bay.counts g.B.Bay.follows l.platter 0 false l.fn.bay l.bay;
}

abbrev pub decreases-loop-at : goal.decreases-loop-at
decreases-loop-at g l = length l.bytes - l.at
