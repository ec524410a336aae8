use Rattle.std.proofs.Common.{false, ◌≡◌, ℕ, length, Option, Some}
use Rattle.std.specs.Bool.{IsTrue}
use Rattle.std.specs.Prelude.{slice_get}
use Rattle.zb_slots.specs.declared.header.Header.{Header}
use Rattle.zb_slots.specs.Reading.{LeftAlone}
use Rattle.zb_slots.specs.Showing.{header_of, AllMayStand}
use Rattle.zb_outside.specs.Counts.{Touches}
use Rattle.zb_slots.proofs.header_list.headers.Given as goal

abbrev pub invariant-loop-slot : goal.invariant-loop-slot
invariant-loop-slot g l = record {
  told : IsTrue g.B.Bay.tells → LeftAlone l.platter (g.B.Bay.meaning l.fn.bay) (g.B.Bay.meaning l.bay);
  count : length l.headers.items ≡ l.slot;
  shown : IsTrue g.B.Bay.tells → (j : ℕ) (header : Option Header) → slice_get l.headers.items j ≡ Some header → header ≡ header_of l.geo ((g.B.Bay.meaning l.fn.bay).now.seen l.platter) j;
  stand : AllMayStand l.geo.servers l.geo.fragment l.headers.items;
  touches : Touches g.B.Bay.counts g.B.Bay.follows l.platter 0 false l.fn.bay l.bay;
}
