use Rattle.std.proofs.Common.{◌-◌, drop}
use Rattle.zb_holding.specs.Fragments.{parity_fragment}
use Rattle.zb_slots.specs.Slots.{Stored, full_slot}
use Rattle.zb_slots.specs.Area.{lengths_in}
use Rattle.zb_slots.specs.Slots.{slots_in}
use Rattle.zb_slot_map.proofs.Knowing.{may_fill, ready_at, slot_at, told_of_map, holds_it}
use Rattle.zb_slot_map.proofs.change.store_parity_at.Goals as goal

pub returns-clause-told : goal.returns-clause-told
returns-clause-told g c told kept is_free none =
    let geo = c.args.geo.now in
    let image = (g.B.Bay.meaning c.args.bay.now).now.seen c.args.platter in
    let at = c.place_of.ensures.place in
    let s : Stored = record { id = c.args.id; turn = 0; fragment = parity_fragment (lengths_in (geo.servers - 1) c.args.area.now) (drop 64 c.args.area.now) } in
    told_of_map geo c.args.slot c.args.id (full_slot s) _ (holds_it s) at kept.tidy.large (may_fill geo.slots c.args.slot s (slots_in geo image) kept.tidy.slots c.requires.slot is_free none)
    (c.store_parity.ensures.told told (ready_at geo c.args.platter c.args.slot _ _ at c.requires.slot kept) (slot_at geo c.args.slot _ image _ at is_free))
