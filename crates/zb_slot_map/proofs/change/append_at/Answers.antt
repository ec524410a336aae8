use Rattle.std.proofs.Common.{◌++◌, refl}
use Rattle.zb_holding.specs.Fragments.{share_fragment}
use Rattle.zb_slots.specs.Slots.{Stored, full_slot}
use Rattle.zb_slots.specs.Slots.{slots_in}
use Rattle.zb_slot_map.proofs.Knowing.{may_replace, ready_at, slot_at, told_of_map, holds_it}
use Rattle.zb_slot_map.proofs.change.append_at.Goals as goal

pub returns-clause-told : goal.returns-clause-told
returns-clause-told g c told kept stands long was =
    let geo = c.args.geo.now in
    let image = (g.B.Bay.meaning c.args.bay.now).now.seen c.args.platter in
    let at = c.place_of.ensures.place in
    let s : Stored = record { id = c.args.id; turn = 0; fragment = share_fragment stands } in
    let t : Stored = record { id = c.args.id; turn = 0; fragment = share_fragment (stands ++ c.args.bytes.now) } in
    told_of_map geo c.args.slot c.args.id (full_slot t) _ (holds_it t) at kept.tidy.large (may_replace geo.slots c.args.slot s (slots_in geo image) kept.tidy.slots c.requires.slot was t refl)
    (c.append.ensures.told told (ready_at geo c.args.platter c.args.slot _ _ at c.requires.slot kept) stands long (slot_at geo c.args.slot _ image _ at was))
