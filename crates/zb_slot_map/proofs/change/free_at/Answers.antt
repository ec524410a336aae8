use Rattle.std.proofs.Common.{None, refl}
use Rattle.zb_slots.specs.Slots.{free_slot}
use Rattle.zb_slots.specs.Slots.{slots_in}
use Rattle.zb_slot_map.proofs.Knowing.{may_free, ready_at, told_of_map}
use Rattle.zb_slot_map.proofs.change.free_at.Goals as goal

pub returns-clause-told : goal.returns-clause-told
returns-clause-told g c told kept stored was =
    let geo = c.args.geo.now in
    let image = (g.B.Bay.meaning c.args.bay.now).now.seen c.args.platter in
    let at = c.place_of.ensures.place in
    told_of_map geo c.args.slot stored.id free_slot None refl at kept.tidy.large (may_free geo.slots c.args.slot stored (slots_in geo image) kept.tidy.slots c.requires.slot was)
    (c.free.ensures.told told (ready_at geo c.args.platter c.args.slot _ _ at c.requires.slot kept))
