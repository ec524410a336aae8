use Rattle.std.proofs.Common.{ℕ, ◌-◌, drop, Ok, refl, subst}
use Rattle.zb_types.specs.declared.memory.Failed.{Failed}
use Rattle.zb_cell.specs.Cell.{following}
use Rattle.zb_holding.specs.Fragments.{parity_fragment}
use Rattle.zb_slots.specs.Changing.{parity_slot, SlotTold}
use Rattle.zb_slots.specs.Slots.{Slot, Stored}
use Rattle.zb_slots.specs.Area.{lengths_in}
use Rattle.zb_slots.specs.Slots.{slots_in}
use Rattle.zb_outside.proofs.Runs.{others_then}
use Rattle.zb_outside.proofs.Touching.{touches_then}
use Rattle.zb_slot_map.proofs.Knowing.{ready_at, slot_at}
use Rattle.zb_slot_map.proofs.Replacing.{MayReplace}
use Rattle.zb_slot_map.proofs.Replaced.{to_new, to_alone, ready_again, replace_failed}
use Rattle.zb_slot_map.proofs.replace.replace_parity_at.Goals as goal

pub returns-in_err-store_parity-clause-told : goal.returns-in_err-store_parity-clause-told
returns-in_err-store_parity-clause-told g c told kept covered bytes was is_free =
    let geo = c.args.geo.now in
    let p = c.args.platter in
    let i : ℕ = c.args.former.slot in
    let j : ℕ = c.args.slot in
    let image = (g.B.Bay.meaning c.args.bay.now).now.seen p in
    let at = c.place_of.ensures.place in
    let s : Stored = record { id = c.args.id; turn = c.args.former.turn; fragment = parity_fragment covered bytes } in
    let t : Stored = record { id = c.args.id; turn = following c.args.former.turn; fragment = parity_fragment (lengths_in (geo.servers - 1) c.args.area.now) (drop 64 c.args.area.now) } in
    let may : MayReplace geo.slots i j s t (slots_in geo image) = record {
      tidy = kept.tidy.slots;
      within = c.requires.former;
      also = c.requires.slot;
      was = was;
      is_free = is_free;
      one = refl;
      small = c.requires.turn;
      follows = refl;
      first = refl;
      other = refl;
    } in
    let now = (g.B.Bay.meaning c.args.bay.now) in
    let this : ℕ → Slot = λ turn. parity_slot c.args.id turn (lengths_in (geo.servers - 1) c.args.area.now) (drop 64 c.args.area.now) in
    let first = subst (λ (turn : ℕ). SlotTold {E = Failed} geo.servers geo.fragment p c.place_of.result (this turn) c.store_parity.result now (g.B.Bay.meaning c.store_parity.new.bay)) c.following-turn.ensures
    (c.store_parity.ensures.told told (ready_at geo p j _ _ at c.requires.slot kept) (slot_at geo j _ image _ at is_free)) in
    replace_failed _ c.from_residual.ensures.0 (to_new geo i j s t kept.tidy.large may at first)

pub returns-clause-told : goal.returns-clause-told
returns-clause-told g c told kept covered bytes was is_free =
    let geo = c.args.geo.now in
    let p = c.args.platter in
    let i : ℕ = c.args.former.slot in
    let j : ℕ = c.args.slot in
    let image = (g.B.Bay.meaning c.args.bay.now).now.seen p in
    let at = c.place_of.ensures.place in
    let back = c.place_of-2.ensures.place in
    let s : Stored = record { id = c.args.id; turn = c.args.former.turn; fragment = parity_fragment covered bytes } in
    let t : Stored = record { id = c.args.id; turn = following c.args.former.turn; fragment = parity_fragment (lengths_in (geo.servers - 1) c.args.area.now) (drop 64 c.args.area.now) } in
    let may : MayReplace geo.slots i j s t (slots_in geo image) = record {
      tidy = kept.tidy.slots;
      within = c.requires.former;
      also = c.requires.slot;
      was = was;
      is_free = is_free;
      one = refl;
      small = c.requires.turn;
      follows = refl;
      first = refl;
      other = refl;
    } in
    let now = (g.B.Bay.meaning c.args.bay.now) in
    let this : ℕ → Slot = λ turn. parity_slot c.args.id turn (lengths_in (geo.servers - 1) c.args.area.now) (drop 64 c.args.area.now) in
    let first = subst (λ (turn : ℕ). SlotTold {E = Failed} geo.servers geo.fragment p c.place_of.result (this turn) (Ok c.in_ok-store_parity.field-0) now (g.B.Bay.meaning c.store_parity.new.bay)) c.following-turn.ensures
    (c.in_ok-store_parity.ensures.told told (ready_at geo p j _ _ at c.requires.slot kept) (slot_at geo j _ image _ at is_free)) in
    to_alone geo i j s t kept.tidy.large may at back first (c.free.ensures.told told (ready_again geo i j s t kept.tidy.large may at back first))

pub returns-clause-touches : goal.returns-clause-touches
returns-clause-touches g c =
    touches_then g.B.Bay.counts g.B.Bay.follows g.met.B.Bay.follows_then c.in_ok-store_parity.ensures.touches c.free.ensures.touches

pub returns-clause-others : goal.returns-clause-others
returns-clause-others g c told = others_then (c.in_ok-store_parity.ensures.others told) (c.free.ensures.others told)
