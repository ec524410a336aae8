-- What slots hold under other names.
use Rattle.std.proofs.Common.{◌≡◌, Bool, false, if◌then◌else◌, None, Some, refl, ◌∙◌, ap}
use Rattle.zb_types.specs.declared.ids.FragId.{FragId}
use Rattle.zb_holding.specs.Carrying.{same_frag}
use Rattle.zb_slots.specs.Slots.{Slot, Stored, bad_slot, free_slot, full_slot}
use Rattle.zb_slots.specs.Holding.{named}
use Rattle.zb_slot_map.specs.Changing.{OnlyNames}

-- a slot with another name holds nothing under this one
pub named_other : (s : Stored) (id other : FragId) → s.id ≡ id → same_frag id other ≡ false → named other (full_slot s) ≡ None
named_other s id other e not = ap (λ (b : Bool). if b then Some s else None) (ap (λ (a : FragId). same_frag a other) e ∙ not)

-- a slot that holds nothing but one name holds nothing under another
pub only_named : (id other : FragId) (slot : Slot) → OnlyNames id slot → same_frag id other ≡ false → named other slot ≡ None
only_named id other bad_slot only not = refl
only_named id other free_slot only not = refl
only_named id other (full_slot s) only not = named_other s id other (only s refl) not
