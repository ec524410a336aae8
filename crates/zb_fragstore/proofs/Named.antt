-- The names in memory are those that the platter holds.
use Rattle.std.proofs.Common.{◌≡◌, Bool, is_some, Option, None, Some, refl, sym, ◌∙◌, ap, subst}
use Rattle.zb_types.specs.declared.ids.FragId.{FragId}
use Rattle.zb_holding.specs.Listing.{AreLeastAbove}
use Rattle.zb_slots.specs.Slots.{slots_in}
use Rattle.zb_slots.specs.Holding.{fragment_of}
use Rattle.zb_index.specs.declared.spot.Spot.{Spot}
use Rattle.zb_index.specs.Seen.{spot_of}
use Rattle.zb_index.proofs.Held.{not_found, is_found}
use Rattle.zb_fragstore.specs.Laws.{NamesAreKnown, AllAreNamed, is_held}

pub names_known : NamesAreKnown
names_known store image id knows = pick (spot_of store.index id) refl
  where
    pick : (found : Option Spot) → spot_of store.index id ≡ found → is_some (spot_of store.index id) ≡ is_held store.geo image id
    pick None is =
        let none = (not_found store.index store.geo.slots (slots_in store.geo image) id knows is).held in
        ap is_some is ∙ sym (ap (λ o. is_some (fragment_of o)) none)
    pick (Some spot) is =
        let there = (is_found store.index store.geo.slots (slots_in store.geo image) id spot knows is).held in
        ap is_some is ∙ sym (ap (λ o. is_some (fragment_of o)) there)

pub all_named : AllAreNamed
all_named store image after ids knows least = subst (λ (there : FragId → Bool). AreLeastAbove there after ids) (λ i id. names_known store image id knows i) least
