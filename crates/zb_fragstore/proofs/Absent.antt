-- What a store finds in memory, and what it doesn't find, is so on its platter.
use Rattle.std.proofs.Common.{◌≡◌, false, is_some, Option, None, Some, refl, ap}
use Rattle.zb_outside.specs.Meaning.{Standing}
use Rattle.zb_types.specs.declared.ids.FragId.{FragId}
use Rattle.zb_slots.specs.Holding.{fragment_of}
use Rattle.zb_index.specs.declared.spot.Spot.{Spot}
use Rattle.zb_index.specs.Seen.{spot_of}
use Rattle.zb_index.specs.Laws.{IsHeldAt}
use Rattle.zb_index.proofs.Held.{not_found, is_found}
use Rattle.zb_slots.specs.Slots.{slots_in}
use Rattle.zb_fragstore.specs.Seen.{SeenStore, is_there}
use Rattle.zb_fragstore.specs.Changing.{map_in, IsOpen}

none_there : {A : Type 0} (o : Option A) → is_some o ≡ false → o ≡ None
none_there None e = refl
none_there (Some a) e = absurd (cc e)

pub none_found : (store : SeenStore) (id : FragId) → is_there store id ≡ false → spot_of store.index id ≡ None
none_found store id e = none_there (spot_of store.index id) e

pub absent : (store : SeenStore) (s : Standing) (id : FragId) → IsOpen store s → is_there store id ≡ false → map_in store s id ≡ None
absent store s id is_open none = ap fragment_of (not_found store.index store.geo.slots (slots_in store.geo (s.seen store.server.0)) id is_open.index (none_found store id none)).held

-- what stands where the index says
pub held_at : (store : SeenStore) (s : Standing) (id : FragId) (spot : Spot) → IsOpen store s → spot_of store.index id ≡ Some spot → IsHeldAt store.geo.slots (slots_in store.geo (s.seen store.server.0)) id spot
held_at store s id spot is_open at = is_found store.index store.geo.slots (slots_in store.geo (s.seen store.server.0)) id spot is_open.index at
