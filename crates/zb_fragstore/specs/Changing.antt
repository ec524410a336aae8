-- A store that is open on its platter, and what calls do to the platter's map, moment by moment.
use Rattle.std.specs.Prelude.{◌≡◌, ◌≢◌, ◌⊎◌, ℕ, List, length, Option, Result, OnOk, IfErr}
use Rattle.zb_outside.specs.Meaning.{Meaning, Standing}
use Rattle.zb_outside.specs.Runs.{Run}
use Rattle.zb_types.specs.declared.ids.FragId.{FragId}
use Rattle.zb_types.specs.declared.requests.Request.{Request}
use Rattle.zb_types.specs.declared.requests.StoreFault.{StoreFault}
use Rattle.zb_types.specs.declared.requests.StoreFault.TheVariants.{Stopped}
use Rattle.zb_holding.specs.Fragments.{Fragment}
use Rattle.zb_holding.specs.Rules.{map_after, fence_after}
use Rattle.zb_slots.specs.Slots.{slots_in}
use Rattle.zb_index.specs.Indexed.{IsIndexOf}
use Rattle.zb_slot_map.specs.Changing.{IsKept}
use Rattle.zb_fragstore.specs.Seen.{SeenStore}
use Rattle.zb_fragstore.specs.Images.{map_on, HasFence, IsImageOf}
use Rattle.zb_fragstore.specs.Answers.{HasStopped}

-- what a server's platter holds under each name
abbrev pub map_in : SeenStore → Standing → FragId → Option Fragment
map_in store s = map_on store.geo (s.seen store.server.0)

-- what a store keeps in memory of its slots is what this image tells
abbrev pub Knows : SeenStore → List ℕ → Type 0
Knows store image = IsIndexOf store.index store.geo.slots (slots_in store.geo image)

-- no write of the platter is unsynced, and what the store keeps in memory is what its platter tells
pub record IsOpen (store : SeenStore) (s : Standing) : Type 0 where
  pub kept : IsKept store.geo store.server.0 s
  pub super : HasFence store.geo store.server store.fence (s.seen store.server.0)
  pub index : Knows store (s.seen store.server.0)

-- an image of a store's platter whose map and whose fence are each the former or those that a request leaves
pub record IsBetween (store : SeenStore) (request : Request) (old new : List ℕ) : Type 0 where
  pub map : FragId → Option Fragment
  pub fence : ℕ
  pub image : IsImageOf store.geo store.server map fence new
  pub size : length new ≡ length old
  pub map_is : ((id : FragId) → map id ≡ map_on store.geo old id) ⊎ ((id : FragId) → map id ≡ map_after request (map_on store.geo old) id)
  pub fence_is : (fence ≡ store.fence) ⊎ (fence ≡ fence_after request store.fence)

-- at each moment the map and the fence are each as before or as the request leaves them, and after Ok the map is that; unless the
-- platter stopped, the store is open, and after a refusal nothing has changed
pub record CarriesOut {T : Type 0} (request : Request) (old new : SeenStore) (result : Result T StoreFault) (a b : Meaning) : Type 0 where
  pub run : Run old.server.0 (IsBetween old request (a.now.seen old.server.0)) a b
  pub map : OnOk result ((id : FragId) → map_in old b.now id ≡ map_after request (map_in old a.now) id)
  pub is_open : (HasStopped result → ⊥) → IsOpen new b.now
  pub refused : IfErr result (λ fault. fault ≢ Stopped → b.now.seen old.server.0 ≡ a.now.seen old.server.0)
