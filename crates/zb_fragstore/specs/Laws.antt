-- What follows of a server's platter, whatever was done to it.
use Rattle.std.specs.Prelude.{◌≡◌, ◌⊎◌, ℕ, ◌+◌, ◌<◌, ◌≤◌, ◌^◌, Bool, true, is_some, List, length, All, Option}
use Rattle.std.specs.List.{IsDistinct}
use Rattle.zb_types.specs.declared.geometry.Geometry.{Geometry}
use Rattle.zb_types.specs.declared.ids.FragId.{FragId}
use Rattle.zb_types.specs.declared.ids.ServerId.{ServerId}
use Rattle.zb_holding.specs.Carrying.{same_frag}
use Rattle.zb_holding.specs.Fragments.{Fragment}
use Rattle.zb_holding.specs.Listing.{AreLeastAbove}
use Rattle.zb_fragstore.specs.Seen.{SeenStore, free_of, is_there}
use Rattle.zb_fragstore.specs.Images.{map_on, free_on, IsWhole, HasFence, IsImageOf}
use Rattle.zb_fragstore.specs.Changing.{Knows}
use Rattle.zb_fragstore.specs.Opening.{IsUnfit}
use Rattle.zb_fragstore.specs.declared.faults.OpenFault.{OpenFault}
use Rattle.zb_fragstore.specs.declared.faults.OpenFault.TheVariants.{NoMemory, Stopped}

-- an image has one fence of eight bytes
abbrev pub FenceIsOne : Type 0
FenceIsOne = (geo : Geometry) (server : ServerId) (image : List ℕ) (a b : ℕ) → HasFence geo server a image → HasFence geo server b image
    → a < 2 ^ 64 → b < 2 ^ 64 → a ≡ b

-- an image of a server's platter is long enough for all that the server keeps
abbrev pub ImageIsWhole : Type 0
ImageIsWhole = (geo : Geometry) (server : ServerId) (map : FragId → Option Fragment) (fence : ℕ) (image : List ℕ) → IsImageOf geo server map fence image → IsWhole geo image

-- an image of a server's platter is opened, unless memory runs out or the platter stops
abbrev pub OwnImageOpens : Type 0
OwnImageOpens = (geo : Geometry) (server : ServerId) (map : FragId → Option Fragment) (fence : ℕ) (image : List ℕ) (why : OpenFault) → IsImageOf geo server map fence image → fence < 2 ^ 64
    → IsUnfit geo server image why → (why ≡ NoMemory) ⊎ (why ≡ Stopped)

-- a store that knows an image knows how many of its slots are free
abbrev pub FreeIsKnown : Type 0
FreeIsKnown = (store : SeenStore) (image : List ℕ) → Knows store image → free_of store ≡ free_on store.geo image

-- does an image hold something under this name?
abbrev pub is_held : Geometry → List ℕ → FragId → Bool
is_held geo image id = is_some (map_on geo image id)

-- names that an image holds, each once, and its free slots are together no more than its slots
abbrev pub RoomForAll : Type 0
RoomForAll = (geo : Geometry) (image : List ℕ) (ids : List FragId) → IsDistinct same_frag ids → All (λ id. is_held geo image id ≡ true) ids
    → length ids + free_on geo image ≤ geo.slots

-- a store that knows an image has just the names that the image holds
abbrev pub NamesAreKnown : Type 0
NamesAreKnown = (store : SeenStore) (image : List ℕ) (id : FragId) → Knows store image → is_there store id ≡ is_held store.geo image id

-- the names that a store answers are the least of those that its image holds, all of them where there are fewer than 256
abbrev pub AllAreNamed : Type 0
AllAreNamed = (store : SeenStore) (image : List ℕ) (after : Option FragId) (ids : List FragId) → Knows store image → AreLeastAbove (is_there store) after ids
    → AreLeastAbove (is_held store.geo image) after ids
