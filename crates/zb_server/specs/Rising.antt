-- What a node that is brought up does.
use Rattle.std.specs.Prelude.{◌≡◌, ◌≢◌, ◌⊎◌, false, ℕ, List, Result, Ok, Err, IfOk, IfErr}
use Rattle.zb_outside.specs.Meaning.{Meaning}
use Rattle.zb_outside.specs.Runs.{Run, SparesOthers}
use Rattle.zb_types.specs.declared.geometry.Geometry.{Geometry}
use Rattle.zb_types.specs.declared.ids.FragId.{FragId}
use Rattle.zb_types.specs.declared.ids.ServerId.{ServerId}
use Rattle.zb_fragstore.specs.declared.faults.OpenFault.{OpenFault}
use Rattle.zb_fragstore.specs.declared.faults.OpenFault.TheVariants as fault
use Rattle.zb_fragstore.specs.declared.faults.OpenFault.TheVariants.{Stopped}
use Rattle.zb_fragstore.specs.Seen.{SeenStore, IsStoreOf}
use Rattle.zb_fragstore.specs.Images.{map_on, IsWhole}
use Rattle.zb_fragstore.specs.Changing.{map_in, IsOpen}
use Rattle.zb_fragstore.specs.Opening.{IsGood, IsUnfit, StaysWhole}
use Rattle.zb_server.specs.declared.server.Server.{Server}
use Rattle.zb_server.specs.declared.server.Server.TheVariants.{Up, Down, Blank}

-- the node is up and is read from, with a store of this server of this system
pub record IsUpAgain (geo : Geometry) (server : ServerId) (new : Server) : Type 0 where
  pub store : SeenStore
  pub up : new ≡ Up store false
  pub system : IsStoreOf geo server store

-- a node whose store wasn't opened
abbrev pub away : OpenFault → Server
away fault.Blank = Blank
away (fault.Damaged slot) = Down
away fault.NoMemory = Down
away fault.Stopped = Down

-- where the outcome leaves the node: up, blank where its platter is no store of its server, and else down
abbrev pub Leaves : Geometry → ServerId → Result (Unit {0}) OpenFault → Server → Type 0
Leaves geo server (Ok done) new = IsUpAgain geo server new
Leaves geo server (Err why) new = new ≡ away why

-- every image that the platter might leave has room for all that a server keeps
abbrev pub AreWhole : Geometry → ServerId → Meaning → Type 0
AreWhole geo server a = (image : List ℕ) → a.now.may_leave server.0 image → IsWhole geo image

-- the store is open, and its map is that of this image
pub record IsOpenOn (geo : Geometry) (image : List ℕ) (b : Meaning) (store : SeenStore) : Type 0 where
  pub is_open : IsOpen store b.now
  pub map : (id : FragId) → map_in store b.now id ≡ map_on geo image id

-- a platter came back with an image that it might leave, and the others are as before at each moment. The outcome is that of this image: a store is opened on it that is this
-- server's, or the fault is true of it. After a fault other than a stop the platter still may have any image that it might leave;
-- and if those have room, it has at each moment one of them or this one with the same map and fence, and the store that was opened
-- has its map
pub record Reopens (geo : Geometry) (server : ServerId) (result : Result SeenStore OpenFault) (a b : Meaning) : Type 0 where
  pub image : List ℕ
  pub left : a.now.may_leave server.0 image
  pub good : IfOk result (IsGood geo server image)
  pub unfit : IfErr result (IsUnfit geo server image)
  pub others : SparesOthers server.0 a b
  pub looked : IfErr result (λ fault. fault ≢ Stopped → Run server.0 (a.now.may_leave server.0) a b)
  pub run : AreWhole geo server a → Run server.0 (λ other. a.now.may_leave server.0 other ⊎ StaysWhole geo image other) a b
  pub is_open : AreWhole geo server a → IfOk result (IsOpenOn geo image b)

-- what came of bringing a node up, by its store
abbrev pub risen : Result SeenStore OpenFault → Result (Unit {0}) OpenFault × Server
risen (Ok store) = (Ok tt, Up store false)
risen (Err why) = (Err why, away why)

-- a store was opened on the platter that came back, or wasn't, and the node and the outcome are those
pub record Rises (geo : Geometry) (server : ServerId) (result : Result (Unit {0}) OpenFault) (new : Server) (a b : Meaning) : Type 0 where
  pub opening : Result SeenStore OpenFault
  pub reopens : Reopens geo server opening a b
  pub comes : (result, new) ≡ risen opening
