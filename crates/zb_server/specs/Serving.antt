-- What a server's node does with a request, moment by moment.
use Rattle.std.specs.Prelude.{◌≡◌, ℕ, Bool, true, false, not}
use Rattle.zb_outside.specs.Meaning.{Meaning}
use Rattle.zb_outside.specs.Runs.{Run}
use Rattle.zb_types.specs.declared.geometry.Geometry.{Geometry}
use Rattle.zb_types.specs.declared.ids.ServerId.{ServerId}
use Rattle.zb_types.specs.declared.requests.Request.{Request}
use Rattle.zb_types.specs.declared.requests.Response.{Response}
use Rattle.zb_types.specs.declared.requests.Response.TheVariants as told
use Rattle.zb_fragstore.specs.Seen.{SeenStore, IsStoreOf}
use Rattle.zb_server.specs.Asking.{FitsSystem}
use Rattle.zb_fragstore.specs.Changing.{IsBetween}
use Rattle.zb_server.specs.Answering.{HasAnswered}
use Rattle.zb_server.specs.declared.server.Server.{Server}
use Rattle.zb_server.specs.declared.server.Server.TheVariants.{Up, Down, Blank}

-- a node that is up may be asked what fits its system, any other anything
abbrev pub MayServe : Server → Request → Type 0
MayServe (Up store mending) request = FitsSystem store.geo request
MayServe node request = Unit {0}

-- a node's store, where it has one, is of this server of this system
abbrev pub IsNodeOf : Geometry → ServerId → Server → Type 0
IsNodeOf geo server (Up store mending) = IsStoreOf geo server store
IsNodeOf geo server Down = Unit {0}
IsNodeOf geo server Blank = Unit {0}

-- a node that isn't up
abbrev pub IsAway : Server → Type 0
IsAway (Up store mending) = ⊥
IsAway node = Unit {0}

-- does a node answer those who read?
abbrev pub is_serving : Server → Bool
is_serving (Up store mending) = not mending
is_serving node = false

-- a node after a crash
abbrev pub crashed : Server → Server
crashed (Up store mending) = Down
crashed node = node

-- the node went down and says so
pub record WentDown (new : Server) (response : Response) : Type 0 where
  pub down : new ≡ Down
  pub says : response ≡ told.Down

-- the node is up still
pub record StaysUp (mending : Bool) (new : Server) : Type 0 where
  pub now : SeenStore
  pub up : new ≡ Up now mending

-- at each moment the platter holds what it held or what the request leaves; and a node that is up still has answered
pub record Serves (store : SeenStore) (mending : Bool) (generation : ℕ) (request : Request) (new : Server) (response : Response) (a b : Meaning) : Type 0 where
  pub run : Run store.server.0 (IsBetween store request (a.now.seen store.server.0)) a b
  pub answered : (now : SeenStore) → new ≡ Up now mending → HasAnswered store generation request now response a b

-- did the node go down?
abbrev pub is_down : Server → Bool
is_down Down = true
is_down node = false
