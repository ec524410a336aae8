-- What a node does whose store has answered.
use Rattle.std.proofs.Common.{◌≡◌, ◌⊎◌, inr, ℕ, Bool, false, Result, Ok, Err, Some, sym, ◌∙◌, ap, subst}
use Rattle.zb_outside.specs.Meaning.{Meaning}
use Rattle.zb_types.specs.declared.geometry.Geometry.{Geometry}
use Rattle.zb_types.specs.declared.ids.ServerId.{ServerId}
use Rattle.zb_types.specs.declared.requests.Request.{Request}
use Rattle.zb_types.specs.declared.requests.Response.{Response}
use Rattle.zb_types.specs.declared.requests.StoreFault.{StoreFault}
use Rattle.zb_holding.specs.Rules.{refusal_of}
use Rattle.zb_fragstore.specs.Seen.{SeenStore, holding}
use Rattle.zb_fragstore.specs.Answers.{HasStopped}
use Rattle.zb_fragstore.specs.Changing.{map_in, IsOpen}
use Rattle.zb_fragstore.specs.Reading.{IsLookedAt}
use Rattle.zb_server.specs.Answering.{said, HasAnswered, Answers}
use Rattle.zb_fragstore.specs.declared.faults.OpenFault.{OpenFault}
use Rattle.zb_fragstore.specs.declared.faults.OpenFault.TheVariants as fault
use Rattle.zb_server.specs.Asking.{FitsSystem}
use Rattle.zb_server.specs.Rising.{away, Leaves}
use Rattle.zb_server.specs.Serving.{MayServe, IsNodeOf, StaysUp, Serves, WentDown}
use Rattle.zb_server.specs.declared.server.Server.{Server}
use Rattle.zb_server.specs.declared.server.Server.TheVariants.{Up, Down, Blank}

-- a node may be asked what fits its system
pub may_serve : (geo : Geometry) (server : ServerId) (node : Server) (request : Request) → IsNodeOf geo server node → FitsSystem geo request → MayServe node request
may_serve geo server (Up store mending) request is fits = subst (λ (g : Geometry). FitsSystem g request) (sym is.geo_is) fits
may_serve geo server Down request is fits = tt
may_serve geo server Blank request is fits = tt

away_node : (geo : Geometry) (server : ServerId) (why : OpenFault) → IsNodeOf geo server (away why)
away_node geo server fault.Blank = tt
away_node geo server (fault.Damaged slot) = tt
away_node geo server fault.NoMemory = tt
away_node geo server fault.Stopped = tt

-- a node that was brought up, or wasn't, is of its server
pub risen_node : (geo : Geometry) (server : ServerId) (result : Result (Unit {0}) OpenFault) (new : Server) → Leaves geo server result new → IsNodeOf geo server new
risen_node geo server (Ok done) new h = subst (IsNodeOf geo server) (sym h.up) h.system
risen_node geo server (Err why) new h = subst (IsNodeOf geo server) (sym h) (away_node geo server why)

-- the store of a node, or else another
abbrev store_or : SeenStore → Server → SeenStore
store_or other (Up store mending) = store
store_or other Down = other
store_or other Blank = other

abbrev is_mended : Server → Bool
is_mended (Up store mending) = mending
is_mended Down = false
is_mended Blank = false

-- a node that is up in two ways is so in one
module _ (s store : SeenStore) (m mending : Bool) (old : Server) (is : old ≡ Up s m) (was : old ≡ Up store mending) where
  same_mending : m ≡ mending
  same_mending = ap is_mended (sym is ∙ was)

  same_store : s ≡ store
  same_store = ap (store_or s) (sym is ∙ was)

  pub stays_up : (now : SeenStore) (response : Response) → WentDown (Up now m) response ⊎ StaysUp mending (Up now m)
  stays_up now response = inr (record { now = now; up = ap (λ (n : Bool). Up now n) same_mending })

  -- the answer is that of its store
  pub served : (generation : ℕ) (request : Request) (now : SeenStore) (result : Result Response StoreFault) (response : Response) (a b : Meaning) → (IsOpen s a.now → Answers s generation request now result a b) → IsOpen store a.now
      → (HasStopped result → ⊥) → response ≡ said result → Serves store mending generation request (Up now m) response a b
  served generation request now result response a b answers is_open runs says =
      let h = answers (subst (λ (x : SeenStore). IsOpen x a.now) (sym same_store) is_open) in
      subst (λ (x : SeenStore). Serves x mending generation request (Up now m) response a b) same_store (record {
        run = h.run;
        answered = λ next e. subst (λ (x : SeenStore). HasAnswered s generation request x response a b) (ap (store_or now) e)
            (subst (λ (x : Response). HasAnswered s generation request now x a b) (sym says) (h.answered runs));
      })

  -- and so is what it looked at
  abbrev Looks : (generation : ℕ) → Request → Meaning → Meaning → SeenStore → Type 0
  Looks generation request a b x = IsOpen x a.now → (fault : StoreFault) → refusal_of (holding x (map_in x a.now)) generation request ≡ Some fault → IsLookedAt x.server.0 a b

  pub looked : (generation : ℕ) (request : Request) (a b : Meaning) → Looks generation request a b s → Looks generation request a b store
  looked generation request a b h = subst (Looks generation request a b) same_store h
