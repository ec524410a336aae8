-- Servers with stripes, of which one at most doesn't serve.
use Rattle.std.specs.Prelude.{◌≡◌, ℕ, ◌<◌, List, ◌∷◌, [], length, Option, None}
use Rattle.zb_types.specs.declared.geometry.Geometry.{Geometry}
use Rattle.zb_types.specs.declared.ids.LogId.{LogId}
use Rattle.zb_types.specs.declared.ids.ServerId.{ServerId}
use Rattle.zb_types.specs.declared.tables.HeldUse.{HeldUse}
use Rattle.zb_holding.specs.Holding.{View, view_of, StripeHolds, standing}
use Rattle.zb_stripe.specs.declared.flush.Flush.{Flush}
use Rattle.zb_plain.specs.Standing.{Entries, maps_of}
use Rattle.zb_plain.specs.Indexed.{AllFitIndex}
use Rattle.zb_tables.specs.Tables.{Contents, end_at}
use Rattle.zb_fetching.specs.Bytes.{given_bytes}

-- the sizes, what each server keeps, up to where stripes are committed, and the server that doesn't serve, if any
pub record SeenServers : Type 0 where
  pub geo : Geometry
  pub kept : List Entries
  pub held : List HeldUse
  pub lost : Option ServerId

-- the servers that serve
abbrev pub view_at : SeenServers → View
view_at s = view_of s.geo.servers s.geo.fragment (maps_of s.kept) s.lost

-- what is committed of each stripe, as the servers that serve give it
abbrev pub contents_of : SeenServers → Contents
contents_of s log stripe = given_bytes (view_at s) log stripe (end_at s.held log stripe)

-- a stripe with some bytes is held up to this end
pub record IsHeld (v : View) (log : LogId) (stripe end : ℕ) : Type 0 where
  pub bytes : List ℕ
  pub holds : StripeHolds v log stripe end bytes

-- nothing stands of a stripe on any server
abbrev pub HasNothing : SeenServers → LogId → ℕ → Type 0
HasNothing s log stripe = (k : ℕ) → standing s.geo.servers (maps_of s.kept) log stripe k ≡ None

-- the servers that serve hold each stripe up to its committed end, and nothing stands of other stripes
pub record IsSoundStore (s : SeenServers) : Type 0 where
  pub count : length s.kept ≡ s.geo.servers
  pub fit : AllFitIndex s.geo.servers (maps_of s.kept)
  pub held : (log : LogId) (stripe : ℕ) → 0 < end_at s.held log stripe → IsHeld (view_at s) log stripe (end_at s.held log stripe)
  pub free : (log : LogId) (stripe : ℕ) → end_at s.held log stripe ≡ 0 → HasNothing s log stripe

-- the flush of one stripe that begins with these bytes
abbrev pub first_flush : LogId → ℕ → List ℕ → Flush
first_flush log stripe bytes = record { log = log; parts = (record { stripe = stripe; begin = 0; bytes = bytes }) ∷ [] }
