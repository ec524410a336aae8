-- A server that serves no longer.
use Rattle.std.proofs.Common.{◌≡◌, ℕ, zero, suc, ◌-◌, ◌/◌, ◌%◌, ◌<◌, false, List, length, take, Option, Some, None, refl, sym, ap, ◌∙◌, arith}
use Rattle.std.proofs.lemmas.List.FromFn.{length-map-range_with_len}
use Rattle.zb_types.specs.declared.ids.LogId.{LogId}
use Rattle.zb_types.specs.declared.ids.ServerId.{ServerId}
use Rattle.zb_holding.specs.Holding.{View, StripeHolds, standing, away_at, is_away}
use Rattle.zb_plain.specs.Standing.{maps_of}
use Rattle.zb_tables.specs.Tables.{end_at}
use Rattle.zb_stripe_laws.proofs.Away.{away_once}
use Rattle.zb_stripe_laws.proofs.Mended.{holds_away}
use Rattle.zb_fetching.specs.Bytes.{given_byte, given_bytes}
use Rattle.zb_fetching.specs.Stores.{SeenServers, IsSoundStore, IsHeld, view_at, contents_of}
use Rattle.zb_fetching.proofs.Given.{given_are}

-- what servers give of a stripe that they hold are its first bytes
pub given_held : (v : View) (log : LogId) (stripe end : ℕ) (bytes : List ℕ) → 1 < v.servers → 0 < v.fragment → StripeHolds v log stripe end bytes
    → given_bytes v log stripe end ≡ take end bytes
given_held v log stripe end bytes two pos holds =
    given_are (v.servers - 1) v.fragment (standing v.servers v.maps log stripe) (away_at v.servers v.away log stripe) end bytes
    (λ j k jn kn. away_once v.servers v.away log stripe j k (omega arith) (omega arith)) holds pos

-- as many bytes are given as are committed
pub given_long : (v : View) (log : LogId) (stripe end : ℕ) → length (given_bytes v log stripe end) ≡ end
given_long v log stripe end =
    length-map-range_with_len (λ i. given_byte (standing v.servers v.maps log stripe) (away_at v.servers v.away log stripe) (v.servers - 1) (i / v.fragment) (i % v.fragment)) 0 end

-- the same servers, one of which serves no longer
abbrev pub without_server : SeenServers → ServerId → SeenServers
without_server s server = record { geo = s.geo; kept = s.kept; held = s.held; lost = Some server }

all_there : (lost : Option ServerId) (server : ServerId) → lost ≡ None → is_away lost server ≡ false
all_there lost server none = ap (λ o. is_away o server) none

module _ (s : SeenServers) (server : ServerId) (none : s.lost ≡ None) (sound : IsSoundStore s) where
  holds_still : (log : LogId) (stripe end : ℕ) (bytes : List ℕ) → StripeHolds (view_at s) log stripe end bytes → StripeHolds (view_at (without_server s server)) log stripe end bytes
  holds_still log stripe end bytes holds =
      holds_away (s.geo.servers - 1) s.geo.fragment (standing s.geo.servers (maps_of s.kept) log stripe) (away_at s.geo.servers s.lost log stripe) end bytes
      (away_at s.geo.servers (Some server) log stripe) (λ k _. all_there s.lost _ none) holds

  pub still_sound : IsSoundStore (without_server s server)
  still_sound = record {
    count = sound.count;
    fit = sound.fit;
    held = λ log stripe some. let h = sound.held log stripe some in record { bytes = h.bytes; holds = holds_still log stripe (end_at s.held log stripe) h.bytes h.holds };
    free = sound.free;
  }

  same_bytes : (log : LogId) (stripe end : ℕ) → (0 < end → IsHeld (view_at s) log stripe end)
      → given_bytes (view_at (without_server s server)) log stripe end ≡ given_bytes (view_at s) log stripe end
  same_bytes log stripe zero held = refl
  same_bytes log stripe (suc end) held =
      let h = held (omega arith) in
      let low = s.geo.limits.servers_low in
      let some = s.geo.limits.fragment_low in
      given_held (view_at (without_server s server)) log stripe (suc end) h.bytes (omega arith) (omega arith) (holds_still log stripe (suc end) h.bytes h.holds)
      ∙ sym (given_held (view_at s) log stripe (suc end) h.bytes (omega arith) (omega arith) h.holds)

  pub same_contents : contents_of (without_server s server) ≡ contents_of s
  same_contents = λ i log stripe. same_bytes log stripe (end_at s.held log stripe) (sound.held log stripe) i
