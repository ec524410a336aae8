-- What is read and put at a server's number.
use Rattle.std.proofs.Common.{◌≡◌, ◌≢◌, ℕ, zero, suc, ◌-◌, ◌<◌, ◌≤◌, List, ◌∷◌, length, None, sym, ap, ◌∙◌, refl, subst, inl, inr, arith, get_or-set_same, get_or-set_other}
use Rattle.std.specs.Prelude.{replicate, slice_index_or, slice_set}
use Rattle.std.proofs.lemmas.List.{get_or_default, length-set, length-replicate}
use Rattle.std.proofs.lemmas.Bool.{cases_eq}
use Rattle.zb_types.specs.declared.ids.ServerId.{ServerId}
use Rattle.zb_types.specs.declared.ids.FragId.{FragId}
use Rattle.zb_servers.specs.Standing.{SeenServer, SeenServers, empty_server, server_at, stands_in, AreServers}

-- this is read at a place, which is that of a server
pub record IsPlaced (servers : List SeenServer) (server : ServerId) (at : ℕ) (read : SeenServer) : Type 0 where
  pub place : server.0 ≡ suc at
  pub below : at < length servers
  pub is : read ≡ server_at servers server

pub placed : (seen : SeenServers) (servers : List SeenServer) (server : ServerId) (number : ℕ) (read : SeenServer) → number ≡ server.0 → 0 < server.0 → server.0 ≤ length seen.servers → servers ≡ seen.servers
    → read ≡ slice_index_or servers (number - 1) read → IsPlaced servers server (number - 1) read
placed seen servers server number read e first last same is =
    let count : length servers ≡ length seen.servers = ap length same in
    let place : server.0 ≡ suc (number - 1) = omega (arith, e, first) in
    let below : number - 1 < length servers = omega (arith, e, first, last, count) in
    record {
      place = place;
      below = below;
      is = is ∙ get_or_default servers (number - 1) read empty_server below ∙ sym (ap (λ n. slice_index_or (empty_server ∷ servers) n empty_server) place);
    }

-- each of the servers has room
pub has_room : (slots : ℕ) (servers : List SeenServer) (server : ServerId) (at : ℕ) (read : SeenServer) → AreServers slots servers → IsPlaced servers server at read → length read.entries ≤ slots
has_room slots servers server at read are p = subst (λ (s : SeenServer). length s.entries ≤ slots) (sym p.is) (are.room server)

module _ (servers : List SeenServer) (server : ServerId) (new : SeenServer) (at : ℕ) (place : server.0 ≡ suc at) where
  -- the server with a number then, counted from 0 in front of the first
  now_at : ℕ → SeenServer
  now_at k = slice_index_or (empty_server ∷ slice_set servers at new) k empty_server

  other_at : (k : ℕ) → (k ≡ server.0 → ⊥) → now_at k ≡ slice_index_or (empty_server ∷ servers) k empty_server
  unfolding now_at
  other_at zero ne = refl
  other_at (suc k) ne = get_or-set_other servers at k new empty_server (λ e. ne (ap suc e ∙ sym place))

  pub other-same : (other : ServerId) → other.0 ≢ server.0 → server_at (slice_set servers at new) other ≡ server_at servers other
  unfolding now_at
  other-same other ne = other_at other.0 (λ e. absurd (ne e))

  pub own-new : (other : ServerId) → other.0 ≡ server.0 → at < length servers → server_at (slice_set servers at new) other ≡ new
  own-new other e below =
      ap (λ n. slice_index_or (empty_server ∷ slice_set servers at new) n empty_server) (e ∙ place) ∙ get_or-set_same servers at new empty_server below

  -- the servers are such still, where this one has room
  pub still_servers : (slots : ℕ) → AreServers slots servers → at < length servers → length new.entries ≤ slots → AreServers slots (slice_set servers at new)
  still_servers slots are below fits = record {
    few = omega (arith, length-set servers at new, are.few);
    room = λ other. elim (cases_eq other.0 server.0) [
      | inl e ↦ subst (λ (s : SeenServer). length s.entries ≤ slots) (sym (own-new other e below)) fits
      | inr ne ↦ subst (λ (s : SeenServer). length s.entries ≤ slots) (sym (other-same other (λ e. absurd (ne e)))) (are.room other)
    ];
  }

-- ---- where nothing is kept

empty_after : (count k : ℕ) → slice_index_or (replicate {A = SeenServer} count empty_server) k empty_server ≡ empty_server
empty_after zero k = refl
empty_after (suc count) zero = refl
empty_after (suc count) (suc k) = empty_after count k

empty_at : (count k : ℕ) → slice_index_or (empty_server ∷ replicate {A = SeenServer} count empty_server) k empty_server ≡ empty_server
empty_at count zero = refl
empty_at count (suc k) = empty_after count k

-- so many empty servers
pub all_empty : (slots count : ℕ) → count ≤ 16 → AreServers slots (replicate count empty_server)
all_empty slots count few = record {
  few = omega (arith, length-replicate count empty_server, few);
  room = λ server. subst (λ (s : SeenServer). length s.entries ≤ slots) (sym (empty_at count server.0)) (omega arith);
}

pub nothing_stands : (servers : List SeenServer) (count : ℕ) (server : ServerId) (id : FragId) → servers ≡ replicate count empty_server → stands_in (server_at servers server).entries id ≡ None
nothing_stands servers count server id is =
    ap (λ (all : List SeenServer). stands_in (server_at all server).entries id) is ∙ ap (λ (s : SeenServer). stands_in s.entries id) (empty_at count server.0)
