-- What servers in memory have.
use Rattle.std.specs.Prelude.{◌≡◌, ◌≢◌, ℕ, ◌-◌, ◌≤◌, List, [], ◌∷◌, length, slice_index_or, Option}
use Rattle.std.specs.List.Sorted.{IsStrictlySortedBy}
use Rattle.std.specs.Map.{lookup, keys_of}
use Rattle.zb_types.specs.declared.ids.ServerId.{ServerId}
use Rattle.zb_types.specs.declared.ids.FragId.{FragId}
use Rattle.zb_types.specs.Order.{frag_cmp}
use Rattle.zb_holding.specs.Fragments.{Fragment}
use Rattle.zb_holding.specs.Holding.{Maps}
use Rattle.zb_holding.specs.Carrying.{same_frag}
use Rattle.zb_holding.specs.Rules.{Holdings}

-- names, each with what stands under it
abbrev pub Entries : Type 0
Entries = List (FragId × Fragment)

-- each name once, in order
abbrev pub IsInOrder : Entries → Type 0
IsInOrder entries = IsStrictlySortedBy frag_cmp (keys_of entries)

-- what stands under a name
abbrev pub stands_in : Entries → FragId → Option Fragment
stands_in entries id = lookup (same_frag id) entries

-- a server: what it keeps, and the least generation that it takes
pub record SeenServer : Type 0 where
  pub entries : Entries
  pub fence : ℕ

-- how many slots each server has, and the servers
pub record SeenServers : Type 0 where
  pub slots : ℕ
  pub servers : List SeenServer

-- a server that keeps nothing and takes every generation
abbrev pub empty_server : SeenServer
empty_server = record { entries = []; fence = 1 }

-- the server with this number, counted from 1, and an empty one where there is none
abbrev pub server_at : List SeenServer → ServerId → SeenServer
server_at servers server = slice_index_or (empty_server ∷ servers) server.0 empty_server

-- what a server with so many slots has: each name takes one
abbrev pub holdings_of : ℕ → SeenServer → Holdings
holdings_of slots s = record { map = stands_in s.entries; fence = s.fence; free = slots - length s.entries }

-- what one of these servers has
abbrev pub has : SeenServers → ServerId → Holdings
has s server = holdings_of s.slots (server_at s.servers server)

-- what each of these servers has under each name
abbrev pub maps_of : SeenServers → Maps
maps_of s server id = stands_in (server_at s.servers server).entries id

-- each server but this one is as it was
abbrev pub AreOthersSame : ServerId → SeenServers → SeenServers → Type 0
AreOthersSame server old new = (other : ServerId) → other.0 ≢ server.0 → server_at new.servers other ≡ server_at old.servers other

-- so many servers at most, and each has room for what it keeps
pub record AreServers (slots : ℕ) (servers : List SeenServer) : Type 0 where
  pub few : length servers ≤ 16
  pub room : (server : ServerId) → length (server_at servers server).entries ≤ slots
