-- The first nodes of a system are sound.
use Rattle.std.proofs.Common.{◌≡◌, ℕ, zero, suc, ◌+◌, ◌<◌, ◌≤◌, false, List, [], length, replicate, Option, Some, None, refl, sym, ap, ◌∙◌, subst, arith}
use Rattle.std.specs.Prelude.{slice_get, slice_index_or}
use Rattle.std.proofs.lemmas.List.{length-replicate}
use Rattle.std.proofs.lemmas.Option.{none-some, slice_get_within}
use Rattle.zb_types.specs.declared.ids.FragId.{FragId}
use Rattle.zb_types.specs.declared.ids.ServerId.{ServerId}
use Rattle.zb_types.specs.declared.nodes.Members.{Members}
use Rattle.zb_types.specs.declared.nodes.State.TheVariants.{Whole}
use Rattle.zb_types.specs.Tree.{first_tree}
use Rattle.zb_holding.specs.Fragments.{Fragment}
use Rattle.zb_tables.specs.Tables.{Contents, Tables}
use Rattle.zb_recovery.specs.Missing.{Servers}
use Rattle.zb_sound.specs.LogsCurrent.{LogIsCurrent}
use Rattle.zb_sound.specs.Standing.{StandFor}
use Rattle.zb_claims.specs.Points.{tree_at}
use Rattle.zb_given.specs.Given.{none_given, script_of}
use Rattle.zb_given.specs.Calls.{LookedUp}
use Rattle.zb_given.proofs.Standing.{stand_first}
use Rattle.zb_work.specs.declared.work.Aim.TheVariants.{Finish}
use Rattle.zb_client.specs.Seen.{SeenClient, first_client}
use Rattle.zb_client_laws.specs.Around.{IsAround, at_rest}
use Rattle.zb_client_laws.specs.Sound.{ClientIsSound}
use Rattle.zb_client_laws.proofs.Moves.{first_sound}
use Rattle.zb_line_laws.specs.Calls.{HasItsCalls}
use Rattle.zb_progress.specs.Fresh.{RoseBy}
use Rattle.zb_servers.specs.Standing.{SeenServer, empty_server, maps_of, server_at, stands_in}
use Rattle.zb_servers_laws.specs.Indexed.{FitsIndex}
use Rattle.zb_system.specs.First.{AreFirst, log}
use Rattle.zb_system.specs.Looking.{HasLookedUp, tree_for}
use Rattle.zb_system.specs.Nodes.{SeenNodes, around, stand_of}
use Rattle.zb_system.specs.Sound.{AreSound, ServersAreSound}
use Rattle.zb_system.proofs.Attached.{all_current, all_rose, all_stand, bare, members_to}

-- ---- servers that keep nothing

all_empty : (k j : ℕ) → slice_index_or (replicate k empty_server) j empty_server ≡ empty_server
all_empty zero j = refl
all_empty (suc k) zero = refl
all_empty (suc k) (suc j) = all_empty k j

empty_at : (k : ℕ) (server : ServerId) → server_at (replicate k empty_server) server ≡ empty_server
empty_at k server = all_empty (suc k) server.0

both_one : {a b : ℕ} → a ≡ 1 → b ≡ 1 → a ≤ b
both_one p q = omega (arith, p, q)

-- ---- a client that was given nothing

first_calls : (n f b client : ℕ) → HasItsCalls none_given [] (first_client n f b client (log client))
first_calls n f b client = record {
  taken = 0;
  lined = 0;
  stand = stand_first client;
  kept = tt;
  queue = tt;
  all = refl;
  work = refl;
  finishing = λ e. absurd (none-some Finish e);
}

-- ---- all nodes

-- no stripe has bytes
abbrev no_bytes : Contents
no_bytes log stripe = []

-- no client reads
abbrev none_read : ℕ → Option LookedUp
none_read i = None

module _ (n : SeenNodes) (a : AreFirst n) where
  each_empty : (server : ServerId) → server_at n.servers.servers server ≡ empty_server
  each_empty server = subst (λ (all : List SeenServer). server_at all server ≡ empty_server) (sym a.servers) (empty_at n.manager.sizes.servers server)

  nothing : (server : ServerId) (id : FragId) → maps_of n.servers server id ≡ None
  nothing server id = ap (λ (s : SeenServer). stands_in s.entries id) (each_empty server)

  all_bare : stand_of n.servers ≡ bare
  all_bare = λ i. record { maps = λ server id. nothing server id i; blank = λ server. false }

  members : n.manager.tables.members ≡ record { state = Whole; generation = 1 }
  members = ap (λ (t : Tables). t.members) a.tables ∙ members_to n.manager.sizes.clients

  stands : StandFor n.manager.sizes no_bytes (at_rest n.manager.tables) (stand_of n.servers) n.manager.tables first_tree
  stands =
      subst (λ (st : Servers). StandFor n.manager.sizes no_bytes (at_rest n.manager.tables) st n.manager.tables first_tree) (sym all_bare)
      (subst (λ (t : Tables). StandFor n.manager.sizes no_bytes (at_rest t) bare t first_tree) (sym a.tables) (all_stand n.manager.sizes no_bytes a.limits.clients_high))

  first_around : IsAround n.servers.slots (around n no_bytes (tree_at (script_of none_given) []))
  first_around = record {
    limits = a.limits;
    stands = stands;
    whole = ap (λ (m : Members). m.state) members;
    none_blank = λ server. refl;
  }

  module _ (i : ℕ) (c : SeenClient) (is : slice_get n.clients i ≡ Some c) where
    low : i < n.manager.sizes.clients
    low = let lt = slice_get_within n.clients i c is in let e = a.count in omega (arith, lt, e)

    current : LogIsCurrent n.manager.tables (log (i + 1)) (i + 1) 0 None n.manager.tables.members.generation 0 0
    current = subst (λ (t : Tables). LogIsCurrent t (log (i + 1)) (i + 1) 0 None t.members.generation 0 0) (sym a.tables) (all_current n.manager.sizes.clients i low)

    abbrev First : SeenClient
    First = first_client n.manager.sizes.servers n.manager.sizes.fragment n.manager.sizes.block (i + 1) (log (i + 1))

    own_sound : ClientIsSound (around n no_bytes (tree_at (script_of none_given) [])) (tree_for none_given [] None) c
    own_sound =
        subst (λ (d : SeenClient). ClientIsSound (around n no_bytes (tree_at (script_of none_given) [])) (tree_for none_given [] None) d) (sym (a.clients i c is))
        (first_sound n.servers.slots (around n no_bytes (tree_at (script_of none_given) [])) (tree_for none_given [] None) (i + 1) (log (i + 1)) first_around current (λ server id same above. nothing server id))

    own_number : c.client ≡ i + 1
    own_number = ap (λ (d : SeenClient). d.client) (a.clients i c is)

    own_calls : HasItsCalls none_given [] c
    own_calls =
        subst (λ (d : SeenClient). HasItsCalls none_given [] d) (sym (a.clients i c is))
        (first_calls n.manager.sizes.servers n.manager.sizes.fragment n.manager.sizes.block (i + 1))

    own_looked : HasLookedUp none_given [] c None
    own_looked = subst (λ (d : SeenClient). HasLookedUp none_given [] d None) (sym (a.clients i c is)) refl

  servers_sound : ServersAreSound n
  servers_sound = record {
    count = ap length a.servers ∙ length-replicate n.manager.sizes.servers empty_server;
    index = λ server id. subst (λ (o : Option Fragment). FitsIndex n.manager.sizes.servers id o) (sym (nothing server id)) tt;
    fences = λ server. both_one (ap (λ (s : SeenServer). s.fence) (each_empty server)) (ap (λ (m : Members). m.generation) members);
  }

  pub first_are_sound : AreSound none_given [] n
  first_are_sound = record {
    contents = no_bytes;
    reads = none_read;
    stands = first_around;
    clients = λ i c is. (own_sound i c is, own_number i c is);
    count = a.count;
    calls = record { calls = own_calls; looked = own_looked };
    servers = servers_sound;
    told = record { fit = record { fits = tt; stood = tt }; calm = refl };
    rose = subst (λ (t : Tables). RoseBy t.next_entry t) (sym a.tables) (all_rose n.manager.sizes.clients a.limits.clients_high);
  }
