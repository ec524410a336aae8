-- The nodes of a sound system, with what they were given and have told.
use Rattle.std.specs.Prelude.{◌≡◌, ◌≢◌, ◌⊎◌, ℕ, ◌+◌, ◌≤◌, true, List, [], ◌++◌, length, slice_get, Some, None, is_some, Option}
use Rattle.zb_types.specs.declared.ids.ServerId.{ServerId}
use Rattle.zb_types.specs.declared.lines.Kind.{Kind}
use Rattle.zb_types.specs.declared.lines.Kind.TheVariants.{Lookup, Fetch}
use Rattle.zb_types.specs.declared.lines.Outcome.{Outcome}
use Rattle.zb_claims.specs.Points.{tree_at}
use Rattle.zb_given.specs.Given.{FitGiven, Given, script_of}
use Rattle.zb_given.specs.Calls.{LookedUp}
use Rattle.zb_given.specs.Telling.{IsOfNow, StepTells}
use Rattle.zb_tables.specs.Tables.{Contents}
use Rattle.zb_servers.specs.Standing.{maps_of, server_at}
use Rattle.zb_servers_laws.specs.Indexed.{AllFitIndex}
use Rattle.zb_client.specs.Seen.{SeenClient, kind_of}
use Rattle.zb_client_laws.specs.Around.{IsAround}
use Rattle.zb_client_laws.specs.Sound.{ClientsAreSound}
use Rattle.zb_line_laws.specs.Calls.{HasItsCalls, IsCalm}
use Rattle.zb_progress.specs.Fresh.{RoseBy}
use Rattle.zb_system.specs.Nodes.{IsClient, SeenNodes, around}
use Rattle.zb_system.specs.Looking.{HasLookedUp, tree_for}

-- The servers of a sound system: as many as there are to be, each fragment where its index says, and none that refuses the
-- members' generation.
pub record ServersAreSound (n : SeenNodes) : Type 0 where
  pub count : length n.servers.servers ≡ n.manager.sizes.servers
  pub index : AllFitIndex n.manager.sizes.servers (maps_of n.servers)
  pub fences : (server : ServerId) → (server_at n.servers.servers server).fence ≤ n.manager.tables.members.generation

-- Each client has the calls that it was given, by the lines, and its read at work was looked up as `reads` has it.
pub record ClientsHaveCalls (given : Given) (lines : List Outcome) (reads : ℕ → Option LookedUp) (clients : List SeenClient) : Type 0 where
  pub calls : (i : ℕ) (c : SeenClient) → slice_get clients i ≡ Some c → HasItsCalls given lines c
  pub looked : (i : ℕ) (c : SeenClient) → slice_get clients i ≡ Some c → HasLookedUp given lines c (reads i)

-- The lines fit what was given, and nothing befell the file manager.
pub record LinesAreSound (given : Given) (lines : List Outcome) : Type 0 where
  pub fit : FitGiven given lines
  pub calm : IsCalm lines

-- The nodes of a sound system: servers and tables stand for the tree of the lines, each client is sound and has its calls, what
-- it reads being of the tree at its lookup, and the lines fit what was given.
pub record AreSound (given : Given) (lines : List Outcome) (n : SeenNodes) : Type 0 where
  pub contents : Contents
  pub reads : ℕ → Option LookedUp
  pub stands : IsAround n.servers.slots (around n contents (tree_at (script_of given) lines))
  pub clients : ClientsAreSound (around n contents (tree_at (script_of given) lines)) (λ i. tree_for given lines (reads i)) n.clients
  pub count : length n.clients ≡ n.manager.sizes.clients
  pub calls : ClientsHaveCalls given lines reads n.clients
  pub servers : ServersAreSound n
  pub told : LinesAreSound given lines
  pub rose : RoseBy n.manager.tables.next_entry n.manager.tables

-- What a step of this kind, behind these lines, that told `more` makes of its client's read at work: a lookup looks it up
-- now, and no other step looks one up. Where a block is read and lines are told, they answer the read that was looked up.
pub record ReadStays (kind : Kind) (old new : Option LookedUp) (lines more : List Outcome) : Type 0 where
  pub looked : kind ≡ Lookup → IsOfNow new (lines ++ more)
  pub goes_on : kind ≢ Lookup → (new ≡ old) ⊎ (new ≡ None)
  pub answers : kind ≡ Fetch → more ≢ [] → is_some old ≡ true

-- What a step of client i + 1 leaves that told `more`: the nodes are sound with its lines, which are its own; a read is answered from
-- the tree at its lookup; and the reads of others stay looked up as they were.
pub record StaysSound {given : Given} {lines : List Outcome} {old : SeenNodes} (s : AreSound given lines old) (new : SeenNodes) (i : ℕ) (more : List Outcome) : Type 0 where
  pub sound : AreSound given (lines ++ more) new
  pub tells : StepTells given lines (i + 1) (s.reads i) (sound.reads i) more
  pub read : (c : SeenClient) → IsClient old i c → ReadStays (kind_of c) (s.reads i) (sound.reads i) lines more
  pub others : (j : ℕ) → j ≢ i → sound.reads j ≡ s.reads j

-- the nodes are sound where this was given, with the lines as they are; the reads that were looked up stay so
pub record StaysWith {given : Given} {lines : List Outcome} {old : SeenNodes} (s : AreSound given lines old) (more : Given) (new : SeenNodes) : Type 0 where
  pub sound : AreSound more lines new
  pub reads : (i : ℕ) → sound.reads i ≡ s.reads i
