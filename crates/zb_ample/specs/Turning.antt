-- Clients that have work one after the other.
use Rattle.std.specs.Prelude.{◌≡◌, ◌≢◌, ℕ, ◌+◌, ◌-◌, ◌*◌, ◌<◌, true, List, length, take, is_some, Some}
use Rattle.std.specs.List.{AllByRecursion}
use Rattle.zb_types.specs.declared.ids.ServerId.{ServerId}
use Rattle.zb_types.specs.declared.ids.FragId.{FragId}
use Rattle.zb_types.specs.declared.geometry.Geometry.{Geometry}
use Rattle.zb_types.specs.declared.lines.Outcome.{Outcome}
use Rattle.zb_given.specs.Given.{Given, script_of}
use Rattle.zb_given.specs.Ends.{IsInTurn, all_told}
use Rattle.zb_line_laws.specs.Calls.{IsFinishing}
use Rattle.zb_manager.specs.Managers.{sizes_of}
use Rattle.zb_servers.specs.Standing.{has, maps_of}
use Rattle.zb_work.specs.declared.work.Aim.TheVariants.{Read}
use Rattle.zb_work.specs.Steps.{aim_of, step_of}
use Rattle.zb_client.specs.Seen.{SeenClient}
use Rattle.zb_progress.specs.Fresh.{is_fresh}
use Rattle.zb_system.specs.Nodes.{IsClient, SeenNodes}
use Rattle.zb_finishing.specs.Clients.{IsIdleAt}
use Rattle.zb_ample.specs.Reaching.{IsPaid, LogGoesOn, begun_by}
use Rattle.zb_ample.specs.Taking.{Belongs, SlotsAreTaken}

-- Each client has the log of its number, which goes on where it is, and has at most the updates that were given, each once.
pub record LogsAreFilled (geo : Geometry) (given : Given) (n : SeenNodes) : Type 0 where
  pub logs : (i : ℕ) (c : SeenClient) → IsClient n i c → c.log.log.0 ≡ i + 1
  pub rooms : (i : ℕ) (c : SeenClient) → IsClient n i c → c.log.room ≡ (geo.servers - 1) * geo.fragment
  pub go_on : (i : ℕ) (c : SeenClient) → IsClient n i c → LogGoesOn n.manager.tables.members.generation c.flushed (step_of c.task)
  pub paid : (i : ℕ) (c : SeenClient) → IsClient n i c → IsPaid geo given c

-- The servers have fragments of stripes that were begun, and each of these takes one slot.
pub record ServersAreFilled (geo : Geometry) (n : SeenNodes) : Type 0 where
  pub belong : (server : ServerId) (id : FragId) → is_some (maps_of n.servers server id) ≡ true → Belongs geo.servers (begun_by n.clients) server id
  pub taken : (server : ServerId) → SlotsAreTaken n.servers.slots (has n.servers server)

-- a read at work is of a queued call
abbrev pub ReadsFirst : SeenClient → Type 0
ReadsFirst c = aim_of c.task ≡ Some Read → 0 < length c.queue

-- At most one client has work, and rests on what the tables have now; each update was stored at most once.
pub record InTurn (geo : Geometry) (given : Given) (n : SeenNodes) : Type 0 where
  pub sizes : n.manager.sizes ≡ sizes_of geo
  pub slots : n.servers.slots ≡ geo.slots
  pub who : ℕ
  pub alone : (j : ℕ) → j ≢ who → IsIdleAt n j
  pub fresh : (c : SeenClient) → IsClient n who c → is_fresh n.manager.tables c ≡ true
  pub reads : (c : SeenClient) → IsClient n who c → ReadsFirst c
  pub logs : LogsAreFilled geo given n
  pub servers : ServersAreFilled geo n

-- each call was given where each call before it had its line, and each finish began where all calls that are given have theirs:
-- so none is given behind a finish
abbrev pub AreInTurn : Given → List Outcome → Type 0
AreInTurn given lines = IsInTurn given lines × AllByRecursion (λ at. all_told (take at lines) (script_of given) ≡ true) given.finishes

-- no finish has begun by these lines
abbrev pub IsUnfinished : Given → List Outcome → Type 0
IsUnfinished given lines = IsFinishing given lines → ⊥
