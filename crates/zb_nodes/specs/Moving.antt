-- What a step of one client leaves.
use Rattle.std.specs.Prelude.{◌≡◌, Bool, List}
use Rattle.zb_types.specs.declared.lines.Kind.TheVariants as kind
use Rattle.zb_manager.specs.Managers.{SameTables, SeenManager}
use Rattle.zb_servers.specs.Standing.{SeenServers}
use Rattle.zb_client.specs.Seen.{SeenClient, kind_of}
use Rattle.zb_client.specs.Telling.{Heard}
use Rattle.zb_client_laws.specs.Known.{IsKnown}
use Rattle.zb_system.specs.Nodes.{readied}
use Rattle.zb_system.specs.Steps.{Does}
use Rattle.zb_nodes.specs.declared.answers.Moved.{Moved}
use Rattle.zb_nodes.specs.declared.answers.Moved.TheVariants as moved
use Rattle.zb_nodes.specs.Among.{nodes}

-- the client makes its next step, whichever other clients there are
abbrev pub DoesNext : SeenManager → SeenServers → SeenClient → SeenManager → SeenServers → Heard → Type 0
DoesNext m s c after left heard = (clients others : List SeenClient) → Does (nodes clients m s) (nodes others after left) c c.task heard

-- all is as before
pub record IsStill (m : SeenManager) (s : SeenServers) (c : SeenClient) (after : SeenManager) (left : SeenServers) (now : SeenClient) : Type 0 where
  pub client : now ≡ c
  pub manager : SameTables m after
  pub servers : left ≡ s

-- the client may have memory for its next step, or lack it now, and else all is as before
pub record IsReadiedOnly (m : SeenManager) (s : SeenServers) (c : SeenClient) (after : SeenManager) (left : SeenServers) (now : SeenClient) : Type 0 where
  pub ready : Bool
  pub client : now ≡ record c { is_ready = ready }
  pub manager : SameTables m after
  pub servers : left ≡ s

-- a step that nobody blocks came to this
abbrev pub Carries : SeenManager → SeenServers → SeenClient → SeenManager → SeenServers → SeenClient → Moved → Type 0
Carries m s c after left now moved.Idle = (kind_of c ≡ kind.Idle) × IsStill m s c after left now
Carries m s c after left now (moved.Blocked holder) = ⊥
Carries m s c after left now (moved.Told told) = DoesNext m s c after left (record { client = now; told = told })

-- a step came to this
abbrev pub CameTo : SeenManager → SeenServers → SeenClient → SeenManager → SeenServers → SeenClient → Moved → Type 0
CameTo m s c after left now moved.Idle = (kind_of c ≡ kind.Idle) × IsReadiedOnly m s c after left now
CameTo m s c after left now (moved.Blocked holder) = IsReadiedOnly m s c after left now
CameTo m s c after left now (moved.Told told) = IsKnown c × DoesNext m s (readied c) after left (record { client = now; told = told })
