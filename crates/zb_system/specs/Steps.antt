-- What a step of a client does among the nodes, kind by kind.
use Rattle.std.specs.Prelude.{◌≡◌, ◌⊎◌, ℕ, ◌<◌, Bool, true, false, if◌then◌else◌, List, length, slice_set, Option, Some, None}
use Rattle.zb_types.specs.declared.calls.Call.{Call}
use Rattle.zb_types.specs.declared.calls.Reply.{Reply}
use Rattle.zb_types.specs.declared.ids.ServerId.{ServerId}
use Rattle.zb_types.specs.declared.lines.Said.TheVariants as said
use Rattle.zb_types.specs.declared.requests.Request.{Request}
use Rattle.zb_types.specs.declared.requests.Response.{Response}
use Rattle.zb_types.specs.declared.tables.CommitFault.{CommitFault}
use Rattle.zb_types.specs.Apply.{reply_to}
use Rattle.zb_holding.specs.Carrying.{carried}
use Rattle.zb_holding.specs.Rules.{IsAnswer, IsLeft}
use Rattle.zb_stripe.specs.Reading.{asked}
use Rattle.zb_tables.specs.Tables.{Contents, shown_tree}
use Rattle.zb_tables.specs.Taking.{commit_refusal}
use Rattle.zb_manager.specs.Managers.{SameTables}
use Rattle.zb_manager.specs.Seen.{held_by}
use Rattle.zb_turns.specs.Turns.{IsCommitted, other_holder, reads_names}
use Rattle.zb_servers.specs.Standing.{AreOthersSame, SeenServers, has, maps_of}
use Rattle.zb_servers.specs.Serving.{is_refused}
use Rattle.zb_basis.specs.declared.basis.Basis.{Basis}
use Rattle.zb_basis.specs.declared.basis.Formed.{Formed}
use Rattle.zb_basis.specs.declared.basis.Sealed.{Sealed}
use Rattle.zb_work.specs.declared.work.Task.{Task}
use Rattle.zb_work.specs.declared.work.Step.{Step}
use Rattle.zb_work.specs.declared.work.Step.TheVariants.{Lookup as LookupStep, Fetch, Store, Mark, Commit}
use Rattle.zb_work.specs.Steps.{first_members}
use Rattle.zb_client.specs.declared.steps.Answer.TheVariants as answer
use Rattle.zb_client.specs.declared.steps.Lookup.{Lookup}
use Rattle.zb_client.specs.declared.steps.Lookup.TheVariants.{Files, Names}
use Rattle.zb_client.specs.declared.steps.Told.{Told}
use Rattle.zb_client.specs.Answering.{IsOutdated}
use Rattle.zb_client.specs.Hearing.{HearsFetch, HearsLookup, HearsStore, commits, hears_outdated, takes_call}
use Rattle.zb_client.specs.Seen.{SeenClient}
use Rattle.zb_client.specs.Telling.{Heard, answers_read}
use Rattle.zb_client.specs.Wishing.{head_of, lookup_of}
use Rattle.zb_client_laws.specs.Effects.{founds}
use Rattle.zb_client_laws.specs.Known.{IsKnown}
use Rattle.zb_system.specs.Nodes.{IsClient, SeenNodes, readied}

-- one server was asked this with a generation, and answered by the rules; the others are as they were
pub record IsServed (old new : SeenServers) (generation : ℕ) (asked : ServerId × Request) (response : Response) : Type 0 where
  pub answer : IsAnswer (has old asked.0) generation asked.1 response
  pub left : IsLeft (has old asked.0) asked.1 response (has new asked.0)
  pub carried_out : is_refused response ≡ false → maps_of new ≡ carried (maps_of old) asked
  pub refused : is_refused response ≡ true → new ≡ old
  pub others : AreOthersSame asked.0 old new
  pub slots : new.slots ≡ old.slots
  pub count : length new.servers ≡ length old.servers

-- file manager and servers are as they were
pub record LeavesBoth (old new : SeenNodes) : Type 0 where
  pub manager : new.manager ≡ old.manager
  pub servers : new.servers ≡ old.servers

-- the first queued call is taken
pub record TakesCall (old new : SeenNodes) (c : SeenClient) (heard : Heard) : Type 0 where
  pub queued : 0 < length c.queue
  pub heard_is : heard ≡ takes_call c
  pub same : LeavesBoth old new

-- files are looked up, in one turn of the file manager, which the client holds from then on if it is to
pub record LooksUpFiles (old new : SeenNodes) (c : SeenClient) (task : Task) (hold : Bool) (heard : Heard) : Type 0 where
  pub unblocked : hold ≡ true → other_holder c.client old.manager.holder ≡ None
  pub manager : new.manager ≡ (if hold then held_by (Some c.client) old.manager else old.manager)
  pub servers : new.servers ≡ old.servers

-- a call that reads names is answered, in one turn of the file manager, as the tree is that its tables show
pub record LooksUpNames (old new : SeenNodes) (c : SeenClient) (call : Call) (heard : Heard) : Type 0 where
  pub names : reads_names call ≡ true
  pub reply : Reply
  pub right : (contents : Contents) → reply ≡ reply_to (shown_tree old.manager.sizes.block old.manager.tables contents) call
  pub heard_is : heard ≡ answers_read c (said.Reply reply)
  pub same : LeavesBoth old new

-- a lookup, of files or names
abbrev pub LooksUp : SeenNodes → SeenNodes → SeenClient → Task → Lookup → Heard → Type 0
LooksUp old new c task (Files hold asks) heard = LooksUpFiles old new c task hold heard × HearsLookup c (answer.Found (founds old.manager.tables asks)) heard
LooksUp old new c task (Names call) heard = LooksUpNames old new c call heard

-- a block, or a part of it, is read, with one request
pub record Fetches (old new : SeenNodes) (c : SeenClient) (basis : Basis) (step : Step) (wanted : Option (ServerId × Request)) (heard : Heard) : Type 0 where
  pub asked : ServerId × Request
  pub is : wanted ≡ Some asked
  pub response : Response
  pub serving : ℕ
  pub served : IsServed old.servers new.servers (first_members basis.found).generation asked response
  pub hears : HearsFetch c step response serving heard
  pub manager : new.manager ≡ old.manager

-- the next request of a batch is made, and it is given up where a slot is wanting; then the client doesn't hold any longer
pub record Stores (old new : SeenNodes) (c : SeenClient) (basis : Basis) (formed : Formed) (heard : Heard) : Type 0 where
  pub asked : ServerId × Request
  pub is : head_of formed.plan ≡ Some asked
  pub response : Response
  pub served : IsServed old.servers new.servers formed.sealed.members.generation asked response
  pub hears : HearsStore c (Store basis formed) response heard
  pub manager : new.manager ≡ (if is_refused response then held_by (other_holder c.client old.manager.holder) old.manager else old.manager)

-- a batch is committed, in one turn of the file manager
pub record Commits (old new : SeenNodes) (c : SeenClient) (sealed : Sealed) (heard : Heard) : Type 0 where
  pub right : commit_refusal old.manager.sizes.block old.manager.tables sealed.batch sealed.placed.pieces sealed.members.generation ≡ None
  pub replies : List Reply
  pub committed : IsCommitted sealed.batch sealed.placed.pieces old.manager new.manager replies
  pub heard_is : heard ≡ commits c replies

-- or it is behind a version or the members, and isn't
pub record IsBehindNow (old new : SeenNodes) (c : SeenClient) (sealed : Sealed) (heard : Heard) : Type 0 where
  pub fault : CommitFault
  pub refusal : commit_refusal old.manager.sizes.block old.manager.tables sealed.batch sealed.placed.pieces sealed.members.generation ≡ Some fault
  pub outdated : IsOutdated fault
  pub heard_is : heard ≡ hears_outdated c fault
  pub same : SameTables old.manager new.manager

-- a commit is asked, where no other client holds
pub record AsksCommit (old new : SeenNodes) (c : SeenClient) (sealed : Sealed) (heard : Heard) : Type 0 where
  pub unblocked : other_holder c.client old.manager.holder ≡ None
  pub servers : new.servers ≡ old.servers
  pub turn : Commits old new c sealed heard ⊎ IsBehindNow old new c sealed heard

-- what a client's work does at this step; no server is ever to be marked
abbrev pub DoesStep : SeenNodes → SeenNodes → SeenClient → Task → Step → Heard → Type 0
DoesStep old new c task LookupStep heard = LooksUp old new c task (lookup_of c task.tries c.kept) heard
DoesStep old new c task (Fetch basis at ptr plan) heard = Fetches old new c basis (Fetch basis at ptr plan) (asked plan) heard
DoesStep old new c task (Store basis formed) heard = Stores old new c basis formed heard
DoesStep old new c task (Mark server generation) heard = ⊥
DoesStep old new c task (Commit basis sealed) heard = AsksCommit old new c sealed heard

-- what a client does next
abbrev pub Does : SeenNodes → SeenNodes → SeenClient → Option Task → Heard → Type 0
Does old new c None heard = TakesCall old new c heard
Does old new c (Some task) heard = DoesStep old new c task task.step heard

-- Client i + 1 has made a step, with the memory that it had taken for it, and told this; the other clients are as they were.
pub record HasStepped (old new : SeenNodes) (i : ℕ) (told : Told) : Type 0 where
  pub client : SeenClient
  pub is : IsClient old i client
  pub known : IsKnown client
  pub heard : Heard
  pub told_is : heard.told ≡ told
  pub clients : new.clients ≡ slice_set old.clients i heard.client
  pub does : Does old new (readied client) client.task heard

-- nothing has changed, but that client i + 1 may have taken memory for its next step, and the file manager room
pub record IsReadied (old new : SeenNodes) (i : ℕ) : Type 0 where
  pub client : SeenClient
  pub is : IsClient old i client
  pub ready : Bool
  pub clients : new.clients ≡ slice_set old.clients i (record client { is_ready = ready })
  pub manager : SameTables old.manager new.manager
  pub servers : new.servers ≡ old.servers
