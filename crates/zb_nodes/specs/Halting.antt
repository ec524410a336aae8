-- Why a step isn't made.
use Rattle.std.specs.Prelude.{◌≡◌, ◌⊎◌, ℕ, Bool, true, false, List, Option, Some, None, Result, Ok, Err}
use Rattle.zb_types.specs.declared.ids.Piece.{Piece}
use Rattle.zb_types.specs.declared.ids.ServerId.{ServerId}
use Rattle.zb_types.specs.declared.requests.Request.{Request}
use Rattle.zb_types.specs.declared.requests.Response.{Response}
use Rattle.zb_types.specs.declared.tables.CommitFault.{CommitFault}
use Rattle.zb_types.specs.declared.tables.CommitFault.TheVariants as fault
use Rattle.zb_holding.specs.Rules.{IsAnswer}
use Rattle.zb_batch.specs.declared.batch.Batch.{Batch}
use Rattle.zb_log.specs.declared.placed.LogFault.{LogFault}
use Rattle.zb_log.specs.declared.placed.LogFault.TheVariants as log_fault
use Rattle.zb_tables.specs.Taking.{commit_refusal}
use Rattle.zb_manager.specs.Managers.{SeenManager}
use Rattle.zb_turns.specs.declared.committing.Uncommitted.{Uncommitted}
use Rattle.zb_turns.specs.declared.committing.Uncommitted.TheVariants as why
use Rattle.zb_servers.specs.Standing.{SeenServers, has}
use Rattle.zb_basis.specs.declared.asks.Ask.{Ask}
use Rattle.zb_client.specs.declared.steps.Answer.{Answer}
use Rattle.zb_client.specs.declared.steps.Answer.TheVariants as answer
use Rattle.zb_client.specs.declared.steps.Lookup.TheVariants.{Files}
use Rattle.zb_client.specs.declared.steps.Turn.TheVariants as turn
use Rattle.zb_client.specs.declared.steps.Wish.TheVariants.{Server, Turn}
use Rattle.zb_client.specs.Answering.{MayWantMemory}
use Rattle.zb_client.specs.Hearing.{Wears}
use Rattle.zb_client.specs.Seen.{SeenClient}
use Rattle.zb_client.specs.Wishing.{wish_of}
use Rattle.zb_client_laws.specs.Effects.{founds}
use Rattle.zb_system.specs.Nodes.{IsClient, SeenNodes, readied}
use Rattle.zb_nodes.specs.declared.answers.Halt.{Halt}
use Rattle.zb_nodes.specs.declared.answers.Halt.TheVariants as halt

-- the field of a log's stripe
abbrev pub stripe_field : ℕ
stripe_field = 5

-- what halts where a log places no batch
abbrev pub halt_of : LogFault → Halt
halt_of log_fault.NoMemory = halt.NoMemory
halt_of log_fault.Worn = halt.Worn stripe_field

-- so it is with the field that is worn, if one is
abbrev pub OnWorn : (ℕ → Type 0) → Halt → Type 0
OnWorn P halt.NoMemory = Unit {0}
OnWorn P (halt.Worn field) = P field

-- why an answer isn't taken
abbrev pub HasHalted : SeenClient → Answer → Halt → Type 0
HasHalted c a halt.NoMemory = MayWantMemory a
HasHalted c a (halt.Worn field) = (field ≡ stripe_field) × Wears c a

-- Commits.

-- was it blocked?
abbrev pub is_blocked : Uncommitted → Bool
is_blocked (why.Blocked holder) = true
is_blocked (why.Regen seen now) = false
is_blocked (why.Stale fid seen now) = false
is_blocked (why.Worn field) = false
is_blocked why.NoMemory = false

-- what a batch is behind, or else what halts its client
abbrev pub behind_of : Uncommitted → Result CommitFault Halt
behind_of (why.Regen seen now) = Ok (fault.Regen seen now)
behind_of (why.Stale fid seen now) = Ok (fault.Stale fid seen now)
behind_of (why.Worn field) = Err (halt.Worn field)
behind_of why.NoMemory = Err halt.NoMemory
behind_of (why.Blocked holder) = Err halt.NoMemory

-- the client wishes to commit a batch, which would raise this number past its last value
pub record CommitWears (m : SeenManager) (c : SeenClient) (field : ℕ) : Type 0 where
  pub batch : Batch
  pub pieces : List Piece
  pub generation : ℕ
  pub wish : wish_of c ≡ Turn (turn.Commit batch pieces generation)
  pub refusal : commit_refusal m.sizes.block m.tables batch pieces generation ≡ Some (fault.Worn field)

-- Logs.

-- with what the client wishes to look up all is there for its next batch, for which its log has no stripe left
pub record LookupWears (m : SeenManager) (c : SeenClient) (field : ℕ) : Type 0 where
  pub field_is : field ≡ stripe_field
  pub hold : Bool
  pub asks : List Ask
  pub wish : wish_of c ≡ Turn (turn.Lookup (Files hold asks))
  pub wears : Wears c (answer.Found (founds m.tables asks))

-- so it is with what the client wishes to read
pub record FetchWears (s : SeenServers) (c : SeenClient) (field : ℕ) : Type 0 where
  pub field_is : field ≡ stripe_field
  pub server : ServerId
  pub generation : ℕ
  pub request : Request
  pub wish : wish_of c ≡ Server server generation request
  pub response : Response
  pub serving : ℕ
  pub answers : IsAnswer (has s server) generation request response
  pub wears : Wears c (answer.Server response serving)

-- a turn of the file manager would wear this number
abbrev pub TurnWears : SeenManager → SeenClient → ℕ → Type 0
TurnWears m c field = CommitWears m c field ⊎ LookupWears m c field

-- a step would
abbrev pub StepWears : SeenManager → SeenServers → SeenClient → ℕ → Type 0
StepWears m s c field = TurnWears m c field ⊎ FetchWears s c field

-- memory ran out, or the step would wear this number
abbrev pub HasCause : SeenManager → SeenServers → SeenClient → Halt → Type 0
HasCause m s c halted = OnWorn (StepWears m s c) halted

-- the next step of client i + 1 would wear this number
pub record WearsAt (n : SeenNodes) (i : ℕ) (field : ℕ) : Type 0 where
  pub client : SeenClient
  pub is : IsClient n i client
  pub wears : StepWears n.manager n.servers (readied client) field

-- so it is, unless memory ran out
abbrev pub HasCauseAt : SeenNodes → ℕ → Halt → Type 0
HasCauseAt n i halted = OnWorn (WearsAt n i) halted
