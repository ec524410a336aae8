-- What the node answers.
use Rattle.std.specs.Prelude.{◌≡◌, ℕ, ◌==◌, Bool, true, false, if◌then◌else◌, length, Result, Ok, Err, Option, None, Some}
use Rattle.zb_types.specs.declared.ids.LogId.{LogId}
use Rattle.zb_types.specs.declared.tables.CommitFault.{CommitFault}
use Rattle.zb_types.specs.declared.tables.CommitFault.TheVariants.{Regen, Stale, Worn, NoMemory, Stopped}
use Rattle.zb_types.specs.declared.tables.RetireFault.{RetireFault}
use Rattle.zb_types.specs.declared.tables.RetireFault.TheVariants.{Mending as IsMending, Live, Needed, Worn as NoNumber, NoMemory as NoRoom, Stopped as Stops}
use Rattle.zb_types.specs.declared.nodes.State.{State}
use Rattle.zb_types.specs.declared.nodes.State.TheVariants.{Whole, Out, Mending}
use Rattle.zb_tables.specs.Finding.{live}
use Rattle.zb_platter.specs.Naming.{first_naming}
use Rattle.zb_replay.specs.Nodes.{SeenNode}
use Rattle.zb_platter.specs.declared.faults.NodeFault.{NodeFault}
use Rattle.zb_platter.specs.declared.faults.NodeFault.TheVariants as node

-- a call of the platter failed
abbrev pub commit_stopped : {T : Type 0} → Result T CommitFault → Bool
commit_stopped (Ok x) = false
commit_stopped (Err (Regen seen now)) = false
commit_stopped (Err (Stale fid seen now)) = false
commit_stopped (Err (Worn field)) = false
commit_stopped (Err NoMemory) = false
commit_stopped (Err Stopped) = true

-- a call of the platter failed
abbrev pub retire_stopped : {T : Type 0} → Result T RetireFault → Bool
retire_stopped (Ok x) = false
retire_stopped (Err (IsMending server)) = false
retire_stopped (Err (Live count)) = false
retire_stopped (Err (Needed entry)) = false
retire_stopped (Err (NoNumber field)) = false
retire_stopped (Err NoRoom) = false
retire_stopped (Err Stops) = true

-- what refuses a commit is answered, unless memory lacks or a call of the platter failed, where nothing refuses
abbrev pub TellsRefusal : {A : Type 0} → Option CommitFault → Result A CommitFault → Type 0
TellsRefusal refusal (Ok answer) = refusal ≡ None
TellsRefusal refusal (Err (Regen seen now)) = refusal ≡ Some (Regen seen now)
TellsRefusal refusal (Err (Stale fid seen now)) = refusal ≡ Some (Stale fid seen now)
TellsRefusal refusal (Err (Worn field)) = refusal ≡ Some (Worn field)
TellsRefusal refusal (Err NoMemory) = Unit {0}
TellsRefusal refusal (Err Stopped) = refusal ≡ None

-- what a fault of the node is to a commit
abbrev pub commit_fault : NodeFault → CommitFault
commit_fault (node.Worn field) = Worn field
commit_fault node.NoMemory = NoMemory
commit_fault node.Stopped = Stopped

-- what a fault of the node is to a retire
abbrev pub retire_fault : NodeFault → RetireFault
retire_fault (node.Worn field) = NoNumber field
retire_fault node.NoMemory = NoRoom
retire_fault node.Stopped = Stops

-- Refusals of a retire.

-- a server is mended
abbrev pub mending_of : State → Option RetireFault
mending_of Whole = None
mending_of (Out server) = None
mending_of (Mending server) = Some (IsMending server)

-- so many pointers name the stripe, not 0
abbrev pub live_of : ℕ → Option RetireFault
live_of count = if count == 0 then None else Some (Live count)

-- this entry since the checkpoint is the first to name the stripe
abbrev pub needed_of : Option ℕ → Option RetireFault
needed_of None = None
needed_of (Some entry) = Some (Needed entry)

-- the first of two refusals
abbrev pub or_kept : Option RetireFault → Option RetireFault → Option RetireFault
or_kept (Some fault) other = Some fault
or_kept None other = other

-- why a stripe is kept: the first of these
abbrev pub retire_refusal : SeenNode → LogId → ℕ → Option RetireFault
retire_refusal n log stripe =
    or_kept (mending_of n.manager.tables.members.state) (or_kept (live_of (length (live n.manager.tables log stripe))) (needed_of (first_naming n.platter.root.first log stripe n.platter.entries)))

-- what refuses a retire is answered, unless memory lacks; a number at its last value, or a fault, only where nothing refuses
abbrev pub TellsKept : {A : Type 0} → Option RetireFault → Result A RetireFault → Type 0
TellsKept refusal (Ok answer) = refusal ≡ None
TellsKept refusal (Err (IsMending server)) = refusal ≡ Some (IsMending server)
TellsKept refusal (Err (Live count)) = refusal ≡ Some (Live count)
TellsKept refusal (Err (Needed entry)) = refusal ≡ Some (Needed entry)
TellsKept refusal (Err (NoNumber field)) = refusal ≡ None
TellsKept refusal (Err NoRoom) = Unit {0}
TellsKept refusal (Err Stops) = refusal ≡ None
