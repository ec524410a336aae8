-- What turns of the file manager answer a client, and what they leave.
use Rattle.std.specs.Prelude.{◌≡◌, ℕ, Bool, true, false, ◌==◌, if◌then◌else◌, List, map, Option, Some, None, Result, Ok, Err}
use Rattle.zb_types.specs.declared.ids.Piece.{Piece}
use Rattle.zb_types.specs.declared.calls.Call.{Call}
use Rattle.zb_types.specs.declared.calls.Call.TheVariants.{List as ListOf, Stat, Find}
use Rattle.zb_types.specs.declared.calls.Reply.{Reply}
use Rattle.zb_types.specs.declared.tables.Found.{Found}
use Rattle.zb_types.specs.declared.tables.CommitFault.{CommitFault}
use Rattle.zb_types.specs.declared.tables.CommitFault.TheVariants as fault
use Rattle.zb_batch.specs.declared.batch.Batch.{Batch}
use Rattle.zb_batch.specs.declared.batch.Op.{Op}
use Rattle.zb_batch.specs.declared.batch.Op.TheVariants.{Clean}
use Rattle.zb_basis.specs.declared.asks.Ask.{Ask}
use Rattle.zb_tables.specs.Tables.{Tables}
use Rattle.zb_tables.specs.Fold.{Shelf, done_ops, shelf_of, committed}
use Rattle.zb_tables.specs.Finding.{found}
use Rattle.zb_manager.specs.declared.manager.Blocked.{Blocked}
use Rattle.zb_manager.specs.Managers.{SeenManager}
use Rattle.zb_turns.specs.declared.committing.Uncommitted.{Uncommitted}
use Rattle.zb_turns.specs.declared.committing.Uncommitted.TheVariants as turn

-- Holding.

-- the other client that holds, if one does
abbrev pub other_holder : (client : ℕ) → Option ℕ → Option ℕ
other_holder client None = None
other_holder client (Some holder) = if holder == client then None else Some holder

-- the holder that a lookup tells of, if it was blocked
abbrev pub blocker_in : {T : Type 0} → Result T Blocked → Option ℕ
blocker_in (Ok found) = None
blocker_in (Err blocked) = Some blocked.holder

-- Looking up.

-- what is found for each that is asked
abbrev pub all_found : Tables → List Ask → List Found
all_found t asks = map (λ ask. found t ask.fid.0 ask.first ask.count) asks

-- is it a call that names alone answer: a list, a stat or an open?
abbrev pub reads_names : Call → Bool
reads_names (ListOf path) = true
reads_names (Stat path) = true
reads_names (Find path) = true
reads_names call = false

-- Committing.

-- what refuses a batch, as a turn tells it
abbrev pub refused : CommitFault → Uncommitted
refused (fault.Regen seen now) = turn.Regen seen now
refused (fault.Stale fid seen now) = turn.Stale fid seen now
refused (fault.Worn field) = turn.Worn field
refused fault.NoMemory = turn.NoMemory
refused fault.Stopped = turn.NoMemory

-- the holder that a commit tells of, if it was blocked
abbrev pub commit_blocker : {T : Type 0} → Result T Uncommitted → Option ℕ
commit_blocker (Ok replies) = None
commit_blocker (Err (turn.Blocked holder)) = Some holder
commit_blocker (Err other) = None

-- what refuses is answered, unless the turn was blocked or memory ran out
abbrev pub TellsRefusal : {T : Type 0} → Option CommitFault → Result T Uncommitted → Type 0
TellsRefusal refusal (Ok replies) = refusal ≡ None
TellsRefusal refusal (Err (turn.Blocked holder)) = Unit {0}
TellsRefusal refusal (Err (turn.Regen seen now)) = refusal ≡ Some (fault.Regen seen now)
TellsRefusal refusal (Err (turn.Stale fid seen now)) = refusal ≡ Some (fault.Stale fid seen now)
TellsRefusal refusal (Err (turn.Worn field)) = refusal ≡ Some (fault.Worn field)
TellsRefusal refusal (Err turn.NoMemory) = Unit {0}

-- The batch is committed: its operations leave this in the tables, and have these replies. Nobody holds any longer.
pub record IsCommitted (batch : Batch) (pieces : List Piece) (old new : SeenManager) (replies : List Reply) : Type 0 where
  pub after : Shelf
  pub done : done_ops old.sizes.block batch.ops (shelf_of old.tables) ≡ Ok after
  pub tables : new.tables ≡ committed old.tables batch.log batch.number pieces after
  pub replies_are : replies ≡ after.replies
  pub sizes : new.sizes ≡ old.sizes
  pub holder : new.holder ≡ None

-- any operation but the cleaner's
abbrev pub IsReplied : Op → Type 0
IsReplied (Clean deltas) = ⊥
IsReplied op = Unit {0}
