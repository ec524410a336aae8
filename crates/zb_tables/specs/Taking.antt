-- Which commits are refused, and which entries the tables can take.
use Rattle.std.specs.Prelude.{◌≡◌, ◌⊎◌, ◌≢◌, ℕ, ◌+◌, ◌-◌, ◌*◌, ◌<◌, ◌≤◌, Bool, true, false, ◌==◌, ◌&&◌, ◌||◌, nat_lt, nat_le, if◌then◌else◌, List, [], ◌∷◌, ◌++◌, length, Option, Some, None, Result, Ok, Err, IsSomeAnd}
use Rattle.std.specs.List.{AllByRecursion}
use Rattle.zb_types.specs.declared.ids.LogId.{LogId}
use Rattle.zb_types.specs.declared.ids.ServerId.{ServerId}
use Rattle.zb_types.specs.declared.ids.Ptr.{Ptr}
use Rattle.zb_types.specs.declared.ids.Piece.{Piece}
use Rattle.zb_types.specs.declared.nodes.State.{State}
use Rattle.zb_types.specs.declared.nodes.State.TheVariants.{Whole, Out, Mending}
use Rattle.zb_types.specs.declared.tables.CommitFault.{CommitFault}
use Rattle.zb_types.specs.declared.tables.CommitFault.TheVariants.{Regen, Stale as StaleFault, Worn, NoMemory, Stopped}
use Rattle.zb_types.specs.Keyed.{look}
use Rattle.zb_types.specs.Names.{last_number}
use Rattle.zb_types.specs.Apply.{max_file}
use Rattle.zb_batch.specs.declared.batch.Batch.{Batch}
use Rattle.zb_batch.specs.declared.batch.Op.{Op}
use Rattle.zb_batch.specs.declared.batch.Op.TheVariants.{Name, Write, Cut, Sync, Clean}
use Rattle.zb_batch.specs.Batches.{IsBatch}
use Rattle.zb_batch.specs.Spelling.{deltas_of}
use Rattle.zb_entries.specs.declared.entry.Entry.{Entry}
use Rattle.zb_entries.specs.declared.entry.Entry.TheVariants.{Attach, Commit, Mark, Retire}
use Rattle.zb_tables.specs.Tables.{FileState, LogState, Tables, Contents, EachFile, last_value}
use Rattle.zb_tables.specs.Fold.{Shelf, Stale, done_op, done_ops, folded, shelf_of}
use Rattle.zb_tables.specs.Pointing.{AllNow}
use Rattle.zb_tables.specs.Replay.{IsBatchOf, Platter}

-- the counts of servers and clients, the room of a fragment, and the size of a block
pub record Sizes : Type 0 where
  pub servers : ℕ
  pub clients : ℕ
  pub fragment : ℕ
  pub block : ℕ

-- how many bytes have room in a stripe
abbrev pub stripe_room : Sizes → ℕ
stripe_room z = (z.servers - 1) * z.fragment

-- a pointer of one byte to a whole block, within a stripe
pub record IsPointer (z : Sizes) (p : Ptr) : Type 0 where
  pub some : 1 ≤ p.len
  pub block : p.len ≤ z.block
  pub within : p.offset + p.len ≤ stripe_room z

-- a piece ends within its stripe, behind its first byte
pub record IsPiece (z : Sizes) (p : Piece) : Type 0 where
  pub stripe : p.stripe ≤ last_value
  pub some : 1 ≤ p.offset + p.len
  pub within : p.offset + p.len ≤ stripe_room z

-- What a commit has to find: a batch that can be spelled, with pointers and pieces within stripes, from a log that lives, with the number after its last.
pub record MayCommit (z : Sizes) (t : Tables) (batch : Batch) (pieces : List Piece) : Type 0 where
  pub spelled : IsBatch batch
  pub pointers : AllByRecursion (λ o. AllNow (IsPointer z) (deltas_of o)) batch.ops
  pub some : 1 ≤ length pieces
  pub few : length pieces ≤ 4093
  pub within : AllByRecursion (IsPiece z) pieces
  pub next : IsSomeAnd (look batch.log.0 t.logs) (λ l. (l.live ≡ true) × (batch.number ≡ l.batch + 1))

-- Refusals of a commit.

-- the mark of a log that was found, 0 where there is none
abbrev pub mark_of : Option LogState → ℕ
mark_of None = 0
mark_of (Some l) = l.mark

-- the first piece in a stripe below the log's mark
abbrev pub below_mark : ℕ → List Piece → Option CommitFault
below_mark mark [] = None
below_mark mark (p ∷ ps) = if nat_lt p.stripe mark then Some (Regen p.stripe mark) else below_mark mark ps

-- members have changed since the batch was flushed
abbrev pub regen_of : Tables → LogId → List Piece → ℕ → Option CommitFault
regen_of t log pieces generation =
    if generation == t.members.generation then below_mark (mark_of (look log.0 t.logs)) pieces else Some (Regen generation t.members.generation)

-- the refusal of a batch that is stale
abbrev pub stale_of : Result Shelf Stale → Option CommitFault
stale_of (Ok s) = None
stale_of (Err s) = Some (StaleFault s.fid s.seen s.now)

-- a change to an end, that isn't refused, would raise a version past its last value
abbrev pub is_worn : ℕ → Option FileState → Bool
is_worn end None = false
is_worn end (Some file) = file.version == last_value && nat_le end max_file

-- would the operation raise a version past its last value?
abbrev pub wears : Shelf → Op → Bool
wears s (Name call what) = false
wears s (Write call fid version offset len deltas) = is_worn (offset + len) (look fid.0 s.files)
wears s (Cut call fid version size deltas) = is_worn size (look fid.0 s.files)
wears s (Sync call) = false
wears s (Clean deltas) = false

-- a test of what was left, where nothing was stale
abbrev pub on_done : (Shelf → Bool) → Result Shelf Stale → Bool
on_done test (Ok s) = test s
on_done test (Err stale) = false

-- would one of the operations, each where the earlier ones left it?
abbrev pub any_wears : ℕ → List Op → Shelf → Bool
any_wears b [] s = false
any_wears b (o ∷ os) s = wears s o || on_done (any_wears b os) (done_op b s o)

-- the first number that would be raised past its last value: 2 is an entry's, 3 a batch's, 4 a version
abbrev pub worn_of : ℕ → Tables → Batch → Option CommitFault
worn_of b t batch =
    if nat_le last_value t.next_entry then Some (Worn 2) else (
    if nat_lt last_value batch.number then Some (Worn 3) else (
    if any_wears b batch.ops (shelf_of t) then Some (Worn 4) else None))

-- the first of two refusals
abbrev pub or_else : Option CommitFault → Option CommitFault → Option CommitFault
or_else (Some fault) other = Some fault
or_else None other = other

-- why a batch isn't committed: the first of these
abbrev pub commit_refusal : ℕ → Tables → Batch → List Piece → ℕ → Option CommitFault
commit_refusal b t batch pieces generation =
    or_else (regen_of t batch.log pieces generation) (or_else (stale_of (done_ops b batch.ops (shelf_of t))) (worn_of b t batch))

-- what refuses is answered, unless memory lacks: the operations' work takes some before the last of them is looked at
abbrev pub IsAnswer : {A : Type 0} → Option CommitFault → Result A CommitFault → Type 0
IsAnswer refusal (Ok answer) = refusal ≡ None
IsAnswer refusal (Err (Regen seen now)) = refusal ≡ Some (Regen seen now)
IsAnswer refusal (Err (StaleFault fid seen now)) = refusal ≡ Some (StaleFault fid seen now)
IsAnswer refusal (Err (Worn field)) = refusal ≡ Some (Worn field)
IsAnswer refusal (Err NoMemory) = Unit {0}
IsAnswer refusal (Err Stopped) = ⊥

-- Entries that the tables can take.

-- one of n servers
abbrev pub IsServer : ℕ → ServerId → Type 0
IsServer n s = (1 ≤ s.0) × (s.0 ≤ n)

-- a state that names no server but one of n
abbrev pub IsState : ℕ → State → Type 0
IsState n Whole = Unit {0}
IsState n (Out a) = IsServer n a
IsState n (Mending a) = IsServer n a

-- another stripe, or one of another log
abbrev pub IsOther : LogId → ℕ → LogId → ℕ → Type 0
IsOther log stripe l s = (l.0 ≢ log.0) ⊎ (s ≢ stripe)

-- no pointer of the file names the stripe
abbrev pub PointsElsewhere : LogId → ℕ → FileState → Type 0
PointsElsewhere log stripe file = AllByRecursion (λ e. IsOther log stripe (e.1).log (e.1).stripe) file.blocks

-- an entry is no Commit that names the stripe
abbrev pub IsElsewhere : LogId → ℕ → Entry → Type 0
IsElsewhere log stripe (Commit l number generation pieces) = AllByRecursion (λ p. IsOther log stripe l p.stripe) pieces
IsElsewhere log stripe entry = Unit {0}

-- the tables, with the entries before since the checkpoint, can take this entry, which for a Commit stands with its batch
abbrev pub IsTaken : Sizes → List Entry → Tables → Entry → Batch → Type 0
IsTaken z before t (Attach owner log) batch = (log.0 ≡ t.next_log) × (t.next_log < last_number) × (owner ≤ z.clients)
IsTaken z before t (Commit log number generation pieces) batch = MayCommit z t batch pieces × (commit_refusal z.block t batch pieces generation ≡ None)
IsTaken z before t (Mark members) batch = IsState z.servers members.state × (t.members.generation ≤ members.generation) × (members.generation ≤ last_value)
IsTaken z before t (Retire log stripe) batch = EachFile (PointsElsewhere log stripe) t.files × AllByRecursion (IsElsewhere log stripe) before

-- the entries are taken one behind the other, which leads from these tables to those
abbrev pub AreTaken : Sizes → Contents → List Entry → Tables → List Entry → Tables → Type 0
AreTaken z contents before t [] after = t ≡ after
AreTaken z contents before t (e ∷ es) after =
    (batch : Batch) × IsBatchOf contents e batch × IsTaken z before t e batch
    × ((mid : Tables) × (folded z.block t e batch ≡ Some mid) × AreTaken z contents (before ++ e ∷ []) mid es after)

-- what stands for the batch of an entry that has none
abbrev pub no_batch : Batch
no_batch = record { log = record { 0 = 0 }; number = 0; ops = [] }

-- the tables, behind the platter's entries, can take an entry without a batch
abbrev pub CanTake : Sizes → Platter → Tables → Entry → Type 0
CanTake z p tables e = IsTaken z p.entries tables e no_batch
