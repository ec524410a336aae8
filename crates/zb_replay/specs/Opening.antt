-- What an opening makes of what platter 0 says.
use Rattle.std.specs.Prelude.{◌≡◌, ◌⊎◌, ℕ, ◌+◌, ◌<◌, Bool, true, false, List, [], ◌∷◌, ◌++◌, length, Some, Result, Ok, Err}
use Rattle.zb_types.specs.declared.geometry.Geometry.{Geometry}
use Rattle.zb_types.specs.declared.ids.LogId.{LogId}
use Rattle.zb_types.specs.declared.ids.Piece.{Piece}
use Rattle.zb_batch.specs.declared.batch.Batch.{Batch}
use Rattle.zb_entries.specs.declared.entry.Entry.{Entry}
use Rattle.zb_entries.specs.declared.entry.Entry.TheVariants.{Attach, Commit, Mark, Retire}
use Rattle.zb_outside.specs.Meaning.{Meaning, Standing}
use Rattle.zb_ckpt.specs.declared.root.Root.{Root}
use Rattle.zb_ckpt.specs.Says.{Says, IsForeign}
use Rattle.zb_tables.specs.Tables.{Tables, Contents}
use Rattle.zb_tables.specs.Fold.{folded}
use Rattle.zb_tables.specs.Replay.{IsBatchOf}
use Rattle.zb_tables.specs.Taking.{AreTaken, IsTaken, Sizes}
use Rattle.zb_spelling.specs.Spelling.{spelling_of_tables}
use Rattle.zb_spelling.specs.Unspelling.{IsCheckpoint, sizes_of}
use Rattle.zb_platter.specs.Reading.{HasBadEntry, IsReadBack}
use Rattle.zb_platter.specs.Standing.{SeenPlatter}
use Rattle.zb_replay.specs.Nodes.{NodeStands, SeenNode}
use Rattle.zb_replay.specs.declared.pieces.OpenFault.{OpenFault}
use Rattle.zb_replay.specs.declared.pieces.OpenFault.TheVariants.{Foreign, Unreachable, NoMemory, Stopped}

-- a read of platter 0 gives what it gave, and a crash now leaves what it could have left before
pub record LeavesTables (old new : Meaning) : Type 0 where
  pub seen : new.now.seen 0 ≡ old.now.seen 0
  pub left : (image : List ℕ) → new.now.may_leave 0 image → old.now.may_leave 0 image

-- one of these pieces names bytes that its stripe doesn't have
abbrev pub HaveNotAll : Contents → LogId → List Piece → Type 0
HaveNotAll contents log [] = ⊥
HaveNotAll contents log (p ∷ ps) = (length (contents log p.stripe) < p.offset + p.len) ⊎ HaveNotAll contents log ps

-- bytes of the entry's batch are missing
abbrev pub Lacks : Contents → Entry → Type 0
Lacks contents (Commit log number generation pieces) = HaveNotAll contents log pieces
Lacks contents (Attach owner log) = ⊥
Lacks contents (Mark members) = ⊥
Lacks contents (Retire log stripe) = ⊥

-- the tables can take this entry behind those before it, which makes these of them
pub record Takes (z : Sizes) (contents : Contents) (before : List Entry) (t : Tables) (entry : Entry) (after : Tables) : Type 0 where
  pub batch : Batch
  pub is : IsBatchOf contents entry batch
  pub taken : IsTaken z before t entry batch
  pub folds : folded z.block t entry batch ≡ Some after

-- the tables can't take it with any batch
abbrev pub NoneTakes : Sizes → Contents → List Entry → Tables → Entry → Type 0
NoneTakes z contents before t entry = (batch : Batch) → IsBatchOf contents entry batch → IsTaken z before t entry batch → ⊥

-- bytes of its batch are missing, or the tables can't take it
abbrev pub IsRefused : Sizes → Contents → List Entry → Tables → Entry → Type 0
IsRefused z contents before t entry = Lacks contents entry ⊎ NoneTakes z contents before t entry

-- one of these entries is refused where those before it have led from the tables
pub record HasRefused (z : Sizes) (contents : Contents) (start : Tables) (entries : List Entry) : Type 0 where
  pub before : List Entry
  pub entry : Entry
  pub rest : List Entry
  pub tables : Tables
  pub order : entries ≡ before ++ entry ∷ rest
  pub leads : AreTaken z contents [] start before tables
  pub refused : IsRefused z contents before tables entry

-- these tables are those of the checkpoint with these bytes, whose next entry is the first behind it
pub record IsFirst (root : Root) (bytes : List ℕ) (start : Tables) : Type 0 where
  pub is : IsCheckpoint (sizes_of root.geo) start
  pub text : spelling_of_tables start ≡ bytes
  pub first : start.next_entry ≡ root.first

-- the platter is read so, and its checkpoint has these tables
pub record IsStart (image : List ℕ) (platter : SeenPlatter) (start : Tables) : Type 0 where
  pub bytes : List ℕ
  pub back : IsReadBack image platter bytes
  pub first : IsFirst platter.root bytes start

-- there is a root, and no tables of its first entry have the bytes of its checkpoint
pub record HasNoTables (image : List ℕ) : Type 0 where
  pub root : Root
  pub bytes : List ℕ
  pub says : Says image root bytes
  pub none : (t : Tables) → IsFirst root bytes t → ⊥

-- there is a checkpoint, and behind it something begins as an entry and is none
pub record HasBadBehind (image : List ℕ) : Type 0 where
  pub root : Root
  pub bytes : List ℕ
  pub start : Tables
  pub says : Says image root bytes
  pub first : IsFirst root bytes start
  pub bad : HasBadEntry image root

-- there are a checkpoint and entries, and one of them is refused
pub record HasRefusedBehind (contents : Contents) (image : List ℕ) : Type 0 where
  pub platter : SeenPlatter
  pub start : Tables
  pub is : IsStart image platter start
  pub refused : HasRefused (sizes_of platter.root.geo) contents start platter.entries

-- the first wrong field: 1 to 6 of the root, 7 the checkpoint, 8 where something behind it is no entry
abbrev pub IsUnread : List ℕ → ℕ → Type 0
IsUnread image field = IsForeign image field ⊎ (((field ≡ 7) × HasNoTables image) ⊎ ((field ≡ 8) × HasBadBehind image))

-- or 8 where an entry is refused
abbrev pub IsWrong : Contents → List ℕ → ℕ → Type 0
IsWrong contents image field = IsUnread image field ⊎ ((field ≡ 8) × HasRefusedBehind contents image)

-- platter 0 is read so, and its entries, taken one behind the other, lead from the tables of its checkpoint to those of the node
pub record IsOpened (contents : Contents) (image : List ℕ) (node : SeenNode) : Type 0 where
  pub start : Tables
  pub is : IsStart image node.platter start
  pub taken : AreTaken (sizes_of node.platter.root.geo) contents [] start node.platter.entries node.manager.tables

-- the node is of this system, has these tables, and platter 0 stands under it
pub record StandsOpen (geo : Geometry) (contents : Contents) (tables : Tables) (node : SeenNode) (s : Standing) : Type 0 where
  pub system : node.platter.root.geo ≡ geo
  pub tables_are : node.manager.tables ≡ tables
  pub stands : NodeStands node contents s

-- a call of platter 0 failed
abbrev pub open_stopped : {T : Type 0} → Result T OpenFault → Bool
open_stopped (Ok x) = false
open_stopped (Err (Foreign field)) = false
open_stopped (Err (Unreachable a b)) = false
open_stopped (Err NoMemory) = false
open_stopped (Err Stopped) = true
