-- What contracts see of the files' blocks.
use Rattle.std.specs.Prelude.{◌≡◌, ℕ, ◌+◌, ◌≤◌, List, [], ◌∷◌, Option, Some, None, IsSomeAnd}
use Rattle.std.specs.Ordering.{nat_cmp}
use Rattle.std.specs.BTreeMap.{BTreeMap, IsOrdered}
use Rattle.zb_types.specs.declared.ids.Fid.{Fid}
use Rattle.zb_types.specs.declared.ids.Ptr.{Ptr}
use Rattle.zb_types.specs.Keyed.{look, put, replaced, changed}
use Rattle.zb_tables.specs.Tables.{FileState}
use Rattle.zb_tables.specs.Fold.{Files, with_blocks}
use Rattle.zb_pointers.specs.declared.head.FileHead.{FileHead}
use Rattle.zb_pointers.specs.declared.kept.Kept.{Kept}

-- the size of a block, the files, and for how many new blocks a file, or one that is to be added, has room
pub record SeenPointers : Type 0 where
  pub block : ℕ
  pub files : Files
  pub rooms : List (ℕ × ℕ)

-- Room.

-- a file with this number has room for so many new blocks, and can be added
abbrev pub HasRoom : SeenPointers → ℕ → ℕ → Type 0
HasRoom s fid blocks = IsSomeAnd (look fid s.rooms) (λ room. blocks ≤ room)

-- the file has the room that it had, or more
abbrev pub KeepsRoom : ℕ → SeenPointers → SeenPointers → Type 0
KeepsRoom fid old new = (n : ℕ) → HasRoom old fid n → HasRoom new fid n

-- the file has room for one block less than before, or more
abbrev pub TakesRoom : ℕ → SeenPointers → SeenPointers → Type 0
TakesRoom fid old new = (n : ℕ) → HasRoom old fid (n + 1) → HasRoom new fid n

-- the other files have just the room that they had
abbrev pub SameRooms : ℕ → SeenPointers → SeenPointers → Type 0
SameRooms fid old new = (q : ℕ) → (q ≡ fid → ⊥) → look q new.rooms ≡ look q old.rooms

-- Files.

-- the version and the length of a file that was found
abbrev pub seen_head : Option FileState → Option FileHead
seen_head None = None
seen_head (Some file) = Some (record { version = file.version; length = file.length })

-- the blocks of a file that was found
abbrev pub blocks_of : Option FileState → List (ℕ × Ptr)
blocks_of None = []
blocks_of (Some file) = file.blocks

-- the files with the one that was found under this number changed
abbrev pub change_in : ℕ → (FileState → FileState) → Files → Option FileState → Files
change_in fid change files None = files
change_in fid change files (Some file) = replaced fid (change file) files

-- the files with one of them changed, if it is there
abbrev pub changed_at : ℕ → (FileState → FileState) → Files → Files
changed_at fid change files = change_in fid change files (look fid files)

-- a file with this block put
abbrev pub set_block : ℕ → Ptr → FileState → FileState
set_block number ptr file = with_blocks (put number ptr file.blocks) file

-- a file of this version and length with these blocks
abbrev pub file_of : FileHead → List (ℕ × Ptr) → FileState
file_of head blocks = record { version = head.version; length = head.length; blocks = blocks }

-- the same under its number
abbrev pub numbered_file : Fid → FileHead → List (ℕ × Ptr) → ℕ × FileState
numbered_file fid head blocks = (fid.0, file_of head blocks)

-- What is kept under numbers.

-- these blocks with a version and a length are a file, without them none
abbrev pub file_with : List (ℕ × Ptr) → Option FileHead → Option FileState
file_with blocks None = None
file_with blocks (Some head) = Some (file_of head blocks)

-- the file that is kept, if there is one
abbrev pub file_in : Kept → Option FileState
file_in kept = file_with kept.blocks.pairs kept.head

-- a file, if there is one, and others behind it
abbrev pub and_file : ℕ → Option FileState → Files → Files
and_file fid None files = files
and_file fid (Some file) files = (fid, file) ∷ files

-- the files among what is kept
abbrev pub files_in : List (ℕ × Kept) → Files
files_in [] = []
files_in (e ∷ es) = and_file e.0 (file_in e.1) (files_in es)

-- the room that is kept under each number
abbrev pub rooms_in : List (ℕ × Kept) → List (ℕ × ℕ)
rooms_in es = changed (λ kept. kept.blocks.room) es

-- the numbers rise
abbrev pub AreOrdered : BTreeMap ℕ Kept → Type 0
AreOrdered kept = IsOrdered nat_cmp kept
