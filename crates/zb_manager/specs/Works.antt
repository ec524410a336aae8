-- What a batch does to names and files, once nothing refuses it.
use Rattle.std.specs.Prelude.{◌≡◌, ℕ, ◌+◌, ◌==◌, Bool, not, if◌then◌else◌, List, [], ◌∷◌, ◌++◌, length, is_some}
use Rattle.zb_types.specs.Keyed.{put, without}
use Rattle.zb_types.specs.Names.{Names}
use Rattle.zb_names.specs.Changing.{MayCarry, carried}
use Rattle.zb_delta.specs.declared.delta.Delta.{Delta}
use Rattle.zb_delta.specs.Spelling.{body_of}
use Rattle.zb_tables.specs.Tables.{FileState}
use Rattle.zb_tables.specs.Fold.{Files, new_file, set_all, with_blocks, after_write, after_cut, is_movable, moved, all_moved}
use Rattle.zb_types.specs.Keyed.{look}
use Rattle.zb_pointers.specs.Seen.{changed_at, SeenPointers, HasRoom}
use Rattle.zb_manager.specs.declared.work.Step.{Step}
use Rattle.zb_manager.specs.declared.work.Step.TheVariants.{Raise, Shorten}
use Rattle.zb_manager.specs.declared.work.Work.{Work}
use Rattle.zb_manager.specs.declared.work.Work.TheVariants.{Nothing, Add, Remove, Rename, Files as FileSteps, Move}

-- a file with the new pointers of some deltas
abbrev pub set_blocks : List Delta → FileState → FileState
set_blocks deltas file = with_blocks (set_all deltas file.blocks) file

-- the files after one step
abbrev pub stepped : ℕ → Step → Files → Files
stepped b (Raise fid end deltas) files = changed_at fid.0 (after_write end deltas) files
stepped b (Shorten fid size deltas) files = changed_at fid.0 (after_cut b size deltas) files

-- the files after some steps
abbrev pub all_stepped : ℕ → List Step → Files → Files
all_stepped b [] files = files
all_stepped b (s ∷ ss) files = all_stepped b ss (stepped b s files)

-- the names once the work is done
abbrev pub names_worked : Work → Names → Names
names_worked Nothing names = names
names_worked (Add change fid) names = carried change names
names_worked (Remove change fid) names = carried change names
names_worked (Rename change) names = carried change names
names_worked (FileSteps steps) names = names
names_worked (Move deltas) names = names

-- the files once the work is done
abbrev pub files_worked : ℕ → Work → Files → Files
files_worked b Nothing files = files
files_worked b (Add change fid) files = put fid.0 new_file files
files_worked b (Remove change fid) files = without fid.0 files
files_worked b (Rename change) files = files
files_worked b (FileSteps steps) files = all_stepped b steps files
files_worked b (Move deltas) files = all_moved deltas files

-- what the work does to names may be done to these
abbrev pub MayWork : Work → Names → Type 0
MayWork Nothing names = Unit {0}
MayWork (Add change fid) names = MayCarry change names
MayWork (Remove change fid) names = MayCarry change names
MayWork (Rename change) names = MayCarry change names
MayWork (FileSteps steps) names = Unit {0}
MayWork (Move deltas) names = Unit {0}

-- Moves by the cleaner.

-- a move by itself, if the file is there and the block stands where it stood
abbrev pub one_movable : Delta → Files → List Delta
one_movable d files = if is_movable (body_of d) (look (body_of d).fid.0 files) then d ∷ [] else []

-- the moves that are carried out, each on the files as those before leave them
abbrev pub movable_of : List Delta → Files → List Delta
movable_of [] files = []
movable_of (d ∷ ds) files = one_movable d files ++ movable_of ds (moved (body_of d) files)

-- how many moves are carried out
abbrev pub copied : List Delta → Files → ℕ
copied deltas files = length (movable_of deltas files)

-- Room.

-- how many new blocks of a file one step puts at most
abbrev pub needed_by : ℕ → Step → ℕ
needed_by fid (Raise g end deltas) = if g.0 == fid then length deltas else 0
needed_by fid (Shorten g size deltas) = if g.0 == fid then length deltas else 0

-- how many new blocks of a file some steps put at most
abbrev pub needed : ℕ → List Step → ℕ
needed fid [] = 0
needed fid (s ∷ ss) = needed_by fid s + needed fid ss

-- the file that a step changes
abbrev pub fid_of : Step → ℕ
fid_of (Raise g end deltas) = g.0
fid_of (Shorten g size deltas) = g.0

-- a move puts a block where none stood
abbrev pub is_fresh : Delta → Bool
is_fresh d = not (is_some (body_of d).was)

-- one where a test holds, else none
abbrev pub one_if : Bool → ℕ
one_if test = if test then 1 else 0

-- how many moves put a block where none stood
abbrev pub fresh_in : List Delta → ℕ
fresh_in [] = 0
fresh_in (d ∷ ds) = one_if (is_fresh d) + fresh_in ds

-- how many blocks of a file one move puts where none stood
abbrev pub moves_by : ℕ → Delta → ℕ
moves_by fid d = if (body_of d).fid.0 == fid then one_if (is_fresh d) else 0

-- how many blocks of a file moves put where none was, at most
abbrev pub moves_new : ℕ → List Delta → ℕ
moves_new fid [] = 0
moves_new fid (d ∷ ds) = moves_by fid d + moves_new fid ds

-- a file has room for so many new blocks, if it needs any
abbrev pub HasRoomFor : SeenPointers → ℕ → ℕ → Type 0
HasRoomFor s fid count = (count ≡ 0 → ⊥) → HasRoom s fid count

-- what one call leaves of the room of each file
abbrev pub LeavesRoom : SeenPointers → SeenPointers → (ℕ → ℕ) → Type 0
LeavesRoom old new used = (fid n : ℕ) → HasRoomFor old fid (used fid + n) → HasRoomFor new fid n

-- there is the room that the work needs
abbrev pub RoomForWork : SeenPointers → Work → Type 0
RoomForWork s Nothing = Unit {0}
RoomForWork s (Add change fid) = HasRoom s fid.0 0
RoomForWork s (Remove change fid) = Unit {0}
RoomForWork s (Rename change) = Unit {0}
RoomForWork s (FileSteps steps) = (fid : ℕ) → HasRoomFor s fid (needed fid steps)
RoomForWork s (Move deltas) = (fid : ℕ) → HasRoomFor s fid (moves_new fid deltas)
