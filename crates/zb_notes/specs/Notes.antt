-- The notes of a batch: which pointers it sets, and which bytes nothing names any longer or ever.
use Rattle.std.specs.Prelude.{ℕ, ◌+◌, nat_le, nat_lt, if◌then◌else◌, List, [], ◌∷◌, ◌++◌, map, filter, Option, Some, None, Result, Ok, Err}
use Rattle.zb_types.specs.declared.ids.Ptr.{Ptr}
use Rattle.zb_types.specs.declared.calls.Call.{Call}
use Rattle.zb_types.specs.declared.calls.Refusal.{Refusal}
use Rattle.zb_types.specs.Keyed.{look, put}
use Rattle.zb_types.specs.Names.{Change, same, makes, drops, name_change, name_refusal}
use Rattle.zb_types.specs.Apply.{max_file}
use Rattle.zb_delta.specs.declared.delta.Delta.{Delta}
use Rattle.zb_delta.specs.declared.delta.Delta.TheVariants.{Reject}
use Rattle.zb_delta.specs.Spelling.{body_of}
use Rattle.zb_batch.specs.declared.batch.Batch.{Batch}
use Rattle.zb_batch.specs.declared.batch.Op.{Op}
use Rattle.zb_batch.specs.declared.batch.Op.TheVariants.{Name, Write, Cut, Sync, Clean}
use Rattle.zb_tables.specs.Tables.{FileState, Tables}
use Rattle.zb_tables.specs.Fold.{Files, Shelf, Stale, blocks_in, cut, done_op, is_movable, moved, same_place, shelf_of}
use Rattle.zb_pointers.specs.Seen.{blocks_of}

-- One delta.

-- a reject of the pointer that the tables had, if they had one
abbrev pub reject_over : Delta → Option Ptr → List Delta
reject_over d None = []
reject_over d (Some dead) = Reject (record (body_of d) { now = dead }) (Some dead) ∷ []

-- a delta that is set where the tables have this pointer; with a reject of that where the delta didn't know of it
abbrev pub set_note : Delta → Option Ptr → List Delta
set_note d table = d ∷ (if same_place table (body_of d).was then [] else reject_over d table)

-- a delta that sets nothing, where the tables have this pointer
abbrev pub vain_note : Option Ptr → Delta → Delta
vain_note table d = Reject (body_of d) table

-- a block that a file of this version drops
abbrev pub drop_note : ℕ → ℕ → ℕ × Ptr → Delta
drop_note fid version k = Reject (record { fid = record { 0 = fid }; version = version; block = k.0; was = None; now = k.1 }) (Some k.1)

-- Operations.

-- deltas that are set one behind the other
abbrev pub set_notes : List Delta → List (ℕ × Ptr) → List Delta
set_notes [] blocks = []
set_notes (d ∷ ds) blocks = set_note d (look (body_of d).block blocks) ++ set_notes ds (put (body_of d).block (body_of d).now blocks)

-- deltas whose file is gone
abbrev pub gone_notes : List Delta → List Delta
gone_notes deltas = map (vain_note None) deltas

-- the blocks with these numbers on
abbrev pub from : ℕ → List (ℕ × Ptr) → List (ℕ × Ptr)
from n blocks = filter (λ k. nat_le n k.0) blocks

-- the blocks of a file with these numbers on, which it drops
abbrev pub drop_notes : ℕ → ℕ → FileState → List Delta
drop_notes fid n file = map (drop_note fid file.version) (from n file.blocks)

-- a write up to an end: one that is too big sets nothing
abbrev pub write_notes : ℕ → List Delta → Option FileState → List Delta
write_notes end deltas None = gone_notes deltas
write_notes end deltas (Some file) = if nat_lt max_file end then [] else set_notes deltas file.blocks

-- a truncation to n bytes: what is set anew, then what is dropped
abbrev pub cut_notes : ℕ → ℕ → ℕ → List Delta → Option FileState → List Delta
cut_notes b fid n deltas None = gone_notes deltas
cut_notes b fid n deltas (Some file) = if nat_lt max_file n then [] else set_notes deltas (cut b n file).blocks ++ drop_notes fid (blocks_in b n) file

-- a file that goes, if it is there
abbrev pub removal_notes : ℕ → Option FileState → List Delta
removal_notes fid None = []
removal_notes fid (Some file) = drop_notes fid 0 file

-- a change of names that nothing refuses
abbrev pub change_notes : Change → Files → List Delta
change_notes same files = []
change_notes (makes number) files = []
change_notes (drops number) files = removal_notes number (look number files)

-- an operation on names, with what refuses it
abbrev pub name_notes : Shelf → Call → Option Refusal → List Delta
name_notes s call (Some why) = []
name_notes s call None = change_notes (name_change s.names call) s.files

-- a move by the cleaner, on these files
abbrev pub clean_note : Delta → Files → Delta
clean_note d files = if is_movable (body_of d) (look (body_of d).fid.0 files) then d else vain_note (look (body_of d).block (blocks_of (look (body_of d).fid.0 files))) d

-- moves by the cleaner, one behind the other
abbrev pub clean_notes : List Delta → Files → List Delta
clean_notes [] files = []
clean_notes (d ∷ ds) files = clean_note d files ∷ clean_notes ds (moved (body_of d) files)

-- an operation, on what the earlier ones left
abbrev pub op_notes : ℕ → Shelf → Op → List Delta
op_notes b s (Name call what) = name_notes s what (name_refusal s.names what)
op_notes b s (Write call fid version offset len deltas) = write_notes (offset + len) deltas (look fid.0 s.files)
op_notes b s (Cut call fid version size deltas) = cut_notes b fid.0 size deltas (look fid.0 s.files)
op_notes b s (Sync call) = []
op_notes b s (Clean deltas) = clean_notes deltas s.files

-- what follows, where an operation wasn't stale
abbrev pub then_notes : Result Shelf Stale → (Shelf → List Delta) → List Delta
then_notes (Ok s) next = next s
then_notes (Err stale) next = []

-- operations, one behind the other
abbrev pub ops_notes : ℕ → List Op → Shelf → List Delta
ops_notes b [] s = []
ops_notes b (o ∷ os) s = op_notes b s o ++ then_notes (done_op b s o) (ops_notes b os)

-- the notes of a batch at these tables
abbrev pub notes_of : ℕ → Tables → Batch → List Delta
notes_of b t batch = ops_notes b batch.ops (shelf_of t)
