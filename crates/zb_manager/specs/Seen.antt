-- What contracts see of the file manager.
use Rattle.std.specs.Prelude.{◌≡◌, ℕ, ◌+◌, ◌≤◌, List, [], ◌∷◌, length, Option, Some, None, Ok}
use Rattle.std.specs.List.{AllByRecursion}
use Rattle.zb_types.specs.declared.ids.Piece.{Piece}
use Rattle.zb_types.specs.declared.calls.Reply.{Reply}
use Rattle.zb_delta.specs.declared.delta.Delta.{Delta}
use Rattle.zb_batch.specs.declared.batch.Batch.{Batch}
use Rattle.zb_batch.specs.declared.batch.Op.{Op}
use Rattle.zb_batch.specs.declared.batch.Op.TheVariants.{Clean}
use Rattle.zb_tables.specs.Tables.{LogState, Tables}
use Rattle.zb_tables.specs.Fold.{Shelf, shelf_of, done_ops, committed}
use Rattle.zb_pointers.specs.Seen.{SeenPointers}
use Rattle.zb_manager.specs.Managers.{SeenManager}
use Rattle.zb_log_tables.specs.HeldStripes.{EndFits}
use Rattle.zb_log_tables.specs.Logs.{StripeFits}
use Rattle.zb_manager.specs.declared.work.Work.{Work}
use Rattle.zb_manager.specs.declared.prepared.Prepared.{Prepared}
use Rattle.zb_manager.specs.Works.{names_worked, files_worked, MayWork, RoomForWork, copied}

-- names, files and replies once what was prepared is applied
abbrev pub prepared_shelf : ℕ → Tables → Prepared → Shelf
prepared_shelf b t p = record { names = names_worked p.work t.names; files = files_worked b p.work t.files; replies = p.replies }

-- the tables once it is applied
abbrev pub prepared_tables : ℕ → Tables → Prepared → Tables
prepared_tables b t p = committed t p.log p.number p.pieces (prepared_shelf b t p)

-- the files with their room
abbrev pub pointers_of : SeenManager → SeenPointers
pointers_of s = record { block = s.sizes.block; files = s.tables.files; rooms = s.rooms }

-- the tables once work on names and files is done
abbrev pub with_work : ℕ → Tables → Work → Tables
with_work b t work = record t { names = names_worked work t.names; files = files_worked b work t.files }

-- there is the room that it needs
pub record IsReady (s : SeenManager) (p : Prepared) : Type 0 where
  pub names : MayWork p.work s.tables.names
  pub work : RoomForWork (pointers_of s) p.work
  pub held : length p.pieces ≤ s.held_room
  pub ends : AllByRecursion EndFits p.pieces
  pub stripes : AllByRecursion StripeFits p.pieces

-- the clean deltas of a batch
abbrev pub moves_of : List Op → List Delta
moves_of (Clean deltas ∷ []) = deltas
moves_of ops = []

-- what was prepared is this batch, at these tables: it isn't stale, and its effect, its replies and the counts of its moves are those of the fold
pub record IsPrepared (b : ℕ) (t : Tables) (batch : Batch) (pieces : List Piece) (p : Prepared) : Type 0 where
  pub log : p.log ≡ batch.log
  pub number : p.number ≡ batch.number
  pub pieces_are : p.pieces ≡ pieces
  pub done : done_ops b batch.ops (shelf_of t) ≡ Ok (prepared_shelf b t p)
  pub copied_is : p.copied ≡ copied (moves_of batch.ops) t.files
  pub rejected_is : p.copied + p.rejected ≡ length (moves_of batch.ops)

-- the number and the replies of the last batch of a log that was found
abbrev pub last_in : Option LogState → Option (ℕ × List Reply)
last_in None = None
last_in (Some l) = Some (l.batch, l.replies)

-- with another holder, or none
abbrev pub held_by : Option ℕ → SeenManager → SeenManager
held_by holder s = record s { holder = holder }
