-- What a platter says is in form.
use Rattle.std.proofs.Common.{◌≡◌, ℕ, ◌<◌, List, [], Some, arith}
use Rattle.zb_types.specs.declared.ids.LogId.{LogId}
use Rattle.zb_types.specs.declared.tables.HeldUse.{HeldUse}
use Rattle.zb_types.specs.Tree.{Tree}
use Rattle.zb_tables.specs.Tables.{Contents, FileState, Tables, held_at}
use Rattle.zb_tables.specs.Replay.{Platter}
use Rattle.zb_tables.specs.Taking.{Sizes}
use Rattle.zb_tables.specs.Checkpoint.{AreTables, IsFile, IsHeld}
use Rattle.zb_types.specs.Keyed.{look}
use Rattle.zb_tables.proofs.Alls.{all_keyed}
use Rattle.zb_tables.proofs.CommitForm.{all_held}
use Rattle.zb_tables.proofs.TablesForm.{entries_tables}
use Rattle.zb_sound.specs.Standing.{Says}

-- of each held stripe some bytes are committed
abbrev pub HoldSome : List HeldUse → Type 0
HoldSome held = (log : LogId) (stripe : ℕ) (h : HeldUse) → held_at log stripe held ≡ Some h → 0 < h.end

module _ (z : Sizes) (contents : Contents) (p : Platter) (tables : Tables) (tree : Tree) (says : Says z contents p tables tree) where
  pub said_tables : AreTables z tables
  said_tables = entries_tables z contents [] p.entries p.tables tables says.spelled says.taken

  pub said_some : HoldSome tables.held
  said_some log stripe h e = let end = (all_held (IsHeld z tables.logs) log stripe tables.held said_tables.held h e).end.0 in omega (arith, end)

-- each file that is found is in form
pub file_form : (z : Sizes) (t : Tables) → AreTables z t → (fid : ℕ) (file : FileState) → look fid t.files ≡ Some file → IsFile z t.names.next (fid, file)
file_form z t f fid file at = all_keyed (IsFile z t.names.next) fid file t.files f.files at
