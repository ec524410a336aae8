-- What is known of the files while a batch's operations on files are gone through.
use Rattle.std.specs.Prelude.{◌≡◌, ℕ, ◌==◌, nat_lt, ◌||◌, Bool, if◌then◌else◌, List, [], ◌∷◌, Option, Some, None, Result, Ok, Err}
use Rattle.zb_types.specs.declared.ids.Fid.{Fid}
use Rattle.zb_types.specs.Keyed.{look}
use Rattle.zb_types.specs.Apply.{max_file}
use Rattle.zb_batch.specs.declared.batch.Op.{Op}
use Rattle.zb_batch.specs.declared.batch.Op.TheVariants.{Name, Write, Cut, Sync, Clean}
use Rattle.zb_tables.specs.Tables.{risen}
use Rattle.zb_tables.specs.Fold.{Files, Shelf, Stale}
use Rattle.zb_pointers.specs.declared.head.FileHead.{FileHead}
use Rattle.zb_pointers.specs.Seen.{seen_head}
use Rattle.zb_manager.specs.declared.drafts.Verdict.{Verdict}
use Rattle.zb_manager.specs.declared.drafts.Verdict.TheVariants.{Gone, Stale as StaleVersion, TooBig, Fits}
use Rattle.zb_manager.specs.declared.drafts.Draft.{Draft}
use Rattle.zb_manager.specs.declared.drafts.StaleOp.{StaleOp}
use Rattle.zb_manager.specs.Works.{all_stepped}

-- a write, a truncation or a sync
abbrev pub IsFileOp : Op → Type 0
IsFileOp (Name call what) = ⊥
IsFileOp (Write call fid version offset len deltas) = Unit {0}
IsFileOp (Cut call fid version size deltas) = Unit {0}
IsFileOp (Sync call) = Unit {0}
IsFileOp (Clean deltas) = ⊥

-- what becomes of a change to an end, made at a version
abbrev pub judged : Option FileHead → ℕ → ℕ → Verdict
judged None version end = Gone
judged (Some head) version end = if version == head.version then (if nat_lt max_file end then TooBig else Fits head) else StaleVersion head.version

-- the head of a file after some changes, the latest last
abbrev pub head_in : List (Fid × FileHead) → ℕ → Option FileHead → Option FileHead
head_in [] fid head = head
head_in (e ∷ es) fid head = head_in es fid (if (e.0).0 == fid then Some e.1 else head)

-- these changes lead from the heads of some files to those of others
abbrev pub Leads : List (Fid × FileHead) → Files → Files → Type 0
Leads changes old new = (fid : ℕ) → seen_head (look fid new) ≡ head_in changes fid (seen_head (look fid old))

-- a file's next version, with this length
abbrev pub next_head : FileHead → ℕ → FileHead
next_head old size = record { version = risen old.version; length = size }

-- a draft stands for names, files and replies, where the files were these before
pub record IsDraft (b : ℕ) (files : Files) (draft : Draft) (s : Shelf) : Type 0 where
  pub leads : Leads draft.heads.items files s.files
  pub steps : all_stepped b draft.steps files ≡ s.files
  pub replies : draft.replies ≡ s.replies

-- the first stale operation, as the tables tell of it
abbrev pub is_stale : StaleOp → Stale
is_stale stale = record { fid = stale.fid; seen = stale.seen; now = stale.now }

-- from one draft to another an operation was gone through, which is done so, and may wear a version
abbrev pub Drafts : ℕ → Files → Draft → Draft → Bool → Result Shelf Stale → Option StaleOp → Type 0
Drafts b files old new worn done None = (after : Shelf) × (done ≡ Ok after) × IsDraft b files new after × (new.worn ≡ (old.worn || worn))
Drafts b files old new worn done (Some stale) = done ≡ Err (is_stale stale)
