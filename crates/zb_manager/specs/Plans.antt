-- What the operations of a batch come to.
use Rattle.std.specs.Prelude.{◌≡◌, ℕ, ◌+◌, false, List, [], ◌∷◌, length, Bool, nat_le, nat_lt, if◌then◌else◌, Option, Some, None, Result, Ok, Err}
use Rattle.std.specs.List.{AllByRecursion}
use Rattle.zb_types.specs.declared.calls.Call.{Call}
use Rattle.zb_types.specs.declared.calls.Reply.{Reply}
use Rattle.zb_types.specs.declared.calls.Refusal.{Refusal}
use Rattle.zb_types.specs.Names.{Names, Change, same, makes, drops}
use Rattle.zb_names.specs.Changing.{Changed}
use Rattle.zb_batch.specs.declared.batch.Op.{Op}
use Rattle.zb_batch.specs.declared.batch.Op.TheVariants.{Name, Clean}
use Rattle.zb_batch.specs.Batches.{IsNameCall}
use Rattle.zb_delta.specs.declared.delta.Delta.{Delta}
use Rattle.zb_tables.specs.Tables.{last_value}
use Rattle.zb_tables.specs.Fold.{Files, Shelf, named, done_ops}
use Rattle.zb_manager.specs.declared.work.Work.{Work}
use Rattle.zb_manager.specs.declared.work.Work.TheVariants.{Remove, Rename, Move}
use Rattle.zb_tables.specs.Taking.{any_wears}
use Rattle.zb_manager.specs.declared.planning.Plan.{Plan}
use Rattle.zb_manager.specs.declared.drafts.StaleOp.{StaleOp}
use Rattle.zb_manager.specs.Drafts.{IsFileOp, is_stale}
use Rattle.zb_manager.specs.Works.{names_worked, files_worked, MayWork, copied, movable_of}
use Rattle.zb_manager.specs.Seen.{moves_of}

-- names, files and replies once a plan is carried out
abbrev pub planned_shelf : ℕ → Shelf → Plan → Shelf
planned_shelf b s p = record { names = names_worked p.work s.names; files = files_worked b p.work s.files; replies = p.replies }

-- a plan has the effect and the replies of these operations, and tells whether one wears a version
pub record IsPlan (b : ℕ) (s : Shelf) (ops : List Op) (p : Plan) : Type 0 where
  pub done : done_ops b ops s ≡ Ok (planned_shelf b s p)
  pub may : MayWork p.work s.names
  pub worn_is : p.worn ≡ any_wears b ops s
  pub copied_is : p.copied ≡ copied (moves_of ops) s.files
  pub rejected_is : p.copied + p.rejected ≡ length (moves_of ops)

-- the operations come to a plan, or to the first that is stale
abbrev pub Plans : ℕ → Shelf → List Op → Result Plan StaleOp → Type 0
Plans b s ops (Ok p) = IsPlan b s ops p
Plans b s ops (Err stale) = done_ops b ops s ≡ Err (is_stale stale)

-- Operations on names.

-- the plan of one operation that has this reply
abbrev pub name_plan : Work → Reply → Plan
name_plan work reply = record { work = work; replies = reply ∷ []; copied = 0; rejected = 0; worn = false }

-- what a removal does to names and files, by what becomes of the files
abbrev pub removal : Changed → Change → Work
removal change same = Rename change
removal change (makes number) = Rename change
removal change (drops number) = Remove change (record { 0 = number })

-- a plan is that of this operation on names, which is refused for this reason or for none
pub record IsNamePlan (names : Names) (call : Call) (refusal : Option Refusal) (p : Plan) : Type 0 where
  pub shelf : (b : ℕ) (s : Shelf) → s.names ≡ names → s.replies ≡ [] → planned_shelf b s p ≡ named s call refusal
  pub may : MayWork p.work names
  pub worn : p.worn ≡ false
  pub moves : (p.copied ≡ 0) × (p.rejected ≡ 0)

-- Moves by the cleaner.

-- a plan is that of these moves: those that are carried out, and how many are and aren't
pub record IsMovePlan (files : Files) (deltas : List Delta) (p : Plan) : Type 0 where
  pub work : p.work ≡ Move (movable_of deltas files)
  pub replies : p.replies ≡ []
  pub worn : p.worn ≡ false
  pub copied_is : p.copied ≡ copied deltas files
  pub rejected_is : p.copied + p.rejected ≡ length deltas

-- one operation on names, one clean, or operations on files
abbrev pub IsWork : List Op → Type 0
IsWork [] = Unit {0}
IsWork (Name call what ∷ []) = IsNameCall what
IsWork (Clean deltas ∷ []) = Unit {0}
IsWork ops = AllByRecursion IsFileOp ops

-- the number that would be raised past its last value, where a version would or not
abbrev pub worn_field : ℕ → ℕ → Bool → Option ℕ
worn_field next_entry number version =
    if nat_le last_value next_entry then Some 2 else (if nat_lt last_value number then Some 3 else (if version then Some 4 else None))
