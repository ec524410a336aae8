-- The plan of each kind of batch is that of its operations.
use Rattle.std.proofs.Common.{◌≡◌, ℕ, ◌+◌, true, List, [], ◌∷◌, length, refl, sym, ap, ◌∙◌, subst}
use Rattle.std.specs.Prelude.{Ok, IsTrue, not, nat_le}
use Rattle.std.specs.List.{AllByRecursion, list_all}
use Rattle.std.proofs.lemmas.Bool.{and_parts, false≢true}
use Rattle.zb_types.specs.declared.calls.Call.{Call}
use Rattle.zb_types.specs.Names.{name_refusal}
use Rattle.zb_batch.specs.declared.batch.Op.{Op}
use Rattle.zb_batch.specs.declared.batch.Op.TheVariants.{Name, Write, Cut, Sync, Clean}
use Rattle.zb_batch.specs.Batches.{IsNameCall, IsOp, is_alone, is_company}
use Rattle.zb_delta.specs.declared.delta.Delta.{Delta}
use Rattle.zb_tables.specs.Fold.{Shelf}
use Rattle.zb_manager.specs.declared.planning.Plan.{Plan}
use Rattle.zb_manager.specs.declared.work.Work.{Work}
use Rattle.zb_manager.specs.Works.{names_worked, files_worked, MayWork}
use Rattle.zb_manager.specs.Plans.{IsPlan, IsNamePlan, IsMovePlan, IsWork}
use Rattle.zb_manager.specs.Drafts.{IsFileOp}
use Rattle.zb_manager.proofs.Carrying.{movable_moves}

-- an operation on names
pub name_planned : (b : ℕ) (s : Shelf) (call : ℕ) (what : Call) (p : Plan) → s.replies ≡ [] → IsNamePlan s.names what (name_refusal s.names what) p → IsPlan b s (Name call what ∷ []) p
name_planned b s call what p none is = record {
  done = ap Ok (sym (is.shelf b s refl none));
  may = is.may;
  worn_is = is.worn;
  copied_is = is.moves.0;
  rejected_is = ap (λ n. n + p.rejected) is.moves.0 ∙ ap (λ n. 0 + n) is.moves.1;
}

-- moves by the cleaner
pub moves_planned : (b : ℕ) (s : Shelf) (deltas : List Delta) (p : Plan) → s.replies ≡ [] → IsMovePlan s.files deltas p → IsPlan b s (Clean deltas ∷ []) p
moves_planned b s deltas p none is =
    let names : names_worked p.work s.names ≡ s.names = ap (λ (w : Work). names_worked w s.names) is.work in
    let files = ap (λ (w : Work). files_worked b w s.files) is.work ∙ movable_moves deltas s.files in
    record {
      done = λ i. Ok (record { names = sym names i; files = sym files i; replies = (none ∙ sym is.replies) i });
      may = subst (λ (w : Work). MayWork w s.names) (sym is.work) tt;
      worn_is = is.worn;
      copied_is = is.copied_is;
      rejected_is = is.rejected_is;
    }

-- ---- what the first operation tells of the others

-- an operation on names stands alone
pub name_alone : (call : ℕ) (what : Call) (others : List Op) → IsWork (Name call what ∷ others) → others ≡ []
name_alone call what [] work = refl
name_alone call what (o ∷ os) work = absurd work.0

pub name_call : (call : ℕ) (what : Call) (others : List Op) → IsWork (Name call what ∷ others) → IsNameCall what
name_call call what [] work = work
name_call call what (o ∷ os) work = absurd work.0

-- a clean stands alone
pub clean_alone : (deltas : List Delta) (others : List Op) → IsWork (Clean deltas ∷ others) → others ≡ []
clean_alone deltas [] work = refl
clean_alone deltas (o ∷ os) work = absurd work.0

-- others stand among others
pub all_on_files : (o : Op) (others : List Op) → IsFileOp o → IsWork (o ∷ others) → AllByRecursion IsFileOp (o ∷ others)
all_on_files (Write call fid version offset len deltas) others file work = work
all_on_files (Cut call fid version size deltas) others file work = work
all_on_files (Sync call) others file work = work
all_on_files (Name call what) others file work = absurd file
all_on_files (Clean deltas) others file work = absurd file

-- ---- what a batch that can be spelled gives

-- none of them stands alone
none_alone : (ops : List Op) → list_all (λ o. not (is_alone o)) ops ≡ true → AllByRecursion IsFileOp ops
none_alone [] all = tt
none_alone (Name call what ∷ os) all = absurd (false≢true all)
none_alone (Write call fid version offset len deltas ∷ os) all = (tt, none_alone os all)
none_alone (Cut call fid version size deltas ∷ os) all = (tt, none_alone os all)
none_alone (Sync call ∷ os) all = (tt, none_alone os all)
none_alone (Clean deltas ∷ os) all = absurd (false≢true all)

among_others : (o next : Op) (others : List Op) → AllByRecursion IsFileOp (o ∷ (next ∷ others)) → IsWork (o ∷ (next ∷ others))
among_others (Name call what) next others all = all
among_others (Write call fid version offset len deltas) next others all = all
among_others (Cut call fid version size deltas) next others all = all
among_others (Sync call) next others all = all
among_others (Clean deltas) next others all = all

-- the operations of a batch are of one kind
pub batch_work : (ops : List Op) → IsTrue (is_company ops) → AllByRecursion IsOp ops → IsWork ops
batch_work [] company all = tt
batch_work (Name call what ∷ []) company all = all.0.shaped
batch_work (Write call fid version offset len deltas ∷ []) company all = (tt, tt)
batch_work (Cut call fid version size deltas ∷ []) company all = (tt, tt)
batch_work (Sync call ∷ []) company all = (tt, tt)
batch_work (Clean deltas ∷ []) company all = tt
batch_work (o ∷ (next ∷ others)) company all =
    among_others o next others (none_alone (o ∷ (next ∷ others)) (and_parts (nat_le (length (o ∷ (next ∷ others))) 8) (list_all (λ q. not (is_alone q)) (o ∷ (next ∷ others))) company).1)
