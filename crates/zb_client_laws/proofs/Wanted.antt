-- The old blocks that are wanted lie in what is held, where all that was found does.
use Rattle.std.proofs.Common.{◌≡◌, ℕ, zero, suc, ◌<◌, List, [], ◌∷◌, length, subst, arith}
use Rattle.std.specs.Prelude.{All, Any, slice_index_or}
use Rattle.std.specs.List.{AllByRecursion}
use Rattle.zb_types.specs.declared.ids.Ptr.{Ptr}
use Rattle.zb_types.specs.declared.tables.Found.{Found}
use Rattle.zb_types.specs.declared.tables.HeldUse.{HeldUse}
use Rattle.zb_tables.specs.Tables.{LiesIn}
use Rattle.zb_basis.specs.declared.calls.Numbered.{Numbered}
use Rattle.zb_basis.specs.Runs.{run_of}
use Rattle.zb_basis.specs.Wanting.{Holds, wanted_by, wanted_by_read}
use Rattle.zb_basis.proofs.Each.{each-of, each-weaker}
use Rattle.zb_basis.proofs.Found.{batch-found, read-found}
use Rattle.zb_work.specs.Fitting.{wanted_for, wanted_for_read}
use Rattle.zb_client_laws.specs.Current.{FoundLies}

-- what holds of each holds of the one that there is
each_at : {A : Type 0} (Q : A → Type 0) (xs : List A) (k : ℕ) (x : A) → k < length xs → slice_index_or xs k x ≡ x → AllByRecursion Q xs → Q x
each_at Q [] k x l e all = absurd (omega arith)
each_at Q (y ∷ ys) zero x l e all = subst Q e all.0
each_at Q (y ∷ ys) (suc k) x l e all = each_at Q ys k x (omega (arith, l)) e all.1

pub any_of : {A : Type 0} (P Q : A → Type 0) (xs : List A) → AllByRecursion Q xs → Any P xs → (x : A) × P x × Q x
any_of P Q xs all (k, x, l, e, p) = (x, p, each_at Q xs k x l e all)

holds_lie : (held : List HeldUse) (founds : List Found) (p : Ptr) → AllByRecursion (FoundLies held) founds → Holds founds p → LiesIn held p
holds_lie held founds p lie holds =
    let f = any_of (λ (found : Found). Any (λ (entry : ℕ × Ptr). entry.1 ≡ p) found.blocks) (FoundLies held) founds lie holds in
    let b = any_of (λ (entry : ℕ × Ptr). entry.1 ≡ p) (λ (entry : ℕ × Ptr). LiesIn held entry.1) (f.0).blocks f.2 f.1 in
    subst (LiesIn held) b.1 b.2

all_lie : (held : List HeldUse) (founds : List Found) (ws : List Ptr) → AllByRecursion (FoundLies held) founds → All (Holds founds) ws → AllByRecursion (LiesIn held) ws
all_lie held founds ws lie all = each-weaker (Holds founds) (LiesIn held) ws (λ p h. holds_lie held founds p lie h) (each-of (Holds founds) ws all)

read_lie : (held : List HeldUse) (b : ℕ) (queue : List Numbered) (founds : List Found) → AllByRecursion (FoundLies held) founds → AllByRecursion (LiesIn held) (wanted_for_read b queue founds)
read_lie held b [] founds lie = tt
read_lie held b (read ∷ rest) founds lie = all_lie held founds (wanted_by_read b read.call founds) lie (read-found b read.call founds)

pub wanted_lie : (held : List HeldUse) (b : ℕ) (kept queue : List Numbered) (founds : List Found) → AllByRecursion (FoundLies held) founds → AllByRecursion (LiesIn held) (wanted_for b kept queue founds)
wanted_lie held b [] queue founds lie = read_lie held b queue founds lie
wanted_lie held b (first ∷ others) queue founds lie = all_lie held founds (wanted_by b (run_of (first ∷ others)) founds) lie (batch-found b (run_of (first ∷ others)) founds)
