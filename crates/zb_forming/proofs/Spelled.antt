-- The batch that is made can be spelled.
use Rattle.std.proofs.Common.{◌≡◌, ℕ, zero, suc, ◌+◌, ◌*◌, ◌<◌, ◌≤◌, Bool, true, false, not, List, [], ◌∷◌, length, map, refl, sym, ap, ◌∙◌, arith}
use Rattle.std.specs.Prelude.{if◌then◌else◌, ◌==◌, ◌&&◌, nat_le, sum_by, IsTrue}
use Rattle.std.specs.List.{AllByRecursion, list_all}
use Rattle.std.proofs.lemmas.Bool.{le-leb, leb-true}
use Rattle.std.proofs.lemmas.List.Sums.{sum_by-cons}
use Rattle.zb_types.specs.declared.ids.Fid.{Fid}
use Rattle.zb_types.specs.declared.ids.LogId.{LogId}
use Rattle.zb_types.specs.declared.ids.Ptr.{Ptr}
use Rattle.zb_types.specs.declared.calls.Call.{Call}
use Rattle.zb_types.specs.declared.calls.Call.TheVariants.{Create, Mkdir, Remove, Rename, Write, Truncate, Sync, Read, List as ListOf, Stat, Find}
use Rattle.zb_types.specs.declared.tables.Found.{Found}
use Rattle.zb_types.specs.Limits.{most_kept}
use Rattle.zb_types.specs.Paths.{is_path, are_names}
use Rattle.zb_types.specs.Apply.{is_update, max_file}
use Rattle.zb_batch.specs.declared.batch.Batch.{Batch}
use Rattle.zb_batch.specs.Batches.{IsShaped, IsUpdateOf, IsSpellable, is_company, is_alone as op_alone}
use Rattle.zb_batch.specs.Reading.{op_length}
use Rattle.zb_batch.specs.Shapes.{shape_of, writes, cuts}
use Rattle.zb_batch.specs.Spelling.{meta_length}
use Rattle.zb_basis.specs.declared.calls.Numbered.{Numbered}
use Rattle.zb_basis.specs.Runs.{is_alone, company, run_of}
use Rattle.zb_basis.specs.Operations.{is_done}
use Rattle.zb_forming.specs.declared.draft.Change.{Change}
use Rattle.zb_forming.specs.declared.draft.Draft.{Draft}
use Rattle.zb_forming.specs.declared.draft.Drafts.{Drafts}
use Rattle.zb_forming.specs.Drafts.{draft_of, added}
use Rattle.zb_forming.specs.Ops.{delta_of, deltas_made, first_only, op_made, ops_made, batch_made, HasPaths}
use Rattle.zb_forming.proofs.Runs.{length-map}
use Rattle.zb_forming.proofs.Covering.{write-count}
use Rattle.zb_forming.proofs.Batching.{new_drafts}
use Rattle.zb_forming.proofs.Counting.{length-changes, ops-count}

-- ---- shapes

are-updates : (ptrs : List Ptr) (fid : Fid) (version : ℕ) (changes : List Change) → AllByRecursion (IsUpdateOf fid version) (deltas_made ptrs fid version changes)
are-updates ptrs fid version [] = tt
are-updates ptrs fid version (change ∷ changes) = ((refl, refl), are-updates ptrs fid version changes)

one-only : (ptrs : List Ptr) (fid : Fid) (version : ℕ) (changes : List Change) → length (deltas_made ptrs fid version (first_only changes)) ≤ 1
one-only ptrs fid version [] = omega arith
one-only ptrs fid version (change ∷ changes) = omega arith

no-read : {A : Type 0} → false ≡ true → A
no-read e = absurd cc

op-shaped : (ptrs : List Ptr) (number : ℕ) (call : Call) (d : Draft) → is_update call ≡ true → HasPaths call → IsShaped (op_made ptrs number call d)
op-shaped ptrs number (Write fid offset text) d update paths = are-updates ptrs fid d.version d.changes
op-shaped ptrs number (Truncate fid n) d update paths = (one-only ptrs fid d.version d.changes, are-updates ptrs fid d.version (first_only d.changes))
op-shaped ptrs number Sync d update paths = tt
op-shaped ptrs number (Create path) d update paths = paths
op-shaped ptrs number (Mkdir path) d update paths = paths
op-shaped ptrs number (Remove path) d update paths = paths
op-shaped ptrs number (Rename path to) d update paths = paths
op-shaped ptrs number (Read fid offset len) d update paths = no-read update
op-shaped ptrs number (ListOf path) d update paths = no-read update
op-shaped ptrs number (Stat path) d update paths = no-read update
op-shaped ptrs number (Find path) d update paths = no-read update

-- a call that changes the tree, with paths
abbrev IsUpdate : Numbered → Type 0
IsUpdate call = is_update call.call ≡ true

abbrev Paths : Numbered → Type 0
Paths call = HasPaths call.call

ops-shaped : (ptrs : List Ptr) (calls : List Numbered) (ds : List Draft) → AllByRecursion IsUpdate calls → AllByRecursion Paths calls → AllByRecursion IsShaped (ops_made ptrs calls ds)
ops-shaped ptrs [] ds updates paths = tt
ops-shaped ptrs (call ∷ calls) [] updates paths = tt
ops-shaped ptrs (call ∷ calls) (d ∷ ds) updates paths = (op-shaped ptrs call.number call.call d updates.0 paths.0, ops-shaped ptrs calls ds updates.1 paths.1)

-- ---- company

abbrev InCompany : Numbered → Type 0
InCompany call = is_alone call.call ≡ false

company-step : (t : Bool) (call : Numbered) (calls some : List Numbered) → (if t then [] else call ∷ some) ≡ call ∷ calls → (t ≡ false) × (some ≡ calls)
company-step true call calls some e = absurd cc
company-step false call calls some e = (refl, cc)

company-all : (n : ℕ) (calls : List Numbered) → company n calls ≡ calls → (length calls ≤ n) × AllByRecursion InCompany calls
company-all n [] e = (omega arith, tt)
company-all zero (call ∷ calls) e = absurd cc
company-all (suc n) (call ∷ calls) e =
    let step = company-step (is_alone call.call) call calls (company n calls) e in
    let rest = company-all n calls step.1 in
    (omega (arith, rest.0), (step.0, rest.1))

run-step : (t : Bool) (call next : Numbered) (calls some : List Numbered) → (if t then call ∷ [] else some) ≡ call ∷ (next ∷ calls) → some ≡ call ∷ (next ∷ calls)
run-step true call next calls some e = absurd cc
run-step false call next calls some e = e

op-together : (ptrs : List Ptr) (number : ℕ) (call : Call) (d : Draft) → is_alone call ≡ false → not (op_alone (op_made ptrs number call d)) ≡ true
op-together ptrs number (Write fid offset text) d e = refl
op-together ptrs number (Truncate fid n) d e = refl
op-together ptrs number Sync d e = refl
op-together ptrs number (Create path) d e = no-read (sym e)
op-together ptrs number (Mkdir path) d e = no-read (sym e)
op-together ptrs number (Remove path) d e = no-read (sym e)
op-together ptrs number (Rename path to) d e = no-read (sym e)
op-together ptrs number (Read fid offset len) d e = no-read (sym e)
op-together ptrs number (ListOf path) d e = no-read (sym e)
op-together ptrs number (Stat path) d e = no-read (sym e)
op-together ptrs number (Find path) d e = no-read (sym e)

ops-together : (ptrs : List Ptr) (calls : List Numbered) (ds : List Draft) → AllByRecursion InCompany calls → list_all (λ o. not (op_alone o)) (ops_made ptrs calls ds) ≡ true
ops-together ptrs [] ds all = refl
ops-together ptrs (call ∷ calls) [] all = refl
ops-together ptrs (call ∷ calls) (d ∷ ds) all = (λ i. op-together ptrs call.number call.call d all.0 i && ops-together ptrs calls ds all.1 i)

ops-company : (ptrs : List Ptr) (calls : List Numbered) (ds : List Draft) → run_of calls ≡ calls → 0 < length calls → length (ops_made ptrs calls ds) ≡ length calls → is_company (ops_made ptrs calls ds) ≡ true
ops-company ptrs [] ds run some same = absurd (omega (arith, some))
ops-company ptrs (call ∷ []) [] run some same = absurd (omega (arith, same))
ops-company ptrs (call ∷ []) (d ∷ ds) run some same = refl
ops-company ptrs (call ∷ (next ∷ calls)) [] run some same = absurd (omega (arith, same))
ops-company ptrs (call ∷ (next ∷ calls)) (d ∷ []) run some same = absurd (omega (arith, same))
ops-company ptrs (call ∷ (next ∷ calls)) (d ∷ (e ∷ ds)) run some same =
    let all = company-all most_kept (call ∷ (next ∷ calls)) (run-step (is_alone call.call) call next calls (company most_kept (call ∷ (next ∷ calls))) run) in
    (λ i. le-leb (length (ops_made ptrs (call ∷ (next ∷ calls)) (d ∷ (e ∷ ds)))) 8 (omega (arith, same, all.0)) i && ops-together ptrs (call ∷ (next ∷ calls)) (d ∷ (e ∷ ds)) all.1 i)

few-calls : (calls : List Numbered) → run_of calls ≡ calls → length calls ≤ 8
few-calls [] run = omega arith
few-calls (call ∷ []) run = omega arith
few-calls (call ∷ (next ∷ calls)) run = (company-all most_kept (call ∷ (next ∷ calls)) (run-step (is_alone call.call) call next calls (company most_kept (call ∷ (next ∷ calls))) run)).0

-- ---- length

and-last : (a c : Bool) → (a && c) ≡ true → c ≡ true
and-last true c e = e
and-last false c e = absurd cc

path-short : (path : List ℕ) → IsTrue (is_path path) → length path ≤ 1024
path-short [] is = omega arith
path-short (x ∷ rest) is = omega (arith, leb-true (length rest) 1023 (and-last (x == 47 && are_names [] rest) (nat_le (length rest) 1023) is))

-- more than any operation takes
abbrev op_most : ℕ
op_most = 67108864

op-few : (b : ℕ) (ptrs : List Ptr) (number : ℕ) (s : Drafts) (call : Call) (found : Found) → 64 ≤ b → HasPaths call → is_update call ≡ true → op_length (op_made ptrs number call (draft_of b s call found)) ≤ op_most
op-few b ptrs number s (Write fid offset text) found low paths update =
    omega (arith, length-map (delta_of ptrs fid (draft_of b s (Write fid offset text) found).version) (draft_of b s (Write fid offset text) found).changes, length-changes b s (Write fid offset text) found, write-count b fid offset text (is_done found.version (offset + length text)) low (λ e. and-last (not (found.version == 0)) (nat_le (offset + length text) max_file) e))
op-few b ptrs number s (Truncate fid n) found low paths update = omega (arith, one-only ptrs fid (draft_of b s (Truncate fid n) found).version (draft_of b s (Truncate fid n) found).changes)
op-few b ptrs number s Sync found low paths update = omega arith
op-few b ptrs number s (Create path) found low paths update = omega (arith, path-short path paths)
op-few b ptrs number s (Mkdir path) found low paths update = omega (arith, path-short path paths)
op-few b ptrs number s (Remove path) found low paths update = omega (arith, path-short path paths)
op-few b ptrs number s (Rename path to) found low paths update = omega (arith, path-short path paths.0, path-short to paths.1)
op-few b ptrs number s (Read fid offset len) found low paths update = no-read update
op-few b ptrs number s (ListOf path) found low paths update = no-read update
op-few b ptrs number s (Stat path) found low paths update = no-read update
op-few b ptrs number s (Find path) found low paths update = no-read update

ops-few : (b : ℕ) (bytes : Ptr → List ℕ) (ptrs : List Ptr) (calls : List Numbered) (founds : List Found) (s : Drafts) → 64 ≤ b → AllByRecursion Paths calls → AllByRecursion IsUpdate calls
    → sum_by op_length (ops_made ptrs calls (new_drafts b bytes calls founds s)) ≤ length calls * op_most
ops-few b bytes ptrs [] founds s low paths updates = omega arith
ops-few b bytes ptrs (call ∷ calls) [] s low paths updates = omega arith
ops-few b bytes ptrs (call ∷ calls) (found ∷ founds) s low paths updates =
    omega (arith, sum_by-cons op_length (op_made ptrs call.number call.call (draft_of b s call.call found)) (ops_made ptrs calls (new_drafts b bytes calls founds (added b bytes s call.call found))), op-few b ptrs call.number s call.call found low paths.0 updates.0, ops-few b bytes ptrs calls founds (added b bytes s call.call found) low paths.1 updates.1)

pub spellable : (b : ℕ) (bytes : Ptr → List ℕ) (log : LogId) (number : ℕ) (ptrs : List Ptr) (calls : List Numbered) (founds : List Found) (s : Drafts)
    → 64 ≤ b → run_of calls ≡ calls → 0 < length calls → length calls ≡ length founds → AllByRecursion IsUpdate calls → AllByRecursion Paths calls
    → ((batch : Batch) → meta_length batch ≡ 32 + sum_by op_length batch.ops)
    → IsSpellable (batch_made log number ptrs calls (new_drafts b bytes calls founds s))
spellable b bytes log number ptrs calls founds s low run some same updates paths law = record {
  shaped = ops-shaped ptrs calls (new_drafts b bytes calls founds s) updates paths;
  company = ops-company ptrs calls (new_drafts b bytes calls founds s) run some (ops-count b bytes ptrs calls founds s same);
  short = omega (arith, law (batch_made log number ptrs calls (new_drafts b bytes calls founds s)), ops-few b bytes ptrs calls founds s low paths updates, few-calls calls run);
}

-- ---- the length doesn't depend on the pointers

op-shape : (ptrs other : List Ptr) (number : ℕ) (call : Call) (d : Draft) → shape_of (op_made ptrs number call d) ≡ shape_of (op_made other number call d)
op-shape ptrs other number (Write fid offset text) d =
    ap writes (length-map (delta_of ptrs fid d.version) d.changes ∙ sym (length-map (delta_of other fid d.version) d.changes))
op-shape ptrs other number (Truncate fid n) d =
    ap cuts (length-map (delta_of ptrs fid d.version) (first_only d.changes) ∙ sym (length-map (delta_of other fid d.version) (first_only d.changes)))
op-shape ptrs other number Sync d = refl
op-shape ptrs other number (Create path) d = refl
op-shape ptrs other number (Mkdir path) d = refl
op-shape ptrs other number (Remove path) d = refl
op-shape ptrs other number (Rename path to) d = refl
op-shape ptrs other number (Read fid offset len) d = refl
op-shape ptrs other number (ListOf path) d = refl
op-shape ptrs other number (Stat path) d = refl
op-shape ptrs other number (Find path) d = refl

pub same-shape : (ptrs other : List Ptr) (calls : List Numbered) (ds : List Draft) → map shape_of (ops_made ptrs calls ds) ≡ map shape_of (ops_made other calls ds)
same-shape ptrs other [] ds = refl
same-shape ptrs other (call ∷ calls) [] = refl
same-shape ptrs other (call ∷ calls) (d ∷ ds) = (λ i. op-shape ptrs other call.number call.call d i ∷ same-shape ptrs other calls ds i)
