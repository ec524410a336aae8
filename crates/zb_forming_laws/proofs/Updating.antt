-- The operations of a formed batch are those of its calls' updates.
use Rattle.std.proofs.Common.{◌≡◌, ◌⊎◌, ℕ, zero, suc, ◌<◌, Bool, true, false, List, [], ◌∷◌, ◌++◌, length, map, Option, Some, None, refl, sym, ap, ◌∙◌, subst, inl, inr}
use Rattle.std.specs.Prelude.{◌||◌, nat_lt, nat_le, if◌then◌else◌, Result, Ok, Err, IfOk}
use Rattle.std.specs.List.{AllByRecursion, AllZip, flat_map}
use Rattle.std.proofs.lemmas.Bool.{cases_Bool, cond_both, false≢true}
use Rattle.std.proofs.lemmas.Option.{none-some}
use Rattle.zb_types.specs.declared.ids.LogId.{LogId}
use Rattle.zb_types.specs.declared.ids.Ptr.{Ptr}
use Rattle.zb_types.specs.declared.ids.Piece.{Piece}
use Rattle.zb_types.specs.declared.calls.Call.{Call}
use Rattle.zb_types.specs.declared.calls.Call.TheVariants.{Create, Mkdir, Remove, Rename, Write, Truncate, Sync, Read, List as ListOf, Stat, Find}
use Rattle.zb_types.specs.declared.tables.Found.{Found}
use Rattle.zb_types.specs.declared.tables.CommitFault.{CommitFault}
use Rattle.zb_types.specs.declared.tables.CommitFault.TheVariants.{Stale as StaleFault, Worn}
use Rattle.zb_types.specs.Limits.{most_kept}
use Rattle.zb_delta.specs.declared.delta.Delta.{Delta}
use Rattle.zb_delta.specs.Spelling.{body_of}
use Rattle.zb_batch.specs.declared.batch.Batch.{Batch}
use Rattle.zb_batch.specs.declared.batch.Op.{Op}
use Rattle.zb_batch.specs.declared.batch.Op.TheVariants as op
use Rattle.zb_batch.specs.Spelling.{deltas_of}
use Rattle.zb_tables.specs.Tables.{Contents, EachFile, EndsInFile, FileState, Tables, bytes_at, last_value}
use Rattle.zb_tables.specs.Fold.{Files, Shelf, Stale, and_then, done_op, done_ops, shelf_of}
use Rattle.zb_tables.specs.Spelled.{OpIs, OpsAre}
use Rattle.zb_tables.specs.Checkpoint.{AreTables, IsFile, IsPlace}
use Rattle.zb_tables.specs.Taking.{IsPointer, Sizes, any_wears, commit_refusal, on_done, or_else, regen_of, stale_of, wears, worn_of}
use Rattle.zb_tables.proofs.Alls.{all_keyed, all_two}
use Rattle.zb_sound.specs.Committing.{IsOfUpdates}
use Rattle.zb_basis.specs.declared.calls.Numbered.{Numbered}
use Rattle.zb_basis.specs.declared.basis.Basis.{Basis}
use Rattle.zb_basis.specs.Forming.{IsBatchOf}
use Rattle.zb_basis.specs.Looking.{ask_of}
use Rattle.zb_basis.specs.Runs.{company, is_alone, run_of}
use Rattle.zb_basis.specs.Operations.{Changed, after_op, new_ptrs, unchanged, OpIs as OpMeans, OpsAre as OpsMean}
use Rattle.zb_forming_laws.specs.Resting.{AreCurrent, AreShort, IsCurrentFor, IsShort, Rests, updates_of}
use Rattle.zb_forming_laws.proofs.Anew.{IsWhole}
use Rattle.zb_forming_laws.proofs.Standing.{contents-stand}
use Rattle.zb_forming_laws.proofs.Tracking.{IsGood, Leads, Tracks, tracks-first}
use Rattle.zb_forming_laws.proofs.Stepping.{op-steps}

-- ---- new pointers name as many bytes as stand there

pub each-front : {A : Type 0} (P : A → Type 0) (xs ys : List A) → AllByRecursion P (xs ++ ys) → AllByRecursion P xs
each-front P [] ys all = tt
each-front P (x ∷ xs) ys all = (all.0, each-front P xs ys all.1)

pub each-back : {A : Type 0} (P : A → Type 0) (xs ys : List A) → AllByRecursion P (xs ++ ys) → AllByRecursion P ys
each-back P [] ys all = all
each-back P (x ∷ xs) ys all = each-back P xs ys all.1

pub each-now : (P : Ptr → Type 0) (ds : List Delta) → AllByRecursion P (flat_map (λ d. (body_of d).now ∷ []) ds) → AllByRecursion (λ (d : Delta). P (body_of d).now) ds
each-now P [] all = tt
each-now P (d ∷ ds) all = (all.0, each-now P ds all.1)

whole-ptrs : (contents : Contents) (ptrs : List Ptr) (blocks : List (List ℕ)) → map (λ (p : Ptr). p.len) ptrs ≡ map length blocks → AllZip (λ p block. bytes_at contents p ≡ block) ptrs blocks
    → AllByRecursion (IsWhole (bytes_at contents)) ptrs
whole-ptrs contents [] [] lens zip = tt
whole-ptrs contents [] (block ∷ blocks) lens zip = absurd zip
whole-ptrs contents (p ∷ ps) [] lens zip = absurd zip
whole-ptrs contents (p ∷ ps) (block ∷ blocks) lens zip = (ap first-of lens ∙ ap length (sym zip.0), whole-ptrs contents ps blocks (ap rest-of lens) zip.1) where
  first-of : List ℕ → ℕ
  first-of [] = 0
  first-of (n ∷ ns) = n

  rest-of : List ℕ → List ℕ
  rest-of [] = []
  rest-of (n ∷ ns) = ns

-- ---- a batch of writes, truncations and syncs

abbrev InCompany : List Numbered → Type 0
InCompany calls = AllByRecursion (λ (k : Numbered). is_alone k.call ≡ false) calls

or-false : (p q : Bool) → (p || q) ≡ false → (p ≡ false) × (q ≡ false)
or-false true q e = absurd (false≢true (sym e))
or-false false q e = (refl, e)

abbrev is-ok : Result Shelf Stale → Type 0
is-ok (Ok s) = Unit {0}
is-ok (Err stale) = ⊥

module _ (b : ℕ) (pos : 0 < b) (new : Contents) (t : Tables) where
  ops-step : (calls : List Numbered) (founds : List Found) (os : List Op) (call : Numbered) (found : Found) (o : Op) (changed : Changed) (s after : Shelf)
      → OpMeans b (bytes_at new) changed call.number call.call found o → is_alone call.call ≡ false → IsShort call.call → IsCurrentFor new t (ask_of b call.call) found
      → AllByRecursion (λ (d : Delta). IsWhole (bytes_at new) (body_of d).now) (deltas_of o)
      → EachFile (IsGood b) s.files → Tracks t.files changed s.files
      → ((next : Shelf) → Leads b t.files (after_op b changed o) next → done_ops b os next ≡ Ok after → any_wears b os next ≡ false → OpsAre b new os (updates_of calls) next)
      → (d : Result Shelf Stale) → done_op b s o ≡ d → and_then d (done_ops b os) ≡ Ok after → (wears s o || on_done (any_wears b os) d) ≡ false
      → OpIs b new s.files o call.call × IfOk d (OpsAre b new os (updates_of calls))
  ops-step calls founds os call found o changed s after is alone short current whole good tracks rest (Err stale) e done worn = absurd (subst is-ok (sym done) tt)
  ops-step calls founds os call found o changed s after is alone short current whole good tracks rest (Ok next) e done worn =
      let fresh = or-false (wears s o) (any_wears b os next) worn in
      let step = op-steps b pos new t s changed good tracks call.number call.call found o next is alone current short whole fresh.0 e in
      (step.0, rest next step.1 done fresh.1)

  ops-are : (calls : List Numbered) (founds : List Found) (os : List Op) (changed : Changed) (s after : Shelf) → OpsMean b (bytes_at new) changed calls founds os → InCompany calls → AreShort calls
      → AreCurrent b new t calls founds → AllByRecursion (IsWhole (bytes_at new)) (new_ptrs os) → EachFile (IsGood b) s.files → Tracks t.files changed s.files
      → done_ops b os s ≡ Ok after → any_wears b os s ≡ false → OpsAre b new os (updates_of calls) s
  ops-are [] [] [] changed s after are company short current whole good tracks done worn = tt
  ops-are (call ∷ calls) (found ∷ founds) (o ∷ os) changed s after are company short current whole good tracks done worn =
      let here = each-front (IsWhole (bytes_at new)) (flat_map (λ d. (body_of d).now ∷ []) (deltas_of o)) (new_ptrs os) whole in
      let behind = each-back (IsWhole (bytes_at new)) (flat_map (λ d. (body_of d).now ∷ []) (deltas_of o)) (new_ptrs os) whole in
      ops-step calls founds os call found o changed s after are.0 company.0 short.0 current.0 (each-now (IsWhole (bytes_at new)) (deltas_of o) here) good tracks
      (λ next leads rest fresh. ops-are calls founds os (after_op b changed o) next after are.1 company.1 short.1 current.1 behind leads.good leads.tracks rest fresh)
      (done_op b s o) refl done worn
  ops-are [] [] (o ∷ os) changed s after are company short current whole good tracks done worn = absurd are
  ops-are [] (found ∷ founds) os changed s after are company short current whole good tracks done worn = absurd are
  ops-are (call ∷ calls) [] os changed s after are company short current whole good tracks done worn = absurd are
  ops-are (call ∷ calls) (found ∷ founds) [] changed s after are company short current whole good tracks done worn = absurd are

  -- ---- a call that changes names

  names-op : (number : ℕ) (call : Call) (found : Found) (o : Op) (changed : Changed) (files : Files) → is_alone call ≡ true → OpMeans b (bytes_at new) changed number call found o → OpIs b new files o call
  names-op number (Create path) found (op.Name m what) changed files alone is = (is.1, tt)
  names-op number (Create path) found o changed files alone is = absurd is
  names-op number (Mkdir path) found (op.Name m what) changed files alone is = (is.1, tt)
  names-op number (Mkdir path) found o changed files alone is = absurd is
  names-op number (Remove path) found (op.Name m what) changed files alone is = (is.1, tt)
  names-op number (Remove path) found o changed files alone is = absurd is
  names-op number (Rename path to) found (op.Name m what) changed files alone is = (is.1, tt)
  names-op number (Rename path to) found o changed files alone is = absurd is
  names-op number (Read fid offset len) found (op.Name m what) changed files alone is = absurd (false≢true is.2)
  names-op number (Read fid offset len) found o changed files alone is = absurd is
  names-op number (ListOf path) found (op.Name m what) changed files alone is = absurd (false≢true is.2)
  names-op number (ListOf path) found o changed files alone is = absurd is
  names-op number (Stat path) found (op.Name m what) changed files alone is = absurd (false≢true is.2)
  names-op number (Stat path) found o changed files alone is = absurd is
  names-op number (Find path) found (op.Name m what) changed files alone is = absurd (false≢true is.2)
  names-op number (Find path) found o changed files alone is = absurd is
  names-op number (Write fid offset bytes) found o changed files alone is = absurd (false≢true alone)
  names-op number (Truncate fid size) found o changed files alone is = absurd (false≢true alone)
  names-op number Sync found o changed files alone is = absurd (false≢true alone)

  no-more : (d : Result Shelf Stale) → IfOk d (OpsAre b new [] [])
  no-more (Ok s) = tt
  no-more (Err stale) = tt

  one-is : (call : Numbered) (founds : List Found) (os : List Op) (changed : Changed) (s : Shelf) → is_alone call.call ≡ true → OpsMean b (bytes_at new) changed (call ∷ []) founds os
      → OpsAre b new os (updates_of (call ∷ [])) s
  one-is call (found ∷ []) (o ∷ []) changed s alone are = (names-op call.number call.call found o changed s.files alone are.0, no-more (done_op b s o))
  one-is call [] os changed s alone are = absurd are
  one-is call (found ∷ founds) [] changed s alone are = absurd are
  one-is call (found ∷ []) (o ∷ other ∷ os) changed s alone are = absurd are.1
  one-is call (found ∷ other ∷ founds) (o ∷ os) changed s alone are = absurd are.1

-- ---- the first run

company-is : (most : ℕ) (kept : List Numbered) → InCompany (company most kept)
company-is zero [] = tt
company-is (suc most) [] = tt
company-is zero (call ∷ calls) = tt
company-is (suc most) (call ∷ calls) =
    elim (cases_Bool (is_alone call.call)) as (λ _. InCompany (if is_alone call.call then [] else call ∷ company most calls)) [
      | inl t ↦ subst (λ (z : Bool). InCompany (if z then [] else call ∷ company most calls)) (sym t) tt
      | inr f ↦ subst (λ (z : Bool). InCompany (if z then [] else call ∷ company most calls)) (sym f) (f, company-is most calls)
    ]

-- a run is one call that stands alone, or some that stand together
abbrev pub RunIs : List Numbered → Type 0
RunIs calls = ((call : Numbered) × (calls ≡ call ∷ []) × (is_alone call.call ≡ true)) ⊎ InCompany calls

pub run-is : (kept : List Numbered) → RunIs (run_of kept)
run-is [] = inr tt
run-is (call ∷ calls) = cond_both (is_alone call.call) (call ∷ []) (company most_kept (call ∷ calls)) RunIs (λ t. inl (call, refl, t)) (λ f. inr (company-is most_kept (call ∷ calls)))

-- ---- what the tables don't refuse

or-none : (x y : Option CommitFault) → or_else x y ≡ None → (x ≡ None) × (y ≡ None)
or-none None y e = (refl, e)
or-none (Some fault) y e = absurd (none-some fault (sym e))

fresh-done : (d : Result Shelf Stale) → stale_of d ≡ None → (after : Shelf) × (d ≡ Ok after)
fresh-done (Ok after) e = (after, refl)
fresh-done (Err s) e = absurd (none-some (StaleFault s.fid s.seen s.now) (sym e))

not-worn : (p q r : Bool) → (if p then Some (Worn 2) else (if q then Some (Worn 3) else (if r then Some (Worn 4) else None))) ≡ None → r ≡ false
not-worn true q r e = absurd (none-some (Worn 2) (sym e))
not-worn false true r e = absurd (none-some (Worn 3) (sym e))
not-worn false false true e = absurd (none-some (Worn 4) (sym e))
not-worn false false false e = refl

pub taken-fresh : (b : ℕ) (t : Tables) (batch : Batch) (pieces : List Piece) (generation : ℕ) → commit_refusal b t batch pieces generation ≡ None
    → (any_wears b batch.ops (shelf_of t) ≡ false) × ((after : Shelf) × (done_ops b batch.ops (shelf_of t) ≡ Ok after))
taken-fresh b t batch pieces generation taken =
    let behind = or-none (regen_of t batch.log pieces generation) (or_else (stale_of (done_ops b batch.ops (shelf_of t))) (worn_of b t batch)) taken in
    let both = or-none (stale_of (done_ops b batch.ops (shelf_of t))) (worn_of b t batch) behind.1 in
    (not-worn (nat_le last_value t.next_entry) (nat_lt last_value batch.number) (any_wears b batch.ops (shelf_of t)) both.1, fresh-done (done_ops b batch.ops (shelf_of t)) both.0)

-- ---- the files of the tables

good-file : (z : Sizes) (next : ℕ) (e : ℕ × FileState) → EndsInFile z.block e.1 → IsFile z next e → IsGood z.block e.1
good-file z next e ends file = record {
  ends = ends;
  some = file.version.0;
  most = file.version.1;
  fit = λ k p at. (all_keyed (λ (k : ℕ × Ptr). IsPointer z k.1 × IsPlace k.1) k p e.1.blocks file.pointers at).0.block;
}

good-files : (z : Sizes) (t : Tables) → AreTables z t → EachFile (EndsInFile z.block) t.files → EachFile (IsGood z.block) t.files
good-files z t form ends =
    all_two (λ (e : ℕ × FileState). EndsInFile z.block e.1) (IsFile z t.names.next) (λ (e : ℕ × FileState). IsGood z.block e.1) (good-file z t.names.next) t.files ends form.files

module _ (z : Sizes) (new : Contents) (t : Tables) (calls : List Numbered) (basis : Basis) (log : LogId) (number : ℕ) (batch : Batch) (ptrs : List Ptr) (blocks : List (List ℕ))
    (pos : 0 < z.block) (form : AreTables z t) (ends : EachFile (EndsInFile z.block) t.files) (is : IsBatchOf z.block log number calls basis batch ptrs blocks)
    (rests : Rests z.block new t calls basis ptrs blocks) where
  means : OpsMean z.block (bytes_at new) unchanged calls basis.found batch.ops
  means = is.of_calls (bytes_at new) (contents-stand new basis.fetched ptrs blocks rests.fetched rests.stand)

  by-run : (after : Shelf) → done_ops z.block batch.ops (shelf_of t) ≡ Ok after → any_wears z.block batch.ops (shelf_of t) ≡ false → RunIs calls → OpsAre z.block new batch.ops (updates_of calls) (shelf_of t)
  by-run after done worn (inl one) =
      subst (λ (cs : List Numbered). OpsAre z.block new batch.ops (updates_of cs) (shelf_of t)) (sym one.1)
      (one-is z.block pos new t one.0 basis.found batch.ops unchanged (shelf_of t) one.2 (subst (λ (cs : List Numbered). OpsMean z.block (bytes_at new) unchanged cs basis.found batch.ops) one.1 means))
  by-run after done worn (inr company) =
      ops-are z.block pos new t calls basis.found batch.ops unchanged (shelf_of t) after means company rests.short rests.current
      (subst (AllByRecursion (IsWhole (bytes_at new))) (sym is.new) (whole-ptrs new ptrs blocks is.lens rests.stand))
      (good-files z t form ends) (tracks-first t.files) done worn

  pub of-updates : (generation : ℕ) (pieces : List Piece) (kept : List Numbered) → calls ≡ run_of kept → commit_refusal z.block t batch pieces generation ≡ None → IsOfUpdates z new t batch (updates_of calls)
  of-updates generation pieces kept run taken =
      let fresh = taken-fresh z.block t batch pieces generation taken in
      by-run fresh.1.0 fresh.1.1 fresh.0 (subst RunIs (sym run) (run-is kept))
