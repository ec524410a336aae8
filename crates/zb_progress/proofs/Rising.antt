-- How far the operations of a batch raise the versions of the files.
use Rattle.std.proofs.Common.{◌≡◌, ℕ, suc, ◌+◌, ◌-◌, ◌*◌, ◌<◌, ◌≤◌, Bool, true, false, eqb, List, [], ◌∷◌, length, Option, Some, None, refl, sym, ap, ◌∙◌, subst, arith}
use Rattle.std.specs.Prelude.{◌==◌, ◌||◌, ◌&&◌, IfOk, IsTrue, nat_le, nat_lt, not, Result, Ok, Err, IsSomeAnd}
use Rattle.std.specs.List.{AllByRecursion, list_all, list_any}
use Rattle.std.proofs.lemmas.Bool.{and_parts, cond_both}
use Rattle.std.proofs.lemmas.Bool.Decides.{nat_tests}
use Rattle.zb_types.specs.declared.calls.Call.{Call}
use Rattle.zb_types.specs.declared.calls.Refusal.{Refusal}
use Rattle.zb_types.specs.declared.calls.Reply.{Reply}
use Rattle.zb_types.specs.declared.ids.Fid.{Fid}
use Rattle.zb_types.specs.declared.ids.LogId.{LogId}
use Rattle.zb_types.specs.declared.ids.Piece.{Piece}
use Rattle.zb_types.specs.Apply.{max_file}
use Rattle.zb_types.specs.Keyed.{look, changed}
use Rattle.zb_types.specs.Limits.{most_kept}
use Rattle.zb_types.specs.Names.{Change, same, makes, drops, name_change, name_refusal}
use Rattle.zb_types.specs.Tree.{files_after}
use Rattle.zb_batch.specs.declared.batch.Op.{Op}
use Rattle.zb_batch.specs.declared.batch.Op.TheVariants as op
use Rattle.zb_batch.specs.Batches.{is_alone, is_company}
use Rattle.zb_tables.specs.Fold.{Files, Shelf, Stale, after_cut, after_write, and_then, committed, done_op, done_ops, named, new_file, resized, shelf_of, attached, ended, kept_logs, last_of, new_log, with_batch}
use Rattle.zb_tables.specs.Leaving.{IsOfUpdate}
use Rattle.zb_tables.specs.Tables.{EachFile, FileState, Tables, last_value, risen, LogState}
use Rattle.zb_tables.specs.Taking.{any_wears, is_worn, on_done, wears}
use Rattle.zb_tables.proofs.Alls.{all_filter, all_keyed, all_map, all_put, all_replaced}
use Rattle.zb_tables.proofs.Each.{each_look, each_map, each_put, each_replaced, each_without}
use Rattle.zb_progress.specs.Fresh.{MayRise, RoseBy}

-- no file is at a version above this
abbrev pub AtMost : ℕ → Files → Type 0
AtMost most files = EachFile (λ file. file.version ≤ most) files

raises : (most : ℕ) (files : Files) → AtMost most files → AtMost (most + 1) files
raises most files all = each_map (λ (f : FileState). f.version ≤ most) (λ (f : FileState). f.version ≤ most + 1) (λ f le. omega (arith, le)) files all

risen-most : (v most : ℕ) → v ≤ most → risen v ≤ most + 1
risen-most v most le = grind (arith, nat_tests)

-- ---- one operation

module _ (most : ℕ) (s : Shelf) (all : AtMost most s.files) where
  resized-rises : (fid : Fid) (version end : ℕ) (make : FileState → FileState) → ((file : FileState) → (make file).version ≡ risen file.version) → (o : Option FileState) → look fid.0 s.files ≡ o
      → IfOk (resized s fid version end make o) (λ next. AtMost (most + 1) next.files)
  resized-rises fid version end make up None there = raises most s.files all
  resized-rises fid version end make up (Some file) there =
      let here = each_look (λ (f : FileState). f.version ≤ most) s.files fid.0 file all there in
      let new : (make file).version ≤ most + 1 = subst (λ (v : ℕ). v ≤ most + 1) (sym (up file)) (risen-most file.version most here) in
      cond_both (eqb version file.version) _ _ (λ (r : Result Shelf Stale). IfOk r (λ next. AtMost (most + 1) next.files))
      (λ _. cond_both (nat_lt max_file end) _ _ (λ (r : Result Shelf Stale). IfOk r (λ next. AtMost (most + 1) next.files)) (λ _. raises most s.files all)
      (λ _. each_replaced (λ (f : FileState). f.version ≤ most + 1) s.files fid.0 (make file) (raises most s.files all) new))
      (λ _. tt)

  changed-rises : (change : Change) → AtMost (most + 1) (files_after new_file change s.files)
  changed-rises same = raises most s.files all
  changed-rises (makes number) = each_put (λ (f : FileState). f.version ≤ most + 1) s.files number new_file (raises most s.files all) (omega arith)
  changed-rises (drops number) = each_without (λ (f : FileState). f.version ≤ most + 1) s.files number (raises most s.files all)

  named-rises : (call : Call) (why : Option Refusal) → AtMost (most + 1) (named s call why).files
  named-rises call (Some why) = raises most s.files all
  named-rises call None = changed-rises (name_change s.names call)

  op-rises : (b : ℕ) (o : Op) → IsOfUpdate o → IfOk (done_op b s o) (λ next. AtMost (most + 1) next.files)
  op-rises b (op.Name m what) is = named-rises what (name_refusal s.names what)
  op-rises b (op.Write m fid version offset len deltas) is = resized-rises fid version (offset + len) (after_write (offset + len) deltas) (λ file. refl) (look fid.0 s.files) refl
  op-rises b (op.Cut m fid version size deltas) is = resized-rises fid version size (after_cut b size deltas) (λ file. refl) (look fid.0 s.files) refl
  op-rises b (op.Sync m) is = raises most s.files all
  op-rises b (op.Clean deltas) is = absurd is

  not-worn : (fid : Fid) (end : ℕ) → most < last_value → (o : Option FileState) → look fid.0 s.files ≡ o → is_worn end o ≡ false
  not-worn fid end lt None there = refl
  not-worn fid end lt (Some file) there =
      let here = each_look (λ (f : FileState). f.version ≤ most) s.files fid.0 file all there in
      below file.version end (omega (arith, here, lt)) where
        below : (v e : ℕ) → v < last_value → (v == last_value && nat_le e max_file) ≡ false
        below v e l = grind (arith, nat_tests)

  op-fresh : (o : Op) → IsOfUpdate o → most < last_value → wears s o ≡ false
  op-fresh (op.Name m what) is lt = refl
  op-fresh (op.Write m fid version offset len deltas) is lt = not-worn fid (offset + len) lt (look fid.0 s.files) refl
  op-fresh (op.Cut m fid version size deltas) is lt = not-worn fid size lt (look fid.0 s.files) refl
  op-fresh (op.Sync m) is lt = refl
  op-fresh (op.Clean deltas) is lt = refl

-- ---- all of them

module _ (b : ℕ) where
  fresh-behind : (os : List Op) (most : ℕ) (d : Result Shelf Stale) → IfOk d (λ next. AtMost most next.files) → ((next : Shelf) → AtMost most next.files → any_wears b os next ≡ false) → on_done (any_wears b os) d ≡ false
  fresh-behind os most (Ok next) all rest = rest next all
  fresh-behind os most (Err stale) all rest = refl

  -- none wears a version out
  pub none-wears : (os : List Op) (most : ℕ) (s : Shelf) → AllByRecursion IsOfUpdate os → AtMost most s.files → most + length os ≤ last_value → any_wears b os s ≡ false
  none-wears [] most s are all le = refl
  none-wears (o ∷ os) most s are all le =
      ap (λ (t : Bool). t || on_done (any_wears b os) (done_op b s o)) (op-fresh most s all o are.0 (omega arith))
      ∙ fresh-behind os (most + 1) (done_op b s o) (op-rises most s all b o are.0) (λ next more. none-wears os (most + 1) next are.1 more (omega arith))

  rises-behind : (os : List Op) (most end : ℕ) (d : Result Shelf Stale) → IfOk d (λ next. AtMost most next.files)
      → ((next : Shelf) → AtMost most next.files → IfOk (done_ops b os next) (λ after. AtMost end after.files)) → IfOk (and_then d (done_ops b os)) (λ after. AtMost end after.files)
  rises-behind os most end (Ok next) all rest = rest next all
  rises-behind os most end (Err stale) all rest = tt

  -- they raise a version by at most as many as they are
  pub ops-rise : (os : List Op) (most : ℕ) (s : Shelf) → AllByRecursion IsOfUpdate os → AtMost most s.files → IfOk (done_ops b os s) (λ after. AtMost (most + length os) after.files)
  ops-rise [] most s are all = each_map (λ (f : FileState). f.version ≤ most) (λ (f : FileState). f.version ≤ most + 0) (λ f le. omega (arith, le)) s.files all
  ops-rise (o ∷ os) most s are all =
      rises-behind os (most + 1) (most + length (o ∷ os)) (done_op b s o) (op-rises most s all b o are.0)
      (λ next more. same-most os next (ops-rise os (most + 1) next are.1 more)) where
        same-most : (os : List Op) (next : Shelf) → IfOk (done_ops b os next) (λ after. AtMost (most + 1 + length os) after.files) → IfOk (done_ops b os next) (λ after. AtMost (most + suc (length os)) after.files)
        same-most os next h = let e : most + 1 + length os ≡ most + suc (length os) = omega arith in subst (λ (n : ℕ). IfOk (done_ops b os next) (λ after. AtMost n after.files)) e h

-- a batch has at most eight operations
pub company-few : (os : List Op) → IsTrue (is_company os) → length os ≤ most_kept
company-few [] t = omega arith
company-few (o ∷ []) t = omega arith
company-few (o ∷ (next ∷ others)) t = let few = (and_parts (nat_le (length (o ∷ (next ∷ others))) 8) (list_all (λ o. not (is_alone o)) (o ∷ (next ∷ others))) t).0 in grind (arith, nat_tests, few)

-- no version is near its last value
pub room-most : (t : Tables) → MayRise t → AtMost (last_value - most_kept) t.files
room-most t may = each_map (λ (f : FileState). f.version + most_kept ≤ last_value) (λ (f : FileState). f.version ≤ last_value - most_kept) (λ f le. omega (arith, le)) t.files may.versions

-- ---- the numbers of the tables

pub may-rise : (n : ℕ) (t : Tables) → RoseBy n t → most_kept * n + most_kept ≤ last_value → MayRise t
may-rise n t rose le = record {
  versions = each_map (λ (f : FileState). f.version ≤ most_kept * n) (λ (f : FileState). f.version + most_kept ≤ last_value) (λ f low. omega (arith, low, le)) t.files rose.versions;
  batches = all_map (λ (e : ℕ × LogState). e.1.batch ≤ n) (λ (e : ℕ × LogState). e.1.batch < last_value) (λ e low. omega (arith, low, le)) t.logs rose.batches;
  entry = let low = rose.entry in omega (arith, low, le);
}

-- no log has a batch above this
abbrev BatchesAtMost : ℕ → List (ℕ × LogState) → Type 0
BatchesAtMost most logs = AllByRecursion (λ e. e.1.batch ≤ most) logs

batches-later : (n : ℕ) (logs : List (ℕ × LogState)) → BatchesAtMost n logs → BatchesAtMost (n + 1) logs
batches-later n logs all = all_map (λ (e : ℕ × LogState). e.1.batch ≤ n) (λ (e : ℕ × LogState). e.1.batch ≤ n + 1) (λ e le. omega (arith, le)) logs all

versions-later : (n : ℕ) (files : Files) → AtMost (most_kept * n) files → AtMost (most_kept * (n + 1)) files
versions-later n files all = each_map (λ (f : FileState). f.version ≤ most_kept * n) (λ (f : FileState). f.version ≤ most_kept * (n + 1)) (λ f le. omega (arith, le)) files all

ended-batch : (owner : ℕ) (l : LogState) → (ended owner l).batch ≡ l.batch
ended-batch owner l = cond_both (l.owner == owner) (record l { live = false }) l (λ (x : LogState). x.batch ≡ l.batch) (λ _. refl) (λ _. refl)

batches-ended : (n owner : ℕ) (logs : List (ℕ × LogState)) → BatchesAtMost n logs → BatchesAtMost n (changed (ended owner) logs)
batches-ended n owner [] all = tt
batches-ended n owner (e ∷ es) all = (subst (λ (m : ℕ). m ≤ n) (sym (ended-batch owner e.1)) all.0, batches-ended n owner es all.1)

pub attach-rises : (n owner : ℕ) (t : Tables) (log : LogId) → RoseBy n t → RoseBy (n + 1) (attached t owner log)
attach-rises n owner t log rose = record {
  versions = versions-later n t.files rose.versions;
  batches =
      all_put (λ (e : ℕ × LogState). e.1.batch ≤ n + 1) log.0 (new_log owner) (omega arith) (kept_logs t.held (changed (ended owner) t.logs))
      (all_filter (λ e. e.1.live || list_any (λ h. h.log.0 == e.0) t.held) (λ (e : ℕ × LogState). e.1.batch ≤ n) (λ (e : ℕ × LogState). e.1.batch ≤ n + 1) (λ e keep le. omega (arith, le))
      (changed (ended owner) t.logs) (batches-ended n owner t.logs rose.batches));
  entry = risen-most t.next_entry n rose.entry;
}

-- the next batch of a log
next-most : (n number : ℕ) (logs : List (ℕ × LogState)) (id : ℕ) → BatchesAtMost n logs → IsSomeAnd (look id logs) (λ (l : LogState). (l.live ≡ true) × (number ≡ l.batch + 1)) → number ≤ n + 1
next-most n number logs id all next = by (look id logs) refl next where
  by : (o : Option LogState) → look id logs ≡ o → IsSomeAnd o (λ (l : LogState). (l.live ≡ true) × (number ≡ l.batch + 1)) → number ≤ n + 1
  by None at next = absurd next
  by (Some l) at next = let low = all_keyed (λ (e : ℕ × LogState). e.1.batch ≤ n) id l logs all at in let is = next.1 in omega (arith, low, is)

pub number-low : (number : ℕ) (logs : List (ℕ × LogState)) (id : ℕ) → AllByRecursion (λ e. e.1.batch < last_value) logs
    → IsSomeAnd (look id logs) (λ (l : LogState). (l.live ≡ true) × (number ≡ l.batch + 1)) → number ≤ last_value
number-low number logs id all next =
    let below = next-most (last_value - 1) number logs id (all_map (λ (e : ℕ × LogState). e.1.batch < last_value) (λ (e : ℕ × LogState). e.1.batch ≤ last_value - 1) (λ e lt. omega (arith, lt)) logs all) next in
    omega (arith, below)

batches-with : (n number : ℕ) (log : LogId) (pieces : List Piece) (replies : List Reply) (logs : List (ℕ × LogState)) → number ≤ n → BatchesAtMost n logs → (o : Option LogState)
    → BatchesAtMost n (with_batch log number pieces replies logs o)
batches-with n number log pieces replies logs le all None = all
batches-with n number log pieces replies logs le all (Some l) =
    all_replaced (λ (e : ℕ × LogState). e.1.batch ≤ n) log.0 (record l { batch = number; replies = replies; last = last_of l.last pieces }) le logs all

pub commit-rises : (n b id number : ℕ) (t : Tables) (log : LogId) (pieces : List Piece) (os : List Op) (after : Shelf) → AllByRecursion IsOfUpdate os → IsTrue (is_company os)
    → IsSomeAnd (look id t.logs) (λ (l : LogState). (l.live ≡ true) × (number ≡ l.batch + 1)) → done_ops b os (shelf_of t) ≡ Ok after → RoseBy n t → RoseBy (n + 1) (committed t log number pieces after)
commit-rises n b id number t log pieces os after are company next done rose =
    let few = company-few os company in
    let all : AtMost (most_kept * n + length os) after.files =
    subst (λ (d : Result Shelf Stale). IfOk d (λ a. AtMost (most_kept * n + length os) a.files)) done (ops-rise b os (most_kept * n) (shelf_of t) are rose.versions) in
    record {
      versions = each_map (λ (f : FileState). f.version ≤ most_kept * n + length os) (λ (f : FileState). f.version ≤ most_kept * (n + 1)) (λ f le. omega (arith, le, few)) after.files all;
      batches = batches-with (n + 1) number log pieces after.replies t.logs (next-most n number t.logs id rose.batches next) (batches-later n t.logs rose.batches) (look log.0 t.logs);
      entry = risen-most t.next_entry n rose.entry;
    }
