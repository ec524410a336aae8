-- Lookups stay current.
use Rattle.std.proofs.Common.{◌≡◌, ◌⊎◌, ℕ, ◌+◌, ◌≤◌, ◌<◌, false, eqb, List, [], ◌∷◌, take, drop, Option, Some, None, refl, sym, ap, ◌∙◌, subst, inl, inr, arith}
use Rattle.std.proofs.lemmas.Nat.{div-mul-add, mod-mul-add}
use Rattle.std.specs.Prelude.{◌*◌, ◌%◌, slice_index, Result, Ok, Err, IfOk, IsSomeAnd, nat_lt}
use Rattle.std.specs.List.{AllByRecursion}
use Rattle.std.proofs.lemmas.Bool.{cases_eq, cond_both}
use Rattle.std.proofs.lemmas.Bool.Decides.{nat_tests}
use Rattle.std.proofs.lemmas.Option.{none-some, same_Some}
use Rattle.zb_types.specs.declared.ids.Fid.{Fid}
use Rattle.zb_types.specs.declared.ids.Ptr.{Ptr}
use Rattle.zb_types.specs.declared.calls.Call.{Call}
use Rattle.zb_types.specs.declared.calls.Call.TheVariants.{Create, Mkdir, Remove, Rename, Write as WriteCall, Truncate, Sync as SyncCall, Read, List as ListOf, Stat, Find}
use Rattle.zb_types.specs.declared.calls.Refusal.{Refusal}
use Rattle.zb_types.specs.declared.tables.Found.{Found}
use Rattle.zb_types.specs.declared.tables.HeldUse.{HeldUse}
use Rattle.zb_types.specs.Keyed.{look}
use Rattle.zb_types.specs.Names.{Names, name_refusal}
use Rattle.zb_types.specs.Apply.{max_file}
use Rattle.zb_delta.specs.declared.delta.Delta.{Delta}
use Rattle.zb_batch.specs.declared.batch.Op.{Op}
use Rattle.zb_batch.specs.declared.batch.Op.TheVariants.{Name, Write, Cut, Sync, Clean}
use Rattle.zb_tables.specs.Tables.{Contents, FileState, SameIn, Tables, block_byte, bytes_at, file_byte, shown_bytes, EachFile, EndsInFile, IsCommitted, PointsIn, last_value}
use Rattle.zb_tables.specs.Fold.{Shelf, Stale, after_cut, after_write, all_moved, and_then, committed, done_op, done_ops, named, resized, shelf_of}
use Rattle.zb_tables.specs.Finding.{among, found, found_in}
use Rattle.zb_tables.specs.Leaving.{HasCopies, IsOfUpdate}
use Rattle.zb_tables.specs.Looking.{SameBlock}
use Rattle.zb_tables.specs.Pointing.{AllCopies}
use Rattle.zb_tables.specs.Taking.{any_wears}
use Rattle.zb_tables.proofs.Blocks.{byte_shown, length-first}
use Rattle.zb_tables.proofs.Each.{each_look}
use Rattle.zb_tables.proofs.Growing.{same_bytes}
use Rattle.zb_tables.proofs.Lookups.{block_same, clean_left, clean_none, clean_same}
use Rattle.zb_tables.proofs.Versions.{ops_gone, ops_leave}
use Rattle.zb_sound.specs.LookupsCurrent.{AreFetched, FileIs, IsCurrentFile, LookupIsCurrent, SameFound, ShowsFile}

-- ---- the number of the next file never falls

abbrev NextOn : Names → Shelf → Type 0
NextOn names t = names.next ≤ t.names.next

named_next : (s : Shelf) (call : Call) (why : Option Refusal) → NextOn s.names (named s call why)
named_next s call (Some why) = omega arith
named_next s (Create path) None = omega arith
named_next s (Mkdir path) None = omega arith
named_next s (Remove path) None = omega arith
named_next s (Rename from to) None = omega arith
named_next s (WriteCall fid offset bytes) None = omega arith
named_next s (Truncate fid size) None = omega arith
named_next s SyncCall None = omega arith
named_next s (Read fid offset len) None = omega arith
named_next s (ListOf path) None = omega arith
named_next s (Stat path) None = omega arith
named_next s (Find path) None = omega arith

resized_next : (s : Shelf) (fid : Fid) (version end : ℕ) (new : FileState → FileState) (o : Option FileState) → IfOk (resized s fid version end new o) (NextOn s.names)
resized_next s fid version end new None = omega arith
resized_next s fid version end new (Some file) =
    cond_both (eqb version file.version) _ _ (λ (r : Result Shelf Stale). IfOk r (NextOn s.names))
    (λ _. cond_both (nat_lt max_file end) _ _ (λ (r : Result Shelf Stale). IfOk r (NextOn s.names)) (λ _. omega arith) (λ _. omega arith))
    (λ _. tt)

op_next : (b : ℕ) (s : Shelf) (o : Op) → IfOk (done_op b s o) (NextOn s.names)
op_next b s (Name call what) = named_next s what (name_refusal s.names what)
op_next b s (Write call fid version offset len deltas) = resized_next s fid version (offset + len) (after_write (offset + len) deltas) (look fid.0 s.files)
op_next b s (Cut call fid version size deltas) = resized_next s fid version size (after_cut b size deltas) (look fid.0 s.files)
op_next b s (Sync call) = omega arith
op_next b s (Clean deltas) = omega arith

weaker : (low high : Names) (r : Result Shelf Stale) → low.next ≤ high.next → IfOk r (NextOn high) → IfOk r (NextOn low)
weaker low high (Err stale) le on = tt
weaker low high (Ok t) le on = omega arith

ops_next : (b : ℕ) (ops : List Op) (s : Shelf) → IfOk (done_ops b ops s) (NextOn s.names)
ops_next b [] s = omega arith
ops_next b (o ∷ os) s = step (done_op b s o) (op_next b s o) (λ t. ops_next b os t) where
  step : (done : Result Shelf Stale) → IfOk done (NextOn s.names) → ((t : Shelf) → IfOk (done_ops b os t) (NextOn t.names)) → IfOk (and_then done (done_ops b os)) (NextOn s.names)
  step (Err stale) on rest = tt
  step (Ok t) on rest = weaker s.names t.names (done_ops b os t) on (rest t)

-- what holds where all went well holds of what was left
pub opened : (r : Result Shelf Stale) (after : Shelf) (P : Shelf → Type 0) → r ≡ Ok after → IfOk r P → P after
opened r after P e all = subst (λ (q : Result Shelf Stale). IfOk q P) e all

-- ---- a lookup as it is answered

look-among : (first count k : ℕ) (es : List (ℕ × Ptr)) → first ≤ k → k < first + count → look k (among first count es) ≡ look k es
look-among first count k [] low high = refl
look-among first count k (e ∷ es) low high = elim (cases_eq e.0 k) as (λ _. look k (among first count (e ∷ es)) ≡ look k (e ∷ es)) [
  | inl here ↦ grind (arith, nat_tests)
  | inr other ↦ grind (arith, nat_tests, look-among first count k es low high)
]

pub answered_current : (contents : Contents) (t : Tables) (fid first count : ℕ) → ((file : FileState) → look fid t.files ≡ Some file → fid < t.names.next)
    → LookupIsCurrent contents t fid first count (found t fid first count)
answered_current contents t fid first count given some = by (look fid t.files) refl some where
  by : (o : Option FileState) → look fid t.files ≡ o → 1 ≤ (found_in t.members first count o).version → IsCurrentFile contents t fid first count (found_in t.members first count o)
  by None e some = absurd (omega arith)
  by (Some f) e some = record {
    given = given f e;
    rises = λ file at. let version = ap (λ (g : FileState). g.version) (same_Some f file (sym e ∙ at)) in omega arith;
    same = λ file at v. subst (FileIs contents first count (found_in t.members first count (Some f))) (same_Some f file (sym e ∙ at)) (record {
      length = refl;
      blocks = λ k low high. subst (SameBlock contents (look k (among first count f.blocks))) (look-among first count k f.blocks low high) (block_same contents (look k (among first count f.blocks)));
    });
  }

-- ---- contents grow

block_moves : (contents new : Contents) (o q : Option Ptr) → ((p : Ptr) → o ≡ Some p → bytes_at contents p ≡ bytes_at new p) → ((p : Ptr) → q ≡ Some p → bytes_at contents p ≡ bytes_at new p)
    → SameBlock contents o q → SameBlock new o q
block_moves contents new None None f g s = tt
block_moves contents new (Some p) (Some q) f g s = (sym (f p refl) ∙ s.0 ∙ g q refl, s.1)
block_moves contents new None (Some q) f g s = absurd s
block_moves contents new (Some p) None f g s = absurd s

module _ (t : Tables) (fid first count : ℕ) (found : Found) where
  pub grown_current : (contents new : Contents) → SameFound contents new found → SameIn t.held contents new → EachFile (PointsIn t.held) t.files
      → LookupIsCurrent contents t fid first count found → LookupIsCurrent new t fid first count found
  grown_current contents new looked same points w some =
      let c = w some in
      record {
        given = c.given;
        rises = c.rises;
        same = λ file at v.
            let is = c.same file at v in
            let own = each_look (PointsIn t.held) t.files fid file points at in
            record {
              length = is.length;
              blocks = λ k low high. block_moves contents new (look k found.blocks) (look k file.blocks) (looked k) (λ p e. same_bytes t.held contents new same p (own k p e).1) (is.blocks k low high);
            };
      }

  -- ---- a commit

  module _ (contents : Contents) (w : LookupIsCurrent contents t fid first count found) (some : 1 ≤ found.version) where
    abbrev Now : IsCurrentFile contents t fid first count found
    Now = w some

    module _ (b : ℕ) (ops : List Op) (after : Shelf) (e : done_ops b ops (shelf_of t) ≡ Ok after) (are : AllByRecursion IsOfUpdate ops) (worn : any_wears b ops (shelf_of t) ≡ false)
        (most : (file : FileState) → look fid t.files ≡ Some file → file.version ≤ last_value) where
      -- a file that is there behind the batch was there before it
      was_there : (file : FileState) → look fid after.files ≡ Some file → (old : FileState) × (look fid t.files ≡ Some old)
      was_there file at = by (look fid t.files) refl where
        by : (o : Option FileState) → look fid t.files ≡ o → (old : FileState) × (look fid t.files ≡ Some old)
        by (Some old) is = (old, is)
        by None is = absurd (none-some file (sym (ops_gone fid b (shelf_of t) after ops are worn e Now.given is) ∙ at))

      left : (file old : FileState) → look fid after.files ≡ Some file → look fid t.files ≡ Some old → (file ≡ old) ⊎ (old.version < file.version)
      left file old at is = ops_leave fid b (shelf_of t) after ops old file are worn e Now.given (most old is) is at

      rises_on : (file old : FileState) → found.version ≤ old.version → (file ≡ old) ⊎ (old.version < file.version) → found.version ≤ file.version
      rises_on file old le (inl same) = let v = ap (λ (f : FileState). f.version) same in omega arith
      rises_on file old le (inr later) = omega arith

      same_on : (file old : FileState) → look fid t.files ≡ Some old → file.version ≡ found.version → (file ≡ old) ⊎ (old.version < file.version) → FileIs contents first count found file
      same_on file old is v (inl same) =
          subst (FileIs contents first count found) (sym same) (Now.same old is (ap (λ (f : FileState). f.version) (sym same) ∙ v))
      same_on file old is v (inr later) = let low = Now.rises old is in absurd (omega arith)

      pub updates_current : IsCurrentFile contents (record t { names = after.names; files = after.files }) fid first count found
      updates_current = record {
        given = let lt = Now.given in let on = opened (done_ops b ops (shelf_of t)) after (NextOn t.names) e (ops_next b ops (shelf_of t)) in omega arith;
        rises = λ file at. let old = was_there file at in rises_on file old.0 (Now.rises old.0 old.1) (left file old.0 at old.1);
        same = λ file at v. let old = was_there file at in same_on file old.0 old.1 v (left file old.0 at old.1);
      }

    module _ (deltas : List Delta) (copies : AllCopies contents deltas) where
      copied : (file old : FileState) → look fid (all_moved deltas t.files) ≡ Some file → look fid t.files ≡ Some old → HasCopies contents old file
      copied file old at is = subst (λ (o : Option FileState). IsSomeAnd o (HasCopies contents old)) at (clean_left contents deltas t.files fid old copies is)

      copies_there : (file : FileState) → look fid (all_moved deltas t.files) ≡ Some file → (old : FileState) × (look fid t.files ≡ Some old)
      copies_there file at = by (look fid t.files) refl where
        by : (o : Option FileState) → look fid t.files ≡ o → (old : FileState) × (look fid t.files ≡ Some old)
        by (Some old) is = (old, is)
        by None is = absurd (none-some file (sym (clean_none deltas t.files fid is) ∙ at))

      pub copies_current : IsCurrentFile contents (record t { files = all_moved deltas t.files }) fid first count found
      copies_current = record {
        given = Now.given;
        rises = λ file at. let old = copies_there file at in let has = copied file old.0 at old.1 in let low = Now.rises old.0 old.1 in let v = has.version in omega arith;
        same = λ file at v.
            let old = copies_there file at in
            let has = copied file old.0 at old.1 in
            let is = Now.same old.0 old.1 (sym has.version ∙ v) in
            record { length = has.length ∙ is.length; blocks = λ k low high. clean_same contents k found.blocks old.0 file has (is.blocks k low high) };
      }

  -- names and files are as before
  pub beside_current : (contents : Contents) (new : Tables) → new.names ≡ t.names → new.files ≡ t.files → LookupIsCurrent contents t fid first count found → LookupIsCurrent contents new fid first count found
  beside_current contents new names files w some =
      let c = w some in
      record {
        given = subst (λ (n : Names). fid < n.next) (sym names) c.given;
        rises = λ file at. c.rises file (ap (look fid) (sym files) ∙ at);
        same = λ file at v. c.same file (ap (look fid) (sym files) ∙ at) v;
      }

pub fetched_stay : (contents new : Contents) (blocks : List (Ptr × List ℕ)) → AllByRecursion (λ (e : Ptr × List ℕ). bytes_at contents e.0 ≡ bytes_at new e.0) blocks → AreFetched contents blocks → AreFetched new blocks
fetched_stay contents new [] same are = tt
fetched_stay contents new (e ∷ es) same are = (are.0 ∙ same.0, fetched_stay contents new es same.1 are.1)

pub pointer_stays : (contents new : Contents) (held : List HeldUse) (p : Ptr) → SameIn held contents new → IsCommitted held p ⊎ (new p.log p.stripe ≡ contents p.log p.stripe) → bytes_at contents p ≡ bytes_at new p
pointer_stays contents new held p same (inl committed) = same_bytes held contents new same p committed
pointer_stays contents new held p same (inr stays) = ap (λ (bytes : List ℕ). take p.len (drop p.offset bytes)) (sym stays)

-- ---- what a lookup shows

shown_form : (b : ℕ) (contents : Contents) (first count : ℕ) (found : Found) (file : FileState) → 0 < b → EndsInFile b file → found.length ≡ file.length
    → ((k : ℕ) → first ≤ k → k < first + count → look k found.blocks ≡ look k file.blocks) → ShowsFile b contents first count found (shown_bytes b contents file)
shown_form b contents first count found file pos ends long same = record {
  length_is = long ∙ sym (length-first file.length (file_byte b contents file));
  blocks = λ k y low high lt.
      ap (λ (o : Option Ptr). block_byte contents o y) (same k low high)
      ∙ sym (byte_shown b pos contents file ends (k * b + y) ∙ ap (λ (j : ℕ). block_byte contents (look j file.blocks) ((k * b + y) % b)) (div-mul-add k b y lt)
      ∙ ap (block_byte contents (look k file.blocks)) (mod-mul-add k b y lt));
}

pub answered_shows : (b : ℕ) (contents : Contents) (t : Tables) (fid first count : ℕ) (file : FileState) → 0 < b → EachFile (EndsInFile b) t.files → look fid t.files ≡ Some file
    → ShowsFile b contents first count (found t fid first count) (shown_bytes b contents file)
answered_shows b contents t fid first count file pos ends at =
    subst (λ (o : Option FileState). ShowsFile b contents first count (found_in t.members first count o) (shown_bytes b contents file)) (sym at)
    (shown_form b contents first count (found_in t.members first count (Some file)) file pos (each_look (EndsInFile b) t.files fid file ends at) refl
    (λ k low high. look-among first count k file.blocks low high))

block_same_byte : (contents new : Contents) (o : Option Ptr) (y : ℕ) → ((p : Ptr) → o ≡ Some p → bytes_at contents p ≡ bytes_at new p) → block_byte new o y ≡ block_byte contents o y
block_same_byte contents new None y same = refl
block_same_byte contents new (Some p) y same = ap (λ (bytes : List ℕ). slice_index bytes y) (sym (same p refl))

pub grown_shows : (b : ℕ) (contents new : Contents) (first count : ℕ) (found : Found) (bytes : List ℕ) → SameFound contents new found → ShowsFile b contents first count found bytes → ShowsFile b new first count found bytes
grown_shows b contents new first count found bytes same s = record {
  length_is = s.length_is;
  blocks = λ k y low high lt. block_same_byte contents new (look k found.blocks) y (same k) ∙ s.blocks k y low high lt;
}
