-- The operations of a batch whose lookups are at the versions of the tables: none is stale, and none wears a version out.
use Rattle.std.proofs.Common.{◌≡◌, ℕ, zero, suc, ◌+◌, ◌-◌, ◌%◌, ◌<◌, ◌≤◌, Bool, true, false, eqb, List, [], ◌∷◌, length, map, Option, Some, None, refl, sym, ap, ◌∙◌, subst, inl, inr, arith}
use Rattle.std.specs.Prelude.{◌==◌, ◌||◌, ◌&&◌, is_some, nat_le, nat_lt, if◌then◌else◌, Result, Ok, Err}
use Rattle.std.specs.List.{AllByRecursion}
use Rattle.std.proofs.lemmas.Bool.{and_parts, cond_both, eqb-true, false≢true, ltb-false, ltb-true}
use Rattle.std.proofs.lemmas.Bool.Decides.{nat_tests}
use Rattle.std.proofs.lemmas.Option.{none-some}
use Rattle.zb_types.specs.declared.ids.Fid.{Fid}
use Rattle.zb_types.specs.declared.ids.Ptr.{Ptr}
use Rattle.zb_types.specs.declared.calls.Call.{Call}
use Rattle.zb_types.specs.declared.calls.Call.TheVariants.{Create, Mkdir, Remove, Rename, Write, Truncate, Sync, Read, List as ListOf, Stat, Find}
use Rattle.zb_types.specs.declared.calls.Reply.TheVariants.{Done, Refused}
use Rattle.zb_types.specs.declared.calls.Refusal.TheVariants.{Gone, TooBig}
use Rattle.zb_types.specs.declared.nodes.Members.{Members}
use Rattle.zb_types.specs.declared.tables.Found.{Found}
use Rattle.zb_types.specs.Apply.{max_file}
use Rattle.zb_types.specs.Keyed.{look, replaced}
use Rattle.zb_types.specs.Limits.{most_kept}
use Rattle.zb_types.specs.Names.{name_refusal}
use Rattle.zb_types.proofs.KeyedLists.{look-replaced_same, look-replaced_other}
use Rattle.zb_delta.specs.declared.delta.Delta.{Delta}
use Rattle.zb_batch.specs.declared.batch.Op.{Op}
use Rattle.zb_batch.specs.declared.batch.Op.TheVariants as op
use Rattle.zb_tables.specs.Tables.{FileState, Tables, last_value, risen}
use Rattle.zb_tables.specs.Finding.{found_in}
use Rattle.zb_tables.specs.Fold.{Files, Shelf, Stale, after_cut, after_write, and_then, done_op, done_ops, named, replied, resized, shelf_of, with_file as with_state}
use Rattle.zb_tables.specs.Checkpoint.{AreTables}
use Rattle.zb_tables.specs.Taking.{Sizes, any_wears, is_worn, on_done, wears}
use Rattle.zb_tables.proofs.Each.{each_look}
use Rattle.zb_sound.proofs.Saying.{file_form}
use Rattle.zb_basis.specs.declared.basis.Basis.{Basis}
use Rattle.zb_basis.specs.declared.asks.Ask.{Ask}
use Rattle.zb_basis.specs.declared.calls.Numbered.{Numbered}
use Rattle.zb_basis.specs.Looking.{ask_of, ask_range, ask_to, asks_of, end_of}
use Rattle.zb_basis.specs.Operations.{Bytes, Changed, after_op, blocks_in, is_done, new_of, or_before, unchanged, version_now, with_file, OpIs as OpMeans, OpsAre as OpsMean}
use Rattle.zb_basis.specs.Runs.{company, is_alone, run_of}
use Rattle.zb_forming_laws.proofs.Tracking.{done-false, done-true}
use Rattle.zb_forming_laws.proofs.Updating.{RunIs, run-is}
use Rattle.zb_client_laws.specs.Effects.{founds}
use Rattle.zb_progress.specs.Fresh.{MayRise, same_numbers, versions_of}

-- ---- versions

-- the version of a file, 0 where there is none
abbrev pub version_of : Option FileState → ℕ
version_of None = 0
version_of (Some file) = file.version

version-found : (members : Members) (first count : ℕ) (o : Option FileState) → (found_in members first count o).version ≡ version_of o
version-found members first count None = refl
version-found members first count (Some file) = refl

range-fid : (b : ℕ) (fid : Fid) (from to : ℕ) → (ask_range b fid from to).fid ≡ fid
range-fid b fid from to = cond_both (nat_le to from) _ _ (λ (x : Ask). x.fid ≡ fid) (λ _. refl) (λ _. refl)

to-fid : (b : ℕ) (fid : Fid) (from : ℕ) (end : Option ℕ) → (ask_to b fid from end).fid ≡ fid
to-fid b fid from None = range-fid b fid 0 0
to-fid b fid from (Some to) = range-fid b fid from to

-- the numbers of two lists that are the same
pub numbers-same : (xs ys : List ℕ) → same_numbers xs ys ≡ true → xs ≡ ys
numbers-same [] [] e = refl
numbers-same [] (y ∷ ys) e = absurd (false≢true e)
numbers-same (x ∷ xs) [] e = absurd (false≢true e)
numbers-same (x ∷ xs) (y ∷ ys) e =
    let both = and_parts (eqb x y) (same_numbers xs ys) e in
    ap (λ (n : ℕ). n ∷ xs) (eqb-true x y both.0) ∙ ap (λ (ns : List ℕ). y ∷ ns) (numbers-same xs ys both.1)

and-first : (t u : Bool) → t ≡ true → u ≡ true → (t && u) ≡ true
and-first true u e f = f
and-first false u e f = absurd (false≢true e)

same-self : (x y : ℕ) → x ≡ y → eqb x y ≡ true
same-self x y e = grind (arith, nat_tests)

pub same-numbers : (xs : List ℕ) → same_numbers xs xs ≡ true
same-numbers [] = refl
same-numbers (x ∷ xs) = and-first (eqb x x) (same_numbers xs xs) (same-self x x refl) (same-numbers xs)

-- ---- files that were raised

-- a file that was there was raised so often, and none came
abbrev pub Raised : Option FileState → ℕ → Option FileState → Type 0
Raised None rose now = now ≡ None
Raised (Some was) rose None = ⊥
Raised (Some was) rose (Some now) = now.version ≡ was.version + rose

-- the files are the first ones, each raised so often, and at most n times
pub record Follows (first : Files) (rose : ℕ → ℕ) (n : ℕ) (files : Files) : Type 0 where
  each : (k : ℕ) → Raised (look k first) (rose k) (look k files)
  few : (k : ℕ) → rose k ≤ n

-- a file has a version, which may rise by eight
pub record HasRoom (file : FileState) : Type 0 where
  some : 1 ≤ file.version
  most : file.version + most_kept ≤ last_value

abbrev pub AllRoom : Files → Type 0
AllRoom first = (k : ℕ) (file : FileState) → look k first ≡ Some file → HasRoom file

-- an operation is done, wears nothing out, and leads to the files that the client counts with
pub record Goes (b : ℕ) (first : Files) (n : ℕ) (changed : Changed) (s : Shelf) (o : Op) : Type 0 where
  next : Shelf
  is : done_op b s o ≡ Ok next
  fresh : wears s o ≡ false
  follows : Follows first changed.rose n next.files

module _ (first : Files) (room : AllRoom first) (s : Shelf) (changed : Changed) (n : ℕ) (small : n < most_kept) (follows : Follows first changed.rose n s.files)
    (fid : Fid) (version end : ℕ) (make : FileState → FileState) (moved : ℕ → Option (Option Ptr)) (found : Found)
    (rises : (file : FileState) → (make file).version ≡ risen file.version)
    (is_version : version ≡ version_now changed found fid) (looked : found.version ≡ version_of (look fid.0 first)) where
  abbrev After : Changed
  After = if is_done version end then with_file changed fid moved else changed

  record Made (o : Option FileState) : Type 0 where
    next : Shelf
    is : resized s fid version end make o ≡ Ok next
    fresh : is_worn end o ≡ false
    leaves : Follows first After.rose (n + 1) next.files

  kept : (files : Files) → files ≡ s.files → is_done version end ≡ false → Follows first After.rose (n + 1) files
  kept files e none =
      subst (λ (fs : Files). Follows first After.rose (n + 1) fs) (sym e)
      (subst (λ (t : Bool). Follows first (if t then with_file changed fid moved else changed).rose (n + 1) s.files) (sym none)
      (record { each = follows.each; few = λ k. let f = follows.few k in omega arith }))

  gone : (p : Option FileState) → look fid.0 first ≡ p → Raised p (changed.rose fid.0) None → version ≡ 0
  gone None at r =
      let zero_found : found.version ≡ 0 = looked ∙ ap version_of at in
      is_version ∙ ap (λ (v : ℕ). if v == 0 then 0 else v + changed.rose fid.0) zero_found
  gone (Some was) at r = absurd r

  raised-file : (file : FileState) → look fid.0 s.files ≡ Some file → (make file).version ≡ file.version + 1
      → (was : FileState) → look fid.0 first ≡ Some was → file.version ≡ was.version + changed.rose fid.0 → Follows first (with_file changed fid moved).rose (n + 1) (replaced fid.0 (make file) s.files)
  raised-file file there up was at v = record { each = each-by; few = few-by } where
    each-by : (k : ℕ) → Raised (look k first) (if k == fid.0 then changed.rose k + 1 else changed.rose k) (look k (replaced fid.0 (make file) s.files))
    each-by k = by (k == fid.0) refl where
      here : Raised (look fid.0 first) (changed.rose fid.0 + 1) (look fid.0 (replaced fid.0 (make file) s.files))
      here =
          subst (λ (p : Option FileState). Raised p (changed.rose fid.0 + 1) (look fid.0 (replaced fid.0 (make file) s.files))) (sym at)
          (subst (Raised (Some was) (changed.rose fid.0 + 1)) (sym (look-replaced_same fid.0 (make file) s.files (ap is_some there))) (omega arith))

      by : (t : Bool) → (k == fid.0) ≡ t → Raised (look k first) (if t then changed.rose k + 1 else changed.rose k) (look k (replaced fid.0 (make file) s.files))
      by true e = subst (λ (j : ℕ). Raised (look j first) (changed.rose j + 1) (look j (replaced fid.0 (make file) s.files))) (sym (eqb-true k fid.0 e)) here
      by false e = subst (Raised (look k first) (changed.rose k)) (sym (look-replaced_other k fid.0 (make file) s.files (λ same. absurd (grind (arith, nat_tests))))) (follows.each k)

    few-by : (k : ℕ) → (if k == fid.0 then changed.rose k + 1 else changed.rose k) ≤ n + 1
    few-by k = let f = follows.few k in cond_both (k == fid.0) (changed.rose k + 1) (changed.rose k) (λ (m : ℕ). m ≤ n + 1) (λ _. omega arith) (λ _. omega arith)

  -- what a change at a file's own version comes to
  at-version : (file : FileState) → version ≡ file.version
      → resized s fid version end make (Some file) ≡ (if nat_lt max_file end then Ok (replied s (Refused TooBig)) else Ok (with_state s fid (make file)))
  at-version file e = by (eqb version file.version) (is-same version file.version e) where
    is-same : (v u : ℕ) → v ≡ u → eqb v u ≡ true
    is-same v u e = grind (arith, nat_tests)

    Small : Result Shelf Stale
    Small = if nat_lt max_file end then Ok (replied s (Refused TooBig)) else Ok (with_state s fid (make file))

    by : (t : Bool) → t ≡ true → (if t then Small else Err (record { fid = fid; seen = version; now = file.version })) ≡ Small
    by true e = refl
    by false e = absurd (false≢true e)

  there-goes : (file : FileState) → look fid.0 s.files ≡ Some file → (was : FileState) → look fid.0 first ≡ Some was → file.version ≡ was.version + changed.rose fid.0 → Made (Some file)
  there-goes file there was at v =
      let r = room fid.0 was at in
      let low = r.some in
      let high = r.most in
      let f = follows.few fid.0 in
      let was_found : found.version ≡ was.version = looked ∙ ap version_of at in
      let now : version_now changed found fid ≡ found.version + changed.rose fid.0 = some-now found.version (changed.rose fid.0) (omega arith) in
      let same : version ≡ file.version = omega arith in
      let less : file.version < last_value = omega arith in
      by (nat_lt max_file end) refl same (omega arith) less (rises file ∙ up-one file.version less) where
        some-now : (v r : ℕ) → 1 ≤ v → (if v == 0 then 0 else v + r) ≡ v + r
        some-now v r le = grind (arith, nat_tests)

        up-one : (v : ℕ) → v < last_value → risen v ≡ v + 1
        up-one v l = grind (arith, nat_tests)

        not-worn : (v e : ℕ) → v < last_value → (v == last_value && nat_le e max_file) ≡ false
        not-worn v e l = grind (arith, nat_tests)

        by : (big : Bool) → nat_lt max_file end ≡ big → version ≡ file.version → 1 ≤ version → file.version < last_value → (make file).version ≡ file.version + 1 → Made (Some file)
        by true e same some less up = record {
          next = replied s (Refused TooBig);
          is = at-version file same ∙ ap (λ (t : Bool). if t then Ok (replied s (Refused TooBig)) else Ok (with_state s fid (make file))) e;
          fresh = not-worn file.version end less;
          leaves = kept s.files refl (done-false version end (ltb-true max_file end e));
        }
        by false e same some less up = record {
          next = with_state s fid (make file);
          is = at-version file same ∙ ap (λ (t : Bool). if t then Ok (replied s (Refused TooBig)) else Ok (with_state s fid (make file))) e;
          fresh = not-worn file.version end less;
          leaves = subst (λ (t : Bool). Follows first (if t then with_file changed fid moved else changed).rose (n + 1) (replaced fid.0 (make file) s.files))
              (sym (done-true version end some (ltb-false max_file end e))) (raised-file file there up was at v);
        }

  made : (o : Option FileState) → look fid.0 s.files ≡ o → Made o
  made None there = record {
    next = replied s (Refused Gone);
    is = refl;
    fresh = refl;
    leaves = kept s.files refl (ap (λ (v : ℕ). is_done v end) (gone (look fid.0 first) refl (subst (Raised (look fid.0 first) (changed.rose fid.0)) there (follows.each fid.0))));
  }
  made (Some file) there = by (look fid.0 first) refl (subst (Raised (look fid.0 first) (changed.rose fid.0)) there (follows.each fid.0)) where
    by : (p : Option FileState) → look fid.0 first ≡ p → Raised p (changed.rose fid.0) (Some file) → Made (Some file)
    by None at r = absurd (none-some file (sym r))
    by (Some was) at r = there-goes file there was at r

-- ---- an operation of a call that doesn't stand alone

module _ (b : ℕ) (bytes : Bytes) (first : Files) (room : AllRoom first) where
  -- what was found has the version that the files have
  abbrev Looked : Call → Found → Type 0
  Looked call found = found.version ≡ version_of (look ((ask_of b call).fid).0 first)

  module _ (s : Shelf) (changed : Changed) (n : ℕ) (small : n < most_kept) (follows : Follows first changed.rose n s.files) where
    write-goes : (number m : ℕ) (fid g : Fid) (offset at : ℕ) (text : List ℕ) (version len : ℕ) (deltas : List Delta) (found : Found) → g ≡ fid → version ≡ version_now changed found fid
        → Looked (Write fid offset text) found → Goes b first (n + 1) (after_op b changed (op.Write m g version at len deltas)) s (op.Write m g version at len deltas)
    write-goes number m fid g offset at text version len deltas found eg ev looked =
        let here : found.version ≡ version_of (look g.0 first) = looked ∙ ap (λ (f : Fid). version_of (look f.0 first)) (to-fid b fid offset (end_of offset (length text)) ∙ sym eg) in
        let r = made first room s changed n small follows g version (at + len) (after_write (at + len) deltas) (λ k. or_before (new_of k deltas) (changed.moved g.0 k)) found (λ file. refl)
        (ev ∙ ap (version_now changed found) (sym eg)) here (look g.0 s.files) refl in
        record { next = r.next; is = r.is; fresh = r.fresh; follows = r.leaves }

    cut-goes : (m : ℕ) (fid g : Fid) (size to : ℕ) (version : ℕ) (deltas : List Delta) (found : Found) → g ≡ fid → version ≡ version_now changed found fid
        → Looked (Truncate fid size) found → Goes b first (n + 1) (after_op b changed (op.Cut m g version to deltas)) s (op.Cut m g version to deltas)
    cut-goes m fid g size to version deltas found eg ev looked =
        let here : found.version ≡ version_of (look g.0 first) = looked ∙ ap (λ (f : Fid). version_of (look f.0 first)) (range-fid b fid (size - size % b) size ∙ sym eg) in
        let r = made first room s changed n small follows g version to (after_cut b to deltas) (λ k. or_before (new_of k deltas) (if nat_le (blocks_in b to) k then Some None else changed.moved g.0 k)) found
        (λ file. refl) (ev ∙ ap (version_now changed found) (sym eg)) here (look g.0 s.files) refl in
        record { next = r.next; is = r.is; fresh = r.fresh; follows = r.leaves }

    sync-goes : (m : ℕ) → Goes b first (n + 1) changed s (op.Sync m)
    sync-goes m = record { next = replied s Done; is = refl; fresh = refl; follows = record { each = follows.each; few = λ k. let f = follows.few k in omega arith } }

    op-goes : (number : ℕ) (call : Call) (found : Found) (o : Op) → OpMeans b bytes changed number call found o → is_alone call ≡ false → Looked call found → Goes b first (n + 1) (after_op b changed o) s o
    op-goes number (Write fid offset text) found (op.Write m g version at len deltas) is alone looked = write-goes number m fid g offset at text version len deltas found is.1 is.2 looked
    op-goes number (Write fid offset text) found (op.Name m what) is alone looked = absurd (false≢true is.2)
    op-goes number (Write fid offset text) found o is alone looked = absurd is
    op-goes number (Truncate fid size) found (op.Cut m g version to deltas) is alone looked = cut-goes m fid g size to version deltas found is.1 is.2 looked
    op-goes number (Truncate fid size) found (op.Name m what) is alone looked = absurd (false≢true is.2)
    op-goes number (Truncate fid size) found o is alone looked = absurd is
    op-goes number Sync found (op.Sync m) is alone looked = sync-goes m
    op-goes number Sync found (op.Name m what) is alone looked = absurd (false≢true is.2)
    op-goes number Sync found o is alone looked = absurd is
    op-goes number (Create path) found o is alone looked = absurd (false≢true (sym alone))
    op-goes number (Mkdir path) found o is alone looked = absurd (false≢true (sym alone))
    op-goes number (Remove path) found o is alone looked = absurd (false≢true (sym alone))
    op-goes number (Rename path to) found o is alone looked = absurd (false≢true (sym alone))
    op-goes number (Read fid offset len) found o is alone looked = absurd (false≢true (sym alone))
    op-goes number (ListOf path) found o is alone looked = absurd (false≢true (sym alone))
    op-goes number (Stat path) found o is alone looked = absurd (false≢true (sym alone))
    op-goes number (Find path) found o is alone looked = absurd (false≢true (sym alone))

  -- ---- all of them

  -- the operations are done, and none wears a version out
  record Ends (os : List Op) (s : Shelf) : Type 0 where
    after : Shelf
    done : done_ops b os s ≡ Ok after
    fresh : any_wears b os s ≡ false

  ends-first : (o : Op) (os : List Op) (s next : Shelf) → done_op b s o ≡ Ok next → wears s o ≡ false → Ends os next → Ends (o ∷ os) s
  ends-first o os s next is fresh e = record {
    after = e.after;
    done = ap (λ (d : Result Shelf Stale). and_then d (done_ops b os)) is ∙ e.done;
    fresh = ap (λ (t : Bool). t || on_done (any_wears b os) (done_op b s o)) fresh ∙ ap (on_done (any_wears b os)) is ∙ e.fresh;
  }

  abbrev first-number : List ℕ → ℕ
  first-number [] = 0
  first-number (x ∷ xs) = x

  abbrev other-numbers : List ℕ → List ℕ
  other-numbers [] = []
  other-numbers (x ∷ xs) = xs

  -- the versions of the files that are asked
  abbrev Now : List Numbered → List ℕ
  Now calls = map (λ (k : Numbered). version_of (look ((ask_of b k.call).fid).0 first)) calls

  ops-end : (calls : List Numbered) (found : List Found) (os : List Op) (changed : Changed) (n : ℕ) (s : Shelf) → OpsMean b bytes changed calls found os
      → AllByRecursion (λ (k : Numbered). is_alone k.call ≡ false) calls → versions_of found ≡ Now calls → n + length calls ≤ most_kept → Follows first changed.rose n s.files → Ends os s
  ops-end [] [] [] changed n s are group same few follows = record { after = s; done = refl; fresh = refl }
  ops-end (call ∷ calls) (f ∷ found) (o ∷ os) changed n s are group same few follows =
      let one = op-goes s changed n (omega arith) follows call.number call.call f o are.0 group.0 (ap first-number same) in
      ends-first o os s one.next one.is one.fresh (ops-end calls found os (after_op b changed o) (n + 1) one.next are.1 group.1 (ap other-numbers same) (omega arith) one.follows)
  ops-end [] [] (o ∷ os) changed n s are group same few follows = absurd are
  ops-end [] (f ∷ found) os changed n s are group same few follows = absurd are
  ops-end (call ∷ calls) [] os changed n s are group same few follows = absurd are
  ops-end (call ∷ calls) (f ∷ found) [] changed n s are group same few follows = absurd are

  -- ---- a call that stands alone

  name-goes : (number : ℕ) (call : Call) (found : Found) (o : Op) (changed : Changed) (s : Shelf) → is_alone call ≡ true → OpMeans b bytes changed number call found o → Ends (o ∷ []) s
  name-goes number call found (op.Name m what) changed s alone is = record { after = named s what (name_refusal s.names what); done = refl; fresh = refl }
  name-goes number Sync found (op.Sync m) changed s alone is = absurd (false≢true alone)
  name-goes number (Write fid offset text) found o changed s alone is = absurd (false≢true alone)
  name-goes number (Truncate fid size) found o changed s alone is = absurd (false≢true alone)
  name-goes number Sync found o changed s alone is = absurd (false≢true alone)
  name-goes number (Create path) found o changed s alone is = absurd is
  name-goes number (Mkdir path) found o changed s alone is = absurd is
  name-goes number (Remove path) found o changed s alone is = absurd is
  name-goes number (Rename path to) found o changed s alone is = absurd is
  name-goes number (Read fid offset len) found o changed s alone is = absurd is
  name-goes number (ListOf path) found o changed s alone is = absurd is
  name-goes number (Stat path) found o changed s alone is = absurd is
  name-goes number (Find path) found o changed s alone is = absurd is

  one-ends : (call : Numbered) (found : List Found) (os : List Op) (changed : Changed) (s : Shelf) → is_alone call.call ≡ true → OpsMean b bytes changed (call ∷ []) found os → Ends os s
  one-ends call (f ∷ []) (o ∷ []) changed s alone are = name-goes call.number call.call f o changed s alone are.0
  one-ends call [] os changed s alone are = absurd are
  one-ends call (f ∷ found) [] changed s alone are = absurd are
  one-ends call (f ∷ []) (o ∷ other ∷ os) changed s alone are = absurd are.1
  one-ends call (f ∷ other ∷ found) (o ∷ os) changed s alone are = absurd are.1

-- ---- the next batch of some calls

company-few : (most : ℕ) (calls : List Numbered) → length (company most calls) ≤ most
company-few zero [] = omega arith
company-few (suc most) [] = omega arith
company-few zero (call ∷ calls) = omega arith
company-few (suc most) (call ∷ calls) =
    let rest = company-few most calls in
    cond_both (is_alone call.call) [] (call ∷ company most calls) (λ (cs : List Numbered). length cs ≤ suc most) (λ _. omega arith) (λ _. omega arith)

pub run-few : (kept : List Numbered) → length (run_of kept) ≤ most_kept
run-few [] = omega arith
run-few (call ∷ calls) =
    let many = company-few most_kept (call ∷ calls) in
    cond_both (is_alone call.call) (call ∷ []) (company most_kept (call ∷ calls)) (λ (cs : List Numbered). length cs ≤ most_kept) (λ _. omega arith) (λ _. many)

versions-now : (b : ℕ) (t : Tables) (calls : List Numbered) → versions_of (founds t (asks_of b calls)) ≡ map (λ (k : Numbered). version_of (look ((ask_of b k.call).fid).0 t.files)) calls
versions-now b t [] = refl
versions-now b t (call ∷ calls) =
    let ask = ask_of b call.call in
    let rest = map (λ (k : Numbered). version_of (look ((ask_of b k.call).fid).0 t.files)) calls in
    ap (λ (ns : List ℕ). (found_in t.members ask.first ask.count (look (ask.fid).0 t.files)).version ∷ ns) (versions-now b t calls)
    ∙ ap (λ (n : ℕ). n ∷ rest) (version-found t.members ask.first ask.count (look (ask.fid).0 t.files))

raised-first : (o : Option FileState) → Raised o 0 o
raised-first None = refl
raised-first (Some file) = omega arith

room-all : (z : Sizes) (t : Tables) → AreTables z t → MayRise t → AllRoom t.files
room-all z t form may k file at =
    record { some = (file_form z t form k file at).version.0; most = each_look (λ (f : FileState). f.version + most_kept ≤ last_value) t.files k file may.versions at }

module _ (z : Sizes) (t : Tables) (bytes : Bytes) (kept : List Numbered) (basis : Basis) (os : List Op) (form : AreTables z t) (may : MayRise t)
    (are : OpsMean z.block bytes unchanged (run_of kept) basis.found os) (same : same_numbers (versions_of basis.found) (versions_of (founds t (asks_of z.block (run_of kept)))) ≡ true) where
  -- what becomes of the batch
  abbrev pub IsDone : Type 0
  IsDone = ((after : Shelf) × (done_ops z.block os (shelf_of t) ≡ Ok after)) × (any_wears z.block os (shelf_of t) ≡ false)

  by-run : RunIs (run_of kept) → IsDone
  by-run (inl one) =
      let e = one-ends z.block bytes t.files (room-all z t form may) one.0 basis.found os unchanged (shelf_of t) one.2
      (subst (λ (cs : List Numbered). OpsMean z.block bytes unchanged cs basis.found os) one.1 are) in
      ((e.after, e.done), e.fresh)
  by-run (inr group) =
      let e = ops-end z.block bytes t.files (room-all z t form may) (run_of kept) basis.found os unchanged 0 (shelf_of t) are group
      (numbers-same (versions_of basis.found) (versions_of (founds t (asks_of z.block (run_of kept)))) same ∙ versions-now z.block t (run_of kept))
      (let few = run-few kept in omega arith) (record { each = λ k. raised-first (look k t.files); few = λ k. omega arith }) in
      ((e.after, e.done), e.fresh)

  pub batch-done : IsDone
  batch-done = by-run (run-is kept)
