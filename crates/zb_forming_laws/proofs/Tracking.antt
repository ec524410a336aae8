-- What earlier operations made of the files: as the client counts it, and as the tables do it.
use Rattle.std.proofs.Common.{◌≡◌, ℕ, ◌+◌, ◌<◌, ◌≤◌, Bool, true, false, eqb, Option, Some, None, refl, sym, ap, ◌∙◌, subst, arith}
use Rattle.std.specs.Prelude.{◌==◌, is_some, nat_lt, if◌then◌else◌, Result, Ok, Err, IfOk}
use Rattle.std.proofs.lemmas.Bool.{cond_both, eqb-true, ltb-true}
use Rattle.std.proofs.lemmas.Bool.Decides.{nat_tests}
use Rattle.std.proofs.lemmas.Option.{none-some}
use Rattle.zb_types.specs.declared.ids.Fid.{Fid}
use Rattle.zb_types.specs.declared.ids.Ptr.{Ptr}
use Rattle.zb_types.specs.declared.calls.Reply.TheVariants.{Refused}
use Rattle.zb_types.specs.declared.calls.Refusal.TheVariants.{TooBig}
use Rattle.zb_types.specs.declared.tables.Found.{Found}
use Rattle.zb_types.specs.Keyed.{look, replaced}
use Rattle.zb_types.specs.Apply.{max_file}
use Rattle.zb_types.proofs.KeyedLists.{look-replaced_same, look-replaced_other}
use Rattle.zb_tables.specs.Tables.{Contents, EachFile, EndsInFile, FileState, Tables, last_value, risen}
use Rattle.zb_tables.specs.Fold.{Files, Shelf, Stale, replied, resized, with_file as with_state}
use Rattle.zb_tables.specs.Looking.{SameBlock}
use Rattle.zb_tables.specs.Taking.{is_worn}
use Rattle.zb_tables.proofs.Each.{each_look, each_replaced}
use Rattle.zb_tables.proofs.Lookups.{block_same}
use Rattle.zb_sound.specs.LookupsCurrent.{LookupIsCurrent}
use Rattle.zb_basis.specs.Operations.{Changed, is_done, or_found, stands_now, unchanged, version_now, with_file}
use Rattle.zb_forming_laws.proofs.Merges.{AreFit}

-- a file that was changed so often, with its blocks where they were moved to
pub record IsAfter (was : FileState) (rose : ℕ) (moved : ℕ → Option (Option Ptr)) (now : FileState) : Type 0 where
  pub version : now.version ≡ was.version + rose
  pub blocks : (k : ℕ) → look k now.blocks ≡ or_found (moved k) (look k was.blocks)

-- a file that was there is there, and none came
abbrev pub Follows : Option FileState → ℕ → (ℕ → Option (Option Ptr)) → Option FileState → Type 0
Follows None rose moved now = now ≡ None
Follows (Some was) rose moved None = ⊥
Follows (Some was) rose moved (Some now) = IsAfter was rose moved now

-- the files are the first ones, changed so
abbrev pub Tracks : Files → Changed → Files → Type 0
Tracks first changed files = (n : ℕ) → Follows (look n first) (changed.rose n) (changed.moved n) (look n files)

-- a file has a version, its blocks end in it, and none is longer than b bytes
pub record IsGood (b : ℕ) (file : FileState) : Type 0 where
  pub ends : EndsInFile b file
  pub some : 1 ≤ file.version
  pub most : file.version ≤ last_value
  pub fit : AreFit b file

-- where an operation leads
pub record Leads (b : ℕ) (first : Files) (changed : Changed) (next : Shelf) : Type 0 where
  pub good : EachFile (IsGood b) next.files
  pub tracks : Tracks first changed next.files

follows-first : (o : Option FileState) → Follows o 0 (λ k. None) o
follows-first None = refl
follows-first (Some file) = record { version = omega arith; blocks = λ k. refl }

pub tracks-first : (files : Files) → Tracks files unchanged files
tracks-first files n = follows-first (look n files)

module _ (first files : Files) (changed : Changed) (tracks : Tracks first changed files) (fid : Fid) (moved : ℕ → Option (Option Ptr)) where
  -- a file that is gone may be counted as changed
  pub tracks-gone : look fid.0 files ≡ None → Tracks first (with_file changed fid moved) files
  tracks-gone gone n = by (n == fid.0) refl where
    none-there : (o : Option FileState) → Follows o (changed.rose n) (changed.moved n) None → Follows o (changed.rose n + 1) moved None
    none-there None f = refl
    none-there (Some was) f = f

    by : (test : Bool) → (n == fid.0) ≡ test → Follows (look n first) (if test then changed.rose n + 1 else changed.rose n) (λ k. if test then moved k else changed.moved n k) (look n files)
    by false e = tracks n
    by true e =
        let at : look n files ≡ None = ap (λ (j : ℕ). look j files) (eqb-true n fid.0 e) ∙ gone in
        subst (Follows (look n first) (changed.rose n + 1) moved) (sym at) (none-there (look n first) (subst (Follows (look n first) (changed.rose n) (changed.moved n)) at (tracks n)))

  module _ (file new : FileState) (there : look fid.0 files ≡ Some file) (rises : new.version ≡ file.version + 1)
      (blocks : (was : FileState) → IsAfter was (changed.rose fid.0) (changed.moved fid.0) file → (k : ℕ) → look k new.blocks ≡ or_found (moved k) (look k was.blocks)) where
    now-after : (o : Option FileState) → Follows o (changed.rose fid.0) (changed.moved fid.0) (Some file) → Follows o (changed.rose fid.0 + 1) moved (Some new)
    now-after None f = absurd (none-some file (sym f))
    now-after (Some was) f = record { version = let v = f.version in omega arith; blocks = blocks was f }

    here : Follows (look fid.0 first) (changed.rose fid.0 + 1) moved (look fid.0 (replaced fid.0 new files))
    here = subst (Follows (look fid.0 first) (changed.rose fid.0 + 1) moved) (sym (look-replaced_same fid.0 new files (ap is_some there)))
        (now-after (look fid.0 first) (subst (Follows (look fid.0 first) (changed.rose fid.0) (changed.moved fid.0)) there (tracks fid.0)))

    -- a file that is there is changed
    pub tracks-file : Tracks first (with_file changed fid moved) (replaced fid.0 new files)
    tracks-file n = by (n == fid.0) refl where
      by : (test : Bool) → (n == fid.0) ≡ test → Follows (look n first) (if test then changed.rose n + 1 else changed.rose n) (λ k. if test then moved k else changed.moved n k) (look n (replaced fid.0 new files))
      by true e = subst (λ (j : ℕ). Follows (look j first) (changed.rose j + 1) moved (look j (replaced fid.0 new files))) (sym (eqb-true n fid.0 e)) here
      by false e = subst (Follows (look n first) (changed.rose n) (changed.moved n)) (sym (look-replaced_other n fid.0 new files (λ same. absurd (grind (arith, nat_tests))))) (tracks n)

-- ---- what a lookup found stands where the file has it

same-moved : (contents : Contents) (m : Option (Option Ptr)) (o q : Option Ptr) → SameBlock contents o q → SameBlock contents (or_found m o) (or_found m q)
same-moved contents None o q s = s
same-moved contents (Some p) o q s = block_same contents p

module _ (contents : Contents) (t : Tables) (files : Files) (changed : Changed) (tracks : Tracks t.files changed files) where
  pub stands-same : (fid : Fid) (firstblock count : ℕ) (found : Found) (file : FileState) → LookupIsCurrent contents t fid.0 firstblock count found → look fid.0 files ≡ Some file → 1 ≤ file.version
      → version_now changed found fid ≡ file.version → (k : ℕ) → firstblock ≤ k → k < firstblock + count → SameBlock contents (stands_now changed found fid k) (look k file.blocks)
  stands-same fid firstblock count found file current there some version k low high =
      by (look fid.0 t.files) refl (subst (Follows (look fid.0 t.files) (changed.rose fid.0) (changed.moved fid.0)) there (tracks fid.0)) where
        by : (o : Option FileState) → look fid.0 t.files ≡ o → Follows o (changed.rose fid.0) (changed.moved fid.0) (Some file) → SameBlock contents (stands_now changed found fid k) (look k file.blocks)
        by None at f = absurd (none-some file (sym f))
        by (Some was) at f =
            let v = f.version in
            let given : 1 ≤ found.version = grind (arith, nat_tests) in
            let same : was.version ≡ found.version = grind (arith, nat_tests) in
            let is = ((current given).same was at same).blocks k low high in
            subst (SameBlock contents (stands_now changed found fid k)) (sym (f.blocks k)) (same-moved contents (changed.moved fid.0 k) (look k found.blocks) (look k was.blocks) is)

-- ---- an operation on a file

-- what the operation makes of a file
pub record IsMade (b : ℕ) (rose : ℕ) (before after : ℕ → Option (Option Ptr)) (file new : FileState) : Type 0 where
  pub version : new.version ≡ risen file.version
  pub ends : EndsInFile b new
  pub fit : AreFit b new
  pub blocks : (was : FileState) → IsAfter was rose before file → (k : ℕ) → look k new.blocks ≡ or_found (after k) (look k was.blocks)

pub done-true : (version end : ℕ) → 1 ≤ version → end ≤ max_file → is_done version end ≡ true
done-true version end some le = grind (arith, nat_tests)

pub done-false : (version end : ℕ) → max_file < end → is_done version end ≡ false
done-false version end big = grind (arith, nat_tests)

module _ (b : ℕ) (first : Files) (s : Shelf) (changed : Changed) (good : EachFile (IsGood b) s.files) (tracks : Tracks first changed s.files)
    (fid : Fid) (version end : ℕ) (make : FileState → FileState) (moved : ℕ → Option (Option Ptr)) where
  abbrev After : Changed
  After = if is_done version end then with_file changed fid moved else changed

  made-leads : (file : FileState) → look fid.0 s.files ≡ Some file → version ≡ file.version → end ≤ max_file → is_worn end (Some file) ≡ false
      → IsMade b (changed.rose fid.0) (changed.moved fid.0) moved file (make file) → Leads b first After (with_state s fid (make file))
  made-leads file there same le worn made =
      let old = each_look (IsGood b) s.files fid.0 file good there in
      let some = old.some in
      let most = old.most in
      let v = made.version in
      let less : file.version < last_value = grind (arith, nat_tests) in
      let next : (make file).version ≡ file.version + 1 = grind (arith, nat_tests) in
      let done = done-true version end (omega arith) le in
      let new : IsGood b (make file) = record { ends = made.ends; some = omega arith; most = omega arith; fit = made.fit } in
      record {
        good = each_replaced (IsGood b) s.files fid.0 (make file) good new;
        tracks = subst (λ (z : Bool). Tracks first (if z then with_file changed fid moved else changed) (replaced fid.0 (make file) s.files)) (sym done)
            (tracks-file first s.files changed tracks fid moved file (make file) there next made.blocks);
      }

  pub resized-leads : (o : Option FileState) → look fid.0 s.files ≡ o → is_worn end o ≡ false
      → ((file : FileState) → look fid.0 s.files ≡ Some file → version ≡ file.version → end ≤ max_file → IsMade b (changed.rose fid.0) (changed.moved fid.0) moved file (make file))
      → IfOk (resized s fid version end make o) (Leads b first After)
  resized-leads None gone worn made = record {
    good = good;
    tracks = cond_both (is_done version end) (with_file changed fid moved) changed (λ (c : Changed). Tracks first c s.files) (λ _. tracks-gone first s.files changed tracks fid moved gone) (λ _. tracks);
  }
  resized-leads (Some file) there worn made =
      cond_both (eqb version file.version) _ _ (λ (r : Result Shelf Stale). IfOk r (Leads b first After))
      (λ same. cond_both (nat_lt max_file end) _ _ (λ (r : Result Shelf Stale). IfOk r (Leads b first After))
      (λ big. record {
        good = good;
        tracks = subst (λ (z : Bool). Tracks first (if z then with_file changed fid moved else changed) s.files) (sym (done-false version end (ltb-true max_file end big))) tracks;
      })
      (λ small. let le : end ≤ max_file = grind (arith, nat_tests) in let v = eqb-true version file.version same in made-leads file there v le worn (made file there v le)))
      (λ _. tt)

-- a change that isn't stale is made at the file's version
pub version-same : (s : Shelf) (fid : Fid) (version end : ℕ) (make : FileState → FileState) (file : FileState) (next : Shelf) → resized s fid version end make (Some file) ≡ Ok next → version ≡ file.version
version-same s fid version end make file next e = by (eqb version file.version) refl e where
  is-ok : Result Shelf Stale → Type 0
  is-ok (Ok s) = Unit {0}
  is-ok (Err stale) = ⊥

  by : (test : Bool) → eqb version file.version ≡ test
      → ◌≡◌ {A = Result Shelf Stale} (if test then (if nat_lt max_file end then Ok (replied s (Refused TooBig)) else Ok (with_state s fid (make file))) else Err (record { fid = fid; seen = version; now = file.version })) (Ok next) → version ≡ file.version
  by true is f = eqb-true version file.version is
  by false is f = absurd (subst is-ok (sym f) tt)
