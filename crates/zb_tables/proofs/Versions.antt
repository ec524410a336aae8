-- What the operations of updates leave of a file that is there.
use Rattle.std.proofs.Common.{◌≡◌, ◌⊎◌, ℕ, ◌+◌, ◌<◌, ◌≤◌, Bool, true, false, eqb, List, [], ◌∷◌, Option, Some, None, refl, sym, ap, ◌∙◌, subst, inl, inr, arith}
use Rattle.std.specs.Prelude.{◌&&◌, not, length, nat_lt, nat_le, is_some, IsTrue, IsSomeAnd, if◌then◌else◌, Result, Ok, Err, IfOk}
use Rattle.std.specs.List.{AllByRecursion, list_all}
use Rattle.std.proofs.lemmas.Bool.{cases_eq, cond_both, false≢true, lt-ltb, eqb-true, or_parts, and_parts}
use Rattle.std.proofs.lemmas.Bool.Decides.{nat_tests}
use Rattle.std.proofs.lemmas.Option.{none-some, same_Some}
use Rattle.zb_types.specs.declared.ids.Fid.{Fid}
use Rattle.zb_types.specs.declared.calls.Call.{Call}
use Rattle.zb_types.specs.declared.calls.Call.TheVariants.{Create, Mkdir, Remove, Rename, Write as WriteCall, Truncate, Sync as SyncCall, Read, List as ListOf, Stat, Find}
use Rattle.zb_types.specs.declared.calls.Reply.TheVariants.{Refused}
use Rattle.zb_types.specs.declared.calls.Refusal.{Refusal}
use Rattle.zb_types.specs.declared.calls.Refusal.TheVariants.{TooBig}
use Rattle.zb_types.specs.Keyed.{look, replaced, without}
use Rattle.zb_types.specs.Names.{Entry, directory, numbered, Names, dropped, find, name_refusal}
use Rattle.zb_types.specs.Tree.{files_after}
use Rattle.zb_types.specs.Apply.{max_file}
use Rattle.zb_types.proofs.KeyedLists.{look-put_other, look-replaced_same, look-replaced_other, look-without_same, look-without_other}
use Rattle.zb_batch.specs.declared.batch.Op.{Op}
use Rattle.zb_batch.specs.declared.batch.Op.TheVariants.{Name, Write, Cut, Sync, Clean}
use Rattle.zb_batch.specs.Batches.{is_alone, is_company}
use Rattle.zb_delta.specs.declared.delta.Delta.{Delta}
use Rattle.zb_tables.specs.Tables.{Contents, FileState, risen, last_value}
use Rattle.zb_tables.specs.Fold.{Files, Shelf, all_moved, Stale, after_write, after_cut, new_file, replied, with_file, named, resized, done_op, done_ops, and_then}
use Rattle.zb_tables.specs.Taking.{is_worn, wears, on_done, any_wears}
use Rattle.zb_tables.specs.Leaving.{HasCopies, IsOfUpdate}
use Rattle.zb_tables.specs.Pointing.{AllCopies}
use Rattle.zb_tables.proofs.Lookups.{clean_left, copies_refl}

-- ---- results

if_ok : (done : Result Shelf Stale) (after : Shelf) (P : Shelf → Type 0) → IfOk done P → done ≡ Ok after → P after
if_ok done after P all e = subst (λ (d : Result Shelf Stale). IfOk d P) e all

then_ok : (done : Result Shelf Stale) (P Q : Shelf → Type 0) → ((t : Shelf) → P t → Q t) → IfOk done P → IfOk done Q
then_ok (Ok t) P Q f all = f t all
then_ok (Err stale) P Q f all = tt

-- ---- a change of one file

-- names stay; the change was made at the file's version; and the files are the same, for a cause, or have the changed file
abbrev pub Leaves : Shelf → Fid → ℕ → ℕ → (FileState → FileState) → Option FileState → Shelf → Type 0
Leaves s fid version end new o after =
    (after.names ≡ s.names) × ((file : FileState) → o ≡ Some file → version ≡ file.version)
    × (((after.files ≡ s.files) × ((o ≡ None) ⊎ (nat_lt max_file end ≡ true)))
    ⊎ ((file : FileState) × (o ≡ Some file) × (after.files ≡ replaced fid.0 (new file) s.files) × (nat_lt max_file end ≡ false)))

pub resized_leaves : (s : Shelf) (fid : Fid) (version end : ℕ) (new : FileState → FileState) (o : Option FileState) → IfOk (resized s fid version end new o) (Leaves s fid version end new o)
resized_leaves s fid version end new None = (refl, λ file e. absurd (none-some file e), inl (refl, inl refl))
resized_leaves s fid version end new (Some file) =
    cond_both (eqb version file.version) (if nat_lt max_file end then Ok (replied s (Refused TooBig)) else Ok (with_file s fid (new file))) (Err (record { fid = fid; seen = version; now = file.version }))
    (λ r. IfOk r (Leaves s fid version end new (Some file)))
    (λ t.
    let at : (f : FileState) → Some file ≡ Some f → version ≡ f.version = λ f e. eqb-true version file.version t ∙ ap (λ (g : FileState). g.version) (same_Some file f e) in
    cond_both (nat_lt max_file end) (Ok (replied s (Refused TooBig))) (Ok (with_file s fid (new file))) (λ r. IfOk r (Leaves s fid version end new (Some file)))
    (λ big. (refl, at, inl (refl, inr big)))
    (λ fits. (refl, at, inr (file, refl, refl, fits))))
    (λ stale. tt)

found_after : (files : Files) (fid : ℕ) (file new : FileState) → look fid files ≡ Some file → look fid (replaced fid new files) ≡ Some new
found_after files fid file new at = look-replaced_same fid new files (ap is_some at)

module _ (s after : Shelf) (fid : Fid) (version end : ℕ) (new : FileState → FileState) (done : resized s fid version end new (look fid.0 s.files) ≡ Ok after) where
  left : Leaves s fid version end new (look fid.0 s.files) after
  left = if_ok (resized s fid version end new (look fid.0 s.files)) after (Leaves s fid version end new (look fid.0 s.files)) (resized_leaves s fid version end new (look fid.0 s.files)) done

  -- a file that is there and isn't made too long is changed, at its version
  pub resized_itself : (old : FileState) → look fid.0 s.files ≡ Some old → end ≤ max_file → (version ≡ old.version) × (look fid.0 after.files ≡ Some (new old))
  resized_itself old at short = (left.1 old at, itself left.2) where
    itself : ((after.files ≡ s.files) × ((look fid.0 s.files ≡ None) ⊎ (nat_lt max_file end ≡ true)))
        ⊎ ((file : FileState) × (look fid.0 s.files ≡ Some file) × (after.files ≡ replaced fid.0 (new file) s.files) × (nat_lt max_file end ≡ false))
        → look fid.0 after.files ≡ Some (new old)
    itself (inl (stays, inl none)) = absurd (none-some old (sym none ∙ at))
    itself (inl (stays, inr big)) = absurd (grind (arith, nat_tests))
    itself (inr change) =
        ap (look fid.0) change.2 ∙ found_after s.files fid.0 change.0 (new change.0) change.1
        ∙ ap (λ (f : FileState). Some (new f)) (same_Some change.0 old (sym change.1 ∙ at))

  -- else the files are as they were
  pub resized_refused : (look fid.0 s.files ≡ None) ⊎ (max_file < end) → after.files ≡ s.files
  resized_refused why = refused why left.2 where
    refused : (look fid.0 s.files ≡ None) ⊎ (max_file < end)
        → ((after.files ≡ s.files) × ((look fid.0 s.files ≡ None) ⊎ (nat_lt max_file end ≡ true)))
        ⊎ ((file : FileState) × (look fid.0 s.files ≡ Some file) × (after.files ≡ replaced fid.0 (new file) s.files) × (nat_lt max_file end ≡ false))
        → after.files ≡ s.files
    refused cause (inl stays) = stays.0
    refused (inl none) (inr change) = absurd (none-some change.0 (sym none ∙ change.1))
    refused (inr big) (inr change) = absurd (false≢true (sym change.3 ∙ lt-ltb max_file end big))

  -- other files are as they were
  pub resized_beside : (n : ℕ) → (fid.0 ≡ n → ⊥) → look n after.files ≡ look n s.files
  resized_beside n other = elim left.2 as (λ _. look n after.files ≡ look n s.files) [
    | inl stays ↦ ap (look n) stays.0
    | inr change ↦ ap (look n) change.2 ∙ look-replaced_other n fid.0 (new change.0) s.files other
  ]

-- ---- versions

below_last : (v last end most : ℕ) → (eqb v last && nat_le end most) ≡ false → nat_lt most end ≡ false → v ≤ last → v < last
below_last v last end most worn big le = elim (cases_eq v last) as (λ _. v < last) [
  | inl here ↦ absurd (grind (arith, nat_tests))
  | inr other ↦ omega (arith, other, le)
]

risen_next : (v : ℕ) → v < last_value → risen v ≡ v + 1
risen_next v lt = ap (λ (b : Bool). if b then v + 1 else v) (lt-ltb v last_value lt)

-- ---- what an operation leaves under a number

module _ (n : ℕ) where
  -- a file, and one at a later version in its place
  pub record IsLater (before after : Option FileState) : Type 0 where
    pub old : FileState
    pub new : FileState
    pub was : before ≡ Some old
    pub is : after ≡ Some new
    pub later : old.version < new.version

  -- a file below the last version, and one at the next version in its place
  pub record IsNext (before after : Option FileState) : Type 0 where
    pub old : FileState
    pub new : FileState
    pub was : before ≡ Some old
    pub is : after ≡ Some new
    pub low : old.version < last_value
    pub next : new.version ≡ old.version + 1

  abbrev pub Turn : Option FileState → Option FileState → Type 0
  Turn before after = (after ≡ before) ⊎ ((after ≡ None) ⊎ IsNext before after)

  abbrev pub Later : Option FileState → Option FileState → Type 0
  Later before after = (after ≡ before) ⊎ ((after ≡ None) ⊎ IsLater before after)

  -- a version is at most the last one
  abbrev pub HasVersion : Option FileState → Type 0
  HasVersion o = (file : FileState) → o ≡ Some file → file.version ≤ last_value

  abbrev pub After : Shelf → Shelf → Type 0
  After s after = Turn (look n s.files) (look n after.files) × (n < after.names.next)

  left_turn : (s after : Shelf) (fid : Fid) (version end : ℕ) (new : FileState → FileState) → ((file : FileState) → (new file).version ≡ risen file.version)
      → n < s.names.next → HasVersion (look n s.files) → is_worn end (look fid.0 s.files) ≡ false → Leaves s fid version end new (look fid.0 s.files) after → After s after
  left_turn s after fid version end new rises lt most worn is = (turn, subst (λ (names : Names). n < names.next) (sym is.0) lt) where
    turn : Turn (look n s.files) (look n after.files)
    turn = elim is.2 as (λ _. Turn (look n s.files) (look n after.files)) [
      | inl stays ↦ inl (ap (look n) stays.0)
      | inr change ↦ elim (cases_eq fid.0 n) as (λ _. Turn (look n s.files) (look n after.files)) [
        | inr other ↦ inl (ap (look n) change.2 ∙ look-replaced_other n fid.0 (new change.0) s.files other)
        | inl here ↦
            let file : FileState = change.0 in
            let was : look n s.files ≡ Some file = subst (λ (j : ℕ). look j s.files ≡ Some file) here change.1 in
            let not_worn : (eqb file.version last_value && nat_le end max_file) ≡ false = subst (λ (o : Option FileState). is_worn end o ≡ false) change.1 worn in
            let low : file.version < last_value = below_last file.version last_value end max_file not_worn change.3 (most file was) in
            inr (inr (record {
              old = file;
              new = new file;
              was = was;
              is = ap (look n) change.2 ∙ subst (λ (j : ℕ). look j (replaced fid.0 (new file) s.files) ≡ Some (new file)) here (found_after s.files fid.0 file (new file) change.1);
              low = low;
              next = rises file ∙ risen_next file.version low;
            }))
      ]
    ]

  sized_turn : (s : Shelf) (fid : Fid) (version end : ℕ) (new : FileState → FileState) → ((file : FileState) → (new file).version ≡ risen file.version)
      → n < s.names.next → HasVersion (look n s.files) → is_worn end (look fid.0 s.files) ≡ false → IfOk (resized s fid version end new (look fid.0 s.files)) (After s)
  sized_turn s fid version end new rises lt most worn =
      then_ok (resized s fid version end new (look fid.0 s.files)) (Leaves s fid version end new (look fid.0 s.files)) (After s)
      (λ after is. left_turn s after fid version end new rises lt most worn is) (resized_leaves s fid version end new (look fid.0 s.files))

  dropped_turn : (o : Option Entry) (files : Files) → Turn (look n files) (look n (files_after new_file (dropped o) files))
  dropped_turn None files = inl refl
  dropped_turn (Some directory) files = inl refl
  dropped_turn (Some (numbered number)) files = elim (cases_eq number n) as (λ _. Turn (look n files) (look n (without number files))) [
    | inl here ↦ inr (inl (subst (λ (j : ℕ). look j (without number files) ≡ None) here (look-without_same number files)))
    | inr other ↦ inl (look-without_other n number files other)
  ]

  effect_turn : (s : Shelf) (call : Call) → n < s.names.next → After s (named s call None)
  effect_turn s (Create path) lt = (inl (look-put_other n s.names.next new_file s.files (λ e. omega (arith, e, lt))), omega (arith, lt))
  effect_turn s (Mkdir path) lt = (inl refl, lt)
  effect_turn s (Remove path) lt = (dropped_turn (find path s.names.entries) s.files, lt)
  effect_turn s (Rename from to) lt = (inl refl, lt)
  effect_turn s (WriteCall fid offset bytes) lt = (inl refl, lt)
  effect_turn s (Truncate fid size) lt = (inl refl, lt)
  effect_turn s SyncCall lt = (inl refl, lt)
  effect_turn s (Read fid offset len) lt = (inl refl, lt)
  effect_turn s (ListOf path) lt = (inl refl, lt)
  effect_turn s (Stat path) lt = (inl refl, lt)
  effect_turn s (Find path) lt = (inl refl, lt)

  named_turn : (s : Shelf) (call : Call) (why : Option Refusal) → n < s.names.next → After s (named s call why)
  named_turn s call (Some why) lt = (inl refl, lt)
  named_turn s call None lt = effect_turn s call lt

  pub op_turn : (b : ℕ) (s : Shelf) (o : Op) → IsOfUpdate o → wears s o ≡ false → n < s.names.next → HasVersion (look n s.files) → IfOk (done_op b s o) (After s)
  op_turn b s (Name call what) is worn lt most = named_turn s what (name_refusal s.names what) lt
  op_turn b s (Write call fid version offset len deltas) is worn lt most = sized_turn s fid version (offset + len) (after_write (offset + len) deltas) (λ file. refl) lt most worn
  op_turn b s (Cut call fid version size deltas) is worn lt most = sized_turn s fid version size (after_cut b size deltas) (λ file. refl) lt most worn
  op_turn b s (Sync call) is worn lt most = (inl refl, lt)
  op_turn b s (Clean deltas) is worn lt most = absurd is

  -- ---- a whole batch

  turn_version : (before after : Option FileState) → Turn before after → HasVersion before → HasVersion after
  turn_version before after (inl stays) most file at = most file (sym stays ∙ at)
  turn_version before after (inr (inl gone)) most file at = absurd (none-some file (sym gone ∙ at))
  turn_version before after (inr (inr next)) most file at =
      let is : next.new ≡ file = same_Some next.new file (sym next.is ∙ at) in
      let version : next.new.version ≡ file.version = ap (λ (f : FileState). f.version) is in
      let low = next.low in
      let up = next.next in
      omega (arith, version, low, up)

  next_then : (before mid after : Option FileState) → IsNext before mid → Later mid after → Later before after
  next_then before mid after next (inl stays) = inr (inr (record { old = next.old; new = next.new; was = next.was; is = stays ∙ next.is; later = let up = next.next in omega (arith, up) }))
  next_then before mid after next (inr (inl gone)) = inr (inl gone)
  next_then before mid after next (inr (inr later)) =
      let is : next.new ≡ later.old = same_Some next.new later.old (sym next.is ∙ later.was) in
      let version : next.new.version ≡ later.old.version = ap (λ (f : FileState). f.version) is in
      inr (inr (record { old = next.old; new = later.new; was = next.was; is = later.is; later = let up = next.next in let on = later.later in omega (arith, up, on, version) }))

  gone_then : (before mid after : Option FileState) → mid ≡ None → Later mid after → Later before after
  gone_then before mid after gone (inl stays) = inr (inl (stays ∙ gone))
  gone_then before mid after gone (inr (inl none)) = inr (inl none)
  gone_then before mid after gone (inr (inr later)) = absurd (none-some later.old (sym gone ∙ later.was))

  turn_then : (before mid after : Option FileState) → Turn before mid → Later mid after → Later before after
  turn_then before mid after (inl stays) later = subst (λ (o : Option FileState). Later o after) stays later
  turn_then before mid after (inr (inl gone)) later = gone_then before mid after gone later
  turn_then before mid after (inr (inr next)) later = next_then before mid after next later

  abbrev Through : Shelf → Shelf → Type 0
  Through s after = Later (look n s.files) (look n after.files)

  through : (s : Shelf) (done : Result Shelf Stale) (rest : Shelf → Result Shelf Stale) → IfOk done (After s) → HasVersion (look n s.files)
      → ((t : Shelf) → done ≡ Ok t → n < t.names.next → HasVersion (look n t.files) → IfOk (rest t) (Through t)) → IfOk (and_then done rest) (Through s)
  through s (Err stale) rest first most then_all = tt
  through s (Ok t) rest first most then_all =
      then_ok (rest t) (Through t) (Through s) (λ after later. turn_then (look n s.files) (look n t.files) (look n after.files) first.0 later)
      (then_all t refl first.1 (turn_version (look n s.files) (look n t.files) first.0 most))

  pub ops_through : (b : ℕ) (ops : List Op) (s : Shelf) → AllByRecursion IsOfUpdate ops → any_wears b ops s ≡ false → n < s.names.next → HasVersion (look n s.files) → IfOk (done_ops b ops s) (Through s)
  ops_through b [] s are worn lt most = inl refl
  ops_through b (o ∷ os) s are worn lt most =
      let apart = or_parts (wears s o) (on_done (any_wears b os) (done_op b s o)) worn in
      through s (done_op b s o) (done_ops b os) (op_turn b s o are.0 apart.0 lt most) most
      (λ t e below_next has. ops_through b os t are.1 (sym (ap (on_done (any_wears b os)) e) ∙ apart.1) below_next has)

  -- ---- a file that is there

  there : (o : Option FileState) (old : FileState) → o ≡ Some old → old.version ≤ last_value → HasVersion o
  there o old at most file now =
      let is : old ≡ file = same_Some old file (sym at ∙ now) in
      let version : old.version ≡ file.version = ap (λ (f : FileState). f.version) is in
      omega (arith, version, most)

  turn_is : (before after : Option FileState) (old new : FileState) → before ≡ Some old → after ≡ Some new → Turn before after → (new ≡ old) ⊎ (new.version ≡ old.version + 1)
  turn_is before after old new was is (inl stays) = inl (same_Some new old (sym is ∙ stays ∙ was))
  turn_is before after old new was is (inr (inl gone)) = absurd (none-some new (sym gone ∙ is))
  turn_is before after old new was is (inr (inr next)) =
      let first : next.old.version ≡ old.version = ap (λ (f : FileState). f.version) (same_Some next.old old (sym next.was ∙ was)) in
      let last : next.new.version ≡ new.version = ap (λ (f : FileState). f.version) (same_Some next.new new (sym next.is ∙ is)) in
      let up = next.next in
      inr (omega (arith, first, last, up))

  later_is : (before after : Option FileState) (old new : FileState) → before ≡ Some old → after ≡ Some new → Later before after → (new ≡ old) ⊎ (old.version < new.version)
  later_is before after old new was is (inl stays) = inl (same_Some new old (sym is ∙ stays ∙ was))
  later_is before after old new was is (inr (inl gone)) = absurd (none-some new (sym gone ∙ is))
  later_is before after old new was is (inr (inr later)) =
      let first : later.old.version ≡ old.version = ap (λ (f : FileState). f.version) (same_Some later.old old (sym later.was ∙ was)) in
      let last : later.new.version ≡ new.version = ap (λ (f : FileState). f.version) (same_Some later.new new (sym later.is ∙ is)) in
      let up = later.later in
      inr (omega (arith, first, last, up))

  pub op_leaves : (b : ℕ) (s after : Shelf) (o : Op) (old new : FileState) → IsOfUpdate o → wears s o ≡ false → done_op b s o ≡ Ok after → n < s.names.next → old.version ≤ last_value
      → look n s.files ≡ Some old → look n after.files ≡ Some new → (new ≡ old) ⊎ (new.version ≡ old.version + 1)
  op_leaves b s after o old new is worn e lt most was now =
      turn_is (look n s.files) (look n after.files) old new was now (if_ok (done_op b s o) after (After s) (op_turn b s o is worn lt (there (look n s.files) old was most)) e).0

  pub ops_leave : (b : ℕ) (s after : Shelf) (ops : List Op) (old new : FileState) → AllByRecursion IsOfUpdate ops → any_wears b ops s ≡ false → done_ops b ops s ≡ Ok after → n < s.names.next → old.version ≤ last_value
      → look n s.files ≡ Some old → look n after.files ≡ Some new → (new ≡ old) ⊎ (old.version < new.version)
  ops_leave b s after ops old new are worn e lt most was now =
      later_is (look n s.files) (look n after.files) old new was now (if_ok (done_ops b ops s) after (Through s) (ops_through b ops s are worn lt (there (look n s.files) old was most)) e)

  pub ops_same : (b : ℕ) (s after : Shelf) (ops : List Op) (old new : FileState) → AllByRecursion IsOfUpdate ops → any_wears b ops s ≡ false → done_ops b ops s ≡ Ok after → n < s.names.next → old.version ≤ last_value
      → look n s.files ≡ Some old → look n after.files ≡ Some new → new.version ≡ old.version → new ≡ old
  ops_same b s after ops old new are worn e lt most was now version = elim (ops_leave b s after ops old new are worn e lt most was now) as (λ _. new ≡ old) [
    | inl is ↦ is
    | inr later ↦ absurd (omega (arith, later, version))
  ]

  -- what is gone stays gone
  later_gone : (before after : Option FileState) → before ≡ None → Later before after → after ≡ None
  later_gone before after none (inl stays) = stays ∙ none
  later_gone before after none (inr (inl gone)) = gone
  later_gone before after none (inr (inr later)) = absurd (none-some later.old (sym none ∙ later.was))

  pub ops_gone : (b : ℕ) (s after : Shelf) (ops : List Op) → AllByRecursion IsOfUpdate ops → any_wears b ops s ≡ false → done_ops b ops s ≡ Ok after → n < s.names.next
      → look n s.files ≡ None → look n after.files ≡ None
  ops_gone b s after ops are worn e lt none =
      later_gone (look n s.files) (look n after.files) none (if_ok (done_ops b ops s) after (Through s) (ops_through b ops s are worn lt (λ file at. absurd (none-some file (sym none ∙ at)))) e)

-- ---- a batch, of the cleaner or of updates

of_update : (o : Op) → is_alone o ≡ false → IsOfUpdate o
of_update (Name call what) alone = tt
of_update (Write call fid version offset len deltas) alone = tt
of_update (Cut call fid version size deltas) alone = tt
of_update (Sync call) alone = tt
of_update (Clean deltas) alone = absurd (false≢true (sym alone))

none_alone : (ops : List Op) → IsTrue (list_all (λ o. not (is_alone o)) ops) → AllByRecursion IsOfUpdate ops
none_alone [] all = tt
none_alone (o ∷ os) all =
    let both = and_parts (not (is_alone o)) (list_all (λ p. not (is_alone p)) os) all in
    (of_update o (grind (arith, both.0)), none_alone os both.1)

pub one_kind : (ops : List Op) → IsTrue (is_company ops) → ((deltas : List Delta) × (ops ≡ Clean deltas ∷ [])) ⊎ AllByRecursion IsOfUpdate ops
one_kind [] company = inr tt
one_kind (Name call what ∷ []) company = inr (tt, tt)
one_kind (Write call fid version offset len deltas ∷ []) company = inr (tt, tt)
one_kind (Cut call fid version size deltas ∷ []) company = inr (tt, tt)
one_kind (Sync call ∷ []) company = inr (tt, tt)
one_kind (Clean deltas ∷ []) company = inl (deltas, refl)
one_kind (o ∷ (p ∷ os)) company = inr (none_alone (o ∷ (p ∷ os)) (and_parts (nat_le (length (o ∷ (p ∷ os))) 8) (list_all (λ q. not (is_alone q)) (o ∷ (p ∷ os))) company).1)

module _ (contents : Contents) (b : ℕ) (s after : Shelf) (ops : List Op) (n : ℕ) (old new : FileState) (was : look n s.files ≡ Some old) (now : look n after.files ≡ Some new) where
  clean_keeps : (deltas : List Delta) → ops ≡ Clean deltas ∷ [] → AllCopies contents deltas → done_ops b ops s ≡ Ok after → HasCopies contents old new
  clean_keeps deltas are copies e =
      let alone : done_ops b (Clean deltas ∷ []) s ≡ Ok after = ap (λ (os : List Op). done_ops b os s) (sym are) ∙ e in
      let files : all_moved deltas s.files ≡ after.files = if_ok (done_ops b (Clean deltas ∷ []) s) after (λ t. all_moved deltas s.files ≡ t.files) refl alone in
      subst (λ (o : Option FileState). IsSomeAnd o (HasCopies contents old)) (ap (look n) files ∙ now) (clean_left contents deltas s.files n old copies was)

  pub commit_keeps : IsTrue (is_company ops) → ((deltas : List Delta) → ops ≡ Clean deltas ∷ [] → AllCopies contents deltas) → any_wears b ops s ≡ false → done_ops b ops s ≡ Ok after
      → n < s.names.next → old.version ≤ last_value → new.version ≡ old.version → HasCopies contents old new
  commit_keeps company copies worn e lt most version = elim (one_kind ops company) as (λ _. HasCopies contents old new) [
    | inl clean ↦ clean_keeps clean.0 clean.1 (copies clean.0 clean.1) e
    | inr are ↦ subst (HasCopies contents old) (sym (ops_same n b s after ops old new are worn e lt most was now version)) (copies_refl contents old)
  ]
