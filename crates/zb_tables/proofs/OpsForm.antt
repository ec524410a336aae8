-- Names and files stay in form at each operation.
use Rattle.std.proofs.Common.{◌≡◌, ℕ, ◌+◌, ◌^◌, ◌<◌, ◌≤◌, Bool, true, false, not, eqb, List, [], ◌∷◌, ◌++◌, length, Option, Some, None, refl, sym, ap, ◌∙◌, subst, arith}
use Rattle.std.specs.Prelude.{◌||◌, Result, Ok, Err, IfOk, nat_le, nat_lt, if◌then◌else◌, is_some}
use Rattle.std.specs.List.{AllByRecursion, list_any}
use Rattle.std.proofs.lemmas.Bool.{cond_both, false≢true, ltb-false, leb-false, or_parts}
use Rattle.zb_types.specs.declared.ids.Fid.{Fid}
use Rattle.zb_types.specs.declared.ids.Ptr.{Ptr}
use Rattle.zb_types.specs.declared.calls.Call.{Call}
use Rattle.zb_types.specs.declared.calls.Call.TheVariants.{Create, Mkdir, Remove, Rename, Write as WriteCall, Truncate, Sync as SyncCall, Read, List as ListOf, Stat, Find}
use Rattle.zb_types.specs.declared.calls.Reply.{Reply}
use Rattle.zb_types.specs.declared.calls.Reply.TheVariants.{Done, Made, Refused}
use Rattle.zb_types.specs.declared.calls.Refusal.{Refusal}
use Rattle.zb_types.specs.declared.calls.Refusal.TheVariants.{NoEntry, NotEmpty, Full, Exists, Gone, TooBig}
use Rattle.zb_types.specs.Keyed.{look, put, replaced}
use Rattle.zb_types.specs.Paths.{is_path}
use Rattle.zb_types.specs.Names.{Entry, directory, numbered, Names, dropped, find, has, is_below, is_within, last_number, max_names, name_change, name_effect, name_refusal, walk, when}
use Rattle.zb_types.specs.Tree.{files_after}
use Rattle.zb_types.specs.Apply.{max_file}
use Rattle.zb_types.proofs.KeyedLists.{IsRising, IsRising-put, IsRising-replaced, IsRising-without, IsRising-from_ordered, ordered-from_IsRising}
use Rattle.zb_names.specs.Changing.{Changed, MayCarry, carried, relocated, staying, within}
use Rattle.zb_names.specs.Sound.{IsTree}
use Rattle.zb_names.proofs.Carrying.{length-with_entries, may_create, may_mkdir, may_remove, may_rename, removed}
use Rattle.zb_names.proofs.Finding.{has-find}
use Rattle.zb_names.proofs.Fronts.{first_parts}
use Rattle.zb_delta.specs.declared.delta.Delta.{Delta}
use Rattle.zb_delta.specs.Spelling.{IsDelta, body_of}
use Rattle.zb_batch.specs.declared.batch.Op.{Op}
use Rattle.zb_batch.specs.declared.batch.Op.TheVariants.{Name, Write, Cut, Sync, Clean}
use Rattle.zb_batch.specs.Batches.{IsNameCall, IsOp}
use Rattle.zb_batch.specs.Spelling.{deltas_of}
use Rattle.zb_tables.specs.Tables.{FileState, last_value}
use Rattle.zb_tables.specs.Fold.{Files, Shelf, Stale, after_cut, after_write, all_moved, and_then, below, blocks_in, done_op, done_ops, is_movable, moved, moved_in, named, new_file, replied, resized, set_all, with_blocks}
use Rattle.zb_tables.specs.Pointing.{AllNow}
use Rattle.zb_tables.specs.Taking.{IsPointer, Sizes}
use Rattle.zb_tables.specs.Checkpoint.{IsFile, IsPlace, IsUpdateReply, number_of}
use Rattle.zb_tables.proofs.Alls.{all_filter, all_keyed, all_map, all_put, all_replaced, all_two, all_without, rising_kept, some_is}
use Rattle.zb_tables.proofs.Counted.{one_self, times}
use Rattle.zb_tables.proofs.NamesForm.{Entries, above_none, among_keys, among_names, dropped_one, key_found, kept_or_not, moved_same, only_found, put_new, replaced_same, with_more}
use Rattle.zb_tables.proofs.Form.{risen_within}

-- ---- blocks

record BlocksForm (z : Sizes) (blocks : List (ℕ × Ptr)) : Type 0 where
  numbers : AllByRecursion (λ (k : ℕ × Ptr). k.0 < 2 ^ 32) blocks
  rising : IsRising blocks
  pointers : AllByRecursion (λ (k : ℕ × Ptr). IsPointer z k.1 × IsPlace k.1) blocks

record DeltaForm (z : Sizes) (d : Delta) : Type 0 where
  block : (body_of d).block < 2 ^ 32
  pointer : IsPointer z (body_of d).now
  place : IsPlace (body_of d).now

put_form : (z : Sizes) (d : Delta) (blocks : List (ℕ × Ptr)) → DeltaForm z d → BlocksForm z blocks → BlocksForm z (put (body_of d).block (body_of d).now blocks)
put_form z d blocks f b = record {
  numbers = all_put (λ (k : ℕ × Ptr). k.0 < 2 ^ 32) (body_of d).block (body_of d).now f.block blocks b.numbers;
  rising = IsRising-put (body_of d).block (body_of d).now blocks b.rising;
  pointers = all_put (λ (k : ℕ × Ptr). IsPointer z k.1 × IsPlace k.1) (body_of d).block (body_of d).now (f.pointer, f.place) blocks b.pointers;
}

set_form : (z : Sizes) (ds : List Delta) (blocks : List (ℕ × Ptr)) → AllByRecursion (DeltaForm z) ds → BlocksForm z blocks → BlocksForm z (set_all ds blocks)
set_form z [] blocks f b = b
set_form z (d ∷ ds) blocks f b = set_form z ds (put (body_of d).block (body_of d).now blocks) f.1 (put_form z d blocks f.0 b)

below_form : (z : Sizes) (n : ℕ) (blocks : List (ℕ × Ptr)) → BlocksForm z blocks → BlocksForm z (below n blocks)
below_form z n blocks b = record {
  numbers = all_filter (λ (e : ℕ × Ptr). nat_lt e.0 n) (λ (k : ℕ × Ptr). k.0 < 2 ^ 32) (λ (k : ℕ × Ptr). k.0 < 2 ^ 32) (λ e t lt. lt) blocks b.numbers;
  rising = rising_kept (λ (e : ℕ × Ptr). nat_lt e.0 n) blocks b.rising;
  pointers = all_filter (λ (e : ℕ × Ptr). nat_lt e.0 n) (λ (k : ℕ × Ptr). IsPointer z k.1 × IsPlace k.1) (λ (k : ℕ × Ptr). IsPointer z k.1 × IsPlace k.1) (λ e t p. p) blocks b.pointers;
}

-- what can be spelled, with pointers within stripes
delta_form : (z : Sizes) (d : Delta) → IsDelta d → IsPointer z (body_of d).now → DeltaForm z d
delta_form z d is pointer = record {
  block = let b = is.block in omega (arith, b);
  pointer = pointer;
  place = record { log = let l = is.now.log in omega (arith, l); stripe = let s = is.now.stripe in omega (arith, s) };
}

deltas_form : (z : Sizes) (o : Op) → IsOp o → AllNow (IsPointer z) (deltas_of o) → AllByRecursion (DeltaForm z) (deltas_of o)
deltas_form z o is pointers = all_two IsDelta (λ (d : Delta). IsPointer z (body_of d).now) (DeltaForm z) (delta_form z) (deltas_of o) is.deltas pointers

-- ---- files

blocks_of : (z : Sizes) (next : ℕ) (e : ℕ × FileState) → IsFile z next e → BlocksForm z (e.1).blocks
blocks_of z next e f = record { numbers = f.numbers; rising = IsRising-from_ordered (e.1).blocks f.rising; pointers = f.pointers }

file_of : (z : Sizes) (next n : ℕ) (file : FileState) → (1 ≤ n) × (n < next) → (1 ≤ file.version) × (file.version ≤ last_value) → file.length ≤ max_file → BlocksForm z file.blocks → IsFile z next (n, file)
file_of z next n file number version short b = record {
  numbered = number;
  version = version;
  short = short;
  numbers = b.numbers;
  rising = ordered-from_IsRising file.blocks b.rising;
  pointers = b.pointers;
}

module _ (z : Sizes) (next n : ℕ) (file : FileState) (f : IsFile z next (n, file)) (deltas : List Delta) (all : AllByRecursion (DeltaForm z) deltas) where
  write_file : (end : ℕ) → end ≤ max_file → IsFile z next (n, after_write end deltas file)
  write_file end short =
      file_of z next n (after_write end deltas file) f.numbered (risen_within file.version f.version) (let old = f.short in omega (arith, old, short)) (set_form z deltas file.blocks all (blocks_of z next (n, file) f))

  cut_file : (b size : ℕ) → size ≤ max_file → IsFile z next (n, after_cut b size deltas file)
  cut_file b size short =
      file_of z next n (after_cut b size deltas file) f.numbered (risen_within file.version f.version) short
      (set_form z deltas (below (blocks_in b size) file.blocks) all (below_form z (blocks_in b size) file.blocks (blocks_of z next (n, file) f)))

-- files that are those of the names, in order and in form
pub record FilesForm (z : Sizes) (names : Names) (files : Files) : Type 0 where
  pub same_numbers : (k : ℕ) → among_names k names.entries ≡ among_keys k files
  pub rising : IsRising files
  pub all : AllByRecursion (IsFile z names.next) files

-- another value of a file
set_files : (z : Sizes) (names : Names) (files : Files) (n : ℕ) (new : FileState) → IsFile z names.next (n, new) → FilesForm z names files → FilesForm z names (replaced n new files)
set_files z names files n new is f = record {
  same_numbers = λ k. f.same_numbers k ∙ sym (replaced_same k n new files);
  rising = IsRising-replaced n new files f.rising;
  all = all_replaced (IsFile z names.next) n new is files f.all;
}

-- ---- moves

move_files : (z : Sizes) (names : Names) (d : Delta) (files : Files) → DeltaForm z d → FilesForm z names files → FilesForm z names (moved (body_of d) files)
move_files z names d files delta f = by (look (body_of d).fid.0 files) refl where
  set : (o : Option FileState) → look (body_of d).fid.0 files ≡ o → FilesForm z names (moved_in (body_of d) o files)
  set None at = f
  set (Some file) at =
      let own = all_keyed (IsFile z names.next) (body_of d).fid.0 file files f.all at in
      let blocks = put_form z d file.blocks delta (blocks_of z names.next ((body_of d).fid.0, file) own) in
      set_files z names files (body_of d).fid.0 (with_blocks (put (body_of d).block (body_of d).now file.blocks) file)
      (file_of z names.next (body_of d).fid.0 (with_blocks (put (body_of d).block (body_of d).now file.blocks) file) own.numbered own.version own.short blocks) f

  by : (o : Option FileState) → look (body_of d).fid.0 files ≡ o → FilesForm z names (moved (body_of d) files)
  by o at = subst (λ (q : Option FileState). FilesForm z names (if is_movable (body_of d) q then moved_in (body_of d) q files else files)) (sym at)
      (cond_both (is_movable (body_of d) o) (moved_in (body_of d) o files) files (FilesForm z names) (λ _. set o at) (λ _. f))

moves_files : (z : Sizes) (names : Names) (ds : List Delta) (files : Files) → AllByRecursion (DeltaForm z) ds → FilesForm z names files → FilesForm z names (all_moved ds files)
moves_files z names [] files all f = f
moves_files z names (d ∷ ds) files all f = moves_files z names ds (moved (body_of d) files) all.1 (move_files z names d files all.0 f)

-- ---- names and files

pub record ShelfForm (z : Sizes) (s : Shelf) : Type 0 where
  pub tree : IsTree s.names.next s.names.entries
  pub next : s.names.next ≤ last_number
  pub few : length s.names.entries ≤ max_names
  pub files : FilesForm z s.names s.files
  pub replies : AllByRecursion IsUpdateReply s.replies

one_more : (replies : List Reply) (reply : Reply) → AllByRecursion IsUpdateReply replies → IsUpdateReply reply → AllByRecursion IsUpdateReply (replies ++ reply ∷ [])
one_more [] reply all is = (is, tt)
one_more (r ∷ rs) reply all is = (all.0, one_more rs reply all.1 is)

reply_form : (z : Sizes) (s : Shelf) (reply : Reply) → IsUpdateReply reply → ShelfForm z s → ShelfForm z (replied s reply)
reply_form z s reply is f = record { tree = f.tree; next = f.next; few = f.few; files = f.files; replies = one_more s.replies reply f.replies is }

-- a write or a cut
resized_form : (z : Sizes) (s : Shelf) (fid : Fid) (version end : ℕ) (new : FileState → FileState) → ShelfForm z s
    → ((file : FileState) → IsFile z s.names.next (fid.0, file) → end ≤ max_file → IsFile z s.names.next (fid.0, new file))
    → (o : Option FileState) → look fid.0 s.files ≡ o → IfOk (resized s fid version end new o) (ShelfForm z)
resized_form z s fid version end new f each None at = reply_form z s (Refused Gone) tt f
resized_form z s fid version end new f each (Some file) at =
    cond_both (eqb version file.version) _ _ (λ (r : Result Shelf Stale). IfOk r (ShelfForm z))
    (λ _. cond_both (nat_lt max_file end) _ _ (λ (r : Result Shelf Stale). IfOk r (ShelfForm z)) (λ _. reply_form z s (Refused TooBig) tt f)
    (λ short. record {
      tree = f.tree;
      next = f.next;
      few = f.few;
      files = set_files z s.names s.files fid.0 (new file) (each file (all_keyed (IsFile z s.names.next) fid.0 file s.files f.files.all at) (ltb-false max_file end short)) f.files;
      replies = one_more s.replies Done f.replies tt;
    }))
    (λ _. tt)

-- what was carried out of names is a tree, within its limit
module _ (names : Names) (few : length names.entries ≤ max_names) where
  carried_few : (change : Changed) → MayCarry change names → length (carried change names).entries ≤ max_names
  carried_few change may = let room = may.room in let long = length-with_entries change.fresh (staying change.gone names.entries) in omega (arith, room, long)

module _ (z : Sizes) (s : Shelf) (f : ShelfForm z s) where
  abbrev Entr : Entries
  Entr = s.names.entries

  -- the names change, and the files as they are counted
  changed_form : (names : Names) (files : Files) (reply : Reply) → IsTree names.next names.entries → names.next ≤ last_number → length names.entries ≤ max_names → FilesForm z names files → IsUpdateReply reply
      → ShelfForm z (record { names = names; files = files; replies = s.replies ++ reply ∷ [] })
  changed_form names files reply tree next few count is = record { tree = tree; next = next; few = few; files = count; replies = one_more s.replies reply f.replies is }

  numbered_on : (more : ℕ) → s.names.next ≤ more → AllByRecursion (IsFile z more) s.files
  numbered_on more le = all_map (IsFile z s.names.next) (IsFile z more) (λ e i. record {
    numbered = (i.numbered.0, let lt = i.numbered.1 in omega (arith, lt, le));
    version = i.version;
    short = i.short;
    numbers = i.numbers;
    rising = i.rising;
    pointers = i.pointers;
  }) s.files f.files.all

  below_next : AllByRecursion (λ (e : ℕ × FileState). e.0 < s.names.next) s.files
  below_next = all_map (IsFile z s.names.next) (λ (e : ℕ × FileState). e.0 < s.names.next) (λ e i. i.numbered.1) s.files f.files.all

  when_none : (test : Bool) (why : Refusal) → when test why ≡ None → test ≡ false
  when_none true why h = absurd cc
  when_none false why h = refl

  create_form : (path : List ℕ) → is_path path ≡ true → name_refusal s.names (Create path) ≡ None → ShelfForm z (named s (Create path) None)
  create_form path is free =
      let may = may_create s.names f.tree path is free in
      let a = first_parts (walk Entr path) _ free in
      let b = first_parts (when (has path Entr) Exists) _ a.1 in
      let c = first_parts (when (nat_le max_names (length Entr) || nat_le last_number s.names.next) Full) [] b.1 in
      let room = or_parts (nat_le max_names (length Entr)) (nat_le last_number s.names.next) (when_none _ Full c.0) in
      let low : s.names.next < last_number = leb-false last_number s.names.next room.1 in
      let from = f.tree.numbered in
      changed_form (name_effect s.names (Create path)) (put s.names.next new_file s.files) (Made (record { 0 = s.names.next })) may.tree (omega (arith, low)) (carried_few s.names f.few _ may) (record {
        same_numbers = λ k.
            let names = with_more k ((path, numbered s.names.next) ∷ []) Entr in
            let files = put_new k s.names.next new_file s.files (above_none s.names.next s.files below_next) in
            let old = f.files.same_numbers k in
            omega (arith, names, files, old);
        rising = IsRising-put s.names.next new_file s.files f.files.rising;
        all = all_put (IsFile z (s.names.next + 1)) s.names.next new_file
            (file_of z (s.names.next + 1) s.names.next new_file (from, omega arith) (omega arith, omega arith) (omega arith) (record { numbers = tt; rising = tt; pointers = tt })) s.files
            (numbered_on (s.names.next + 1) (omega arith));
      }) (omega (arith, low))

  mkdir_form : (path : List ℕ) → is_path path ≡ true → name_refusal s.names (Mkdir path) ≡ None → ShelfForm z (named s (Mkdir path) None)
  mkdir_form path is free =
      let may = may_mkdir s.names f.tree path is free in
      changed_form (name_effect s.names (Mkdir path)) s.files Done may.tree f.next (carried_few s.names f.few _ may) (record {
        same_numbers = λ k. let names = with_more k ((path, directory) ∷ []) Entr in let old = f.files.same_numbers k in omega (arith, names, old);
        rising = f.files.rising;
        all = f.files.all;
      }) tt

  rename_form : (path to : List ℕ) → is_path path ≡ true → is_path to ≡ true → name_refusal s.names (Rename path to) ≡ None → ShelfForm z (named s (Rename path to) None)
  rename_form path to is is_to free =
      let may = may_rename s.names f.tree path to is is_to free in
      changed_form (name_effect s.names (Rename path to)) s.files Done may.tree f.next (carried_few s.names f.few _ may) (record {
        same_numbers = λ k.
            let names = with_more k (relocated (length path) to (within path Entr)) (staying (Some path) Entr) in
            let moves = moved_same k (length path) to (within path Entr) in
            let both = kept_or_not k (λ e. is_within path e.0) Entr in
            let old = f.files.same_numbers k in
            omega (arith, names, moves, both, old);
        rising = f.files.rising;
        all = f.files.all;
      }) tt

  -- what is removed, by what stands there
  module _ (path : List ℕ) (free : name_refusal s.names (Remove path) ≡ None) where
    none_below : list_any (λ e. is_below path e.0) Entr ≡ false
    none_below =
        let a = first_parts (walk Entr path) _ free in
        let b = first_parts (when (not (has path Entr)) NoEntry) _ a.1 in
        let c = first_parts (when (list_any (λ e. is_below path e.0) Entr) NotEmpty) [] b.1 in
        when_none _ NotEmpty c.0

    not_missing : find path Entr ≡ None → ⊥
    not_missing none =
        let a = first_parts (walk Entr path) _ free in
        let b = first_parts (when (not (has path Entr)) NoEntry) _ a.1 in
        let test = when_none _ NoEntry b.0 in
        false≢true (sym test ∙ ap not (has-find path Entr ∙ ap is_some none))

    abbrev Left : Names
    Left = carried (record { gone = Some path; fresh = []; next = s.names.next }) s.names

    -- how often a number is a file's, without what stood at the path
    one_less : (entry : Entry) → find path Entr ≡ Some entry → (k : ℕ) → times k (number_of entry) + among_names k Left.entries ≡ among_keys k s.files
    one_less entry found k =
        let both = kept_or_not k (λ e. is_within path e.0) Entr in
        let only = only_found s.names.next k path entry Entr f.tree found none_below in
        let old = f.files.same_numbers k in
        omega (arith, both, only, old)

    remove_files : (o : Option Entry) → find path Entr ≡ o → FilesForm z Left (files_after new_file (dropped o) s.files)
    remove_files None at = absurd (not_missing at)
    remove_files (Some directory) at = record {
      same_numbers = λ k. let less = one_less directory at k in omega (arith, less);
      rising = f.files.rising;
      all = f.files.all;
    }
    remove_files (Some (numbered n)) at =
        let there = some_is (look n s.files) (key_found n s.files (let less = one_less (numbered n) at n in let self = one_self n in omega (arith, less, self))) in
        record {
          same_numbers = λ k.
              let less = one_less (numbered n) at k in
              let drop = dropped_one k n there.0 s.files f.files.rising there.1 in
              omega (arith, less, drop);
          rising = IsRising-without n s.files f.files.rising;
          all = all_without (IsFile z s.names.next) n s.files f.files.all;
        }

    remove_form : ShelfForm z (named s (Remove path) None)
    remove_form =
        let may = may_remove s.names f.tree path free in
        subst (λ (names : Names). ShelfForm z (record { names = names; files = files_after new_file (name_change s.names (Remove path)) s.files; replies = s.replies ++ Done ∷ [] })) (removed s.names f.tree path free)
        (changed_form Left (files_after new_file (name_change s.names (Remove path)) s.files) Done may.tree f.next (carried_few s.names f.few _ may) (remove_files (find path Entr) refl) tt)

  named_form : (call : Call) → IsNameCall call → (why : Option Refusal) → name_refusal s.names call ≡ why → ShelfForm z (named s call why)
  named_form call is (Some why) e = reply_form z s (Refused why) tt f
  named_form (Create path) is None e = create_form path is e
  named_form (Mkdir path) is None e = mkdir_form path is e
  named_form (Remove path) is None e = remove_form path e
  named_form (Rename path to) is None e = rename_form path to is.0 is.1 e
  named_form (WriteCall fid offset bytes) is None e = absurd is
  named_form (Truncate fid size) is None e = absurd is
  named_form SyncCall is None e = absurd is
  named_form (Read fid offset len) is None e = absurd is
  named_form (ListOf path) is None e = absurd is
  named_form (Stat path) is None e = absurd is
  named_form (Find path) is None e = absurd is

-- one operation
op_form : (z : Sizes) (b : ℕ) (s : Shelf) (o : Op) → IsOp o → AllNow (IsPointer z) (deltas_of o) → ShelfForm z s → IfOk (done_op b s o) (ShelfForm z)
op_form z b s (Name call what) is now f = named_form z s f what is.shaped (name_refusal s.names what) refl
op_form z b s (Write call fid version offset len deltas) is now f =
    resized_form z s fid version (offset + len) (after_write (offset + len) deltas) f
    (λ file own short. write_file z s.names.next fid.0 file own deltas (deltas_form z (Write call fid version offset len deltas) is now) (offset + len) short) (look fid.0 s.files) refl
op_form z b s (Cut call fid version size deltas) is now f =
    resized_form z s fid version size (after_cut b size deltas) f
    (λ file own short. cut_file z s.names.next fid.0 file own deltas (deltas_form z (Cut call fid version size deltas) is now) b size short) (look fid.0 s.files) refl
op_form z b s (Sync call) is now f = reply_form z s Done tt f
op_form z b s (Clean deltas) is now f = record {
  tree = f.tree;
  next = f.next;
  few = f.few;
  files = moves_files z s.names deltas s.files (deltas_form z (Clean deltas) is now) f.files;
  replies = f.replies;
}

-- all operations of a batch
pub ops_form : (z : Sizes) (b : ℕ) (ops : List Op) (s : Shelf) → AllByRecursion IsOp ops → AllByRecursion (λ (o : Op). AllNow (IsPointer z) (deltas_of o)) ops → ShelfForm z s → IfOk (done_ops b ops s) (ShelfForm z)
ops_form z b [] s are now f = f
ops_form z b (o ∷ os) s are now f = step (done_op b s o) (op_form z b s o are.0 now.0 f) (λ t g. ops_form z b os t are.1 now.1 g) where
  step : (done : Result Shelf Stale) → IfOk done (ShelfForm z) → ((t : Shelf) → ShelfForm z t → IfOk (done_ops b os t) (ShelfForm z)) → IfOk (and_then done (done_ops b os)) (ShelfForm z)
  step (Err stale) g rest = tt
  step (Ok t) g rest = rest t g
