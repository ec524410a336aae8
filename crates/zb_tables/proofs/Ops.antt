-- What the operations of a batch show.
use Rattle.std.proofs.Common.{◌≡◌, ℕ, ◌+◌, ◌<◌, Bool, true, false, eqb, List, [], ◌∷◌, ◌++◌, length, Option, Some, None, refl, sym, ap, ◌∙◌, subst, append_assoc}
use Rattle.std.specs.Prelude.{nat_lt, not, is_some, if◌then◌else◌, Result, Ok, Err, IfOk}
use Rattle.std.specs.Bool.{MatchBool}
use Rattle.std.proofs.lemmas.Bool.{eq-eqb, false≢true}
use Rattle.std.proofs.lemmas.Option.{none-some}
use Rattle.std.proofs.lemmas.List.{append-nil}
use Rattle.zb_types.specs.declared.ids.Fid.{Fid}
use Rattle.zb_types.specs.declared.calls.Call.{Call}
use Rattle.zb_types.specs.declared.calls.Call.TheVariants.{Create, Mkdir, Remove, Rename, Write as WriteCall, Truncate, Sync as SyncCall, Read, List as ListOf, Stat, Find}
use Rattle.zb_types.specs.declared.calls.Reply.{Reply}
use Rattle.zb_types.specs.declared.calls.Reply.TheVariants.{Done, Refused}
use Rattle.zb_types.specs.declared.calls.Refusal.{Refusal}
use Rattle.zb_types.specs.declared.calls.Refusal.TheVariants.{Gone, TooBig}
use Rattle.zb_types.specs.Keyed.{look, replaced, changed}
use Rattle.zb_types.specs.Names.{when, first, name_refusal, name_effect, name_change, name_reply, Change, same, makes, drops}
use Rattle.zb_types.specs.Bytes.{written, resized as resized_bytes}
use Rattle.zb_types.specs.Tree.{Tree, files_after, or_none}
use Rattle.zb_types.specs.Apply.{max_file, applied, reply_to, after_refusal, or_refused}
use Rattle.zb_types.proofs.KeyedLists.{over, look-changed, changed-put, changed-replaced, changed-without}
use Rattle.zb_delta.specs.declared.delta.Delta.{Delta}
use Rattle.zb_batch.specs.declared.batch.Op.{Op}
use Rattle.zb_batch.specs.declared.batch.Op.TheVariants.{Name, Write, Cut, Sync}
use Rattle.zb_tables.specs.Tables.{FileState, Contents, shown_bytes, EndsInFile, EachFile}
use Rattle.zb_tables.specs.Fold.{Shelf, Stale, Files, new_file, replied, with_file, named, resized, done_op, done_ops, and_then, after_write, after_cut}
use Rattle.zb_tables.specs.Spelled.{WriteFits, CutFits, IsOfNames, OpIs, OpsAre}
use Rattle.zb_tables.specs.Shown.{shelf_tree, tree_through, replies_through, Shows}
use Rattle.zb_tables.proofs.Each.{each_put, each_replaced, each_without, each_look}
use Rattle.zb_tables.proofs.Blocks.{write_shows, write_ends, cut_shows, cut_ends}

module _ (b : ℕ) (contents : Contents) where
  abbrev Shown : Files → List (ℕ × List ℕ)
  Shown files = changed (shown_bytes b contents) files

  -- what an operation leaves, where an update leaves this tree and has this reply
  pub record OpShows (s : Shelf) (done : Result Shelf Stale) (tree : Tree) (reply : Reply) : Type 0 where
    pub next : Shelf
    pub is : done ≡ Ok next
    pub ends : EachFile (EndsInFile b) next.files
    pub tree_is : shelf_tree b contents next ≡ tree
    pub replies : next.replies ≡ s.replies ++ reply ∷ []

  changes_show : (ch : Change) (files : Files) → Shown (files_after new_file ch files) ≡ files_after [] ch (Shown files)
  changes_show same files = refl
  changes_show (makes n) files = changed-put (shown_bytes b contents) n new_file files
  changes_show (drops n) files = changed-without (shown_bytes b contents) n files

  new_ends : EndsInFile b new_file
  new_ends k p e = absurd (none-some p e)

  changes_end : (ch : Change) (files : Files) → EachFile (EndsInFile b) files → EachFile (EndsInFile b) (files_after new_file ch files)
  changes_end same files all = all
  changes_end (makes n) files all = each_put (EndsInFile b) files n new_file all new_ends
  changes_end (drops n) files all = each_without (EndsInFile b) files n all

  names_show : (s : Shelf) (call : Call) (why : Option Refusal) → EachFile (EndsInFile b) s.files
      → OpShows s (Ok (named s call why))
      (after_refusal why (shelf_tree b contents s) (record { names = name_effect s.names call; files = files_after [] (name_change s.names call) (Shown s.files) }))
      (or_refused why (name_reply s.names call))
  names_show s call (Some why) all = record { next = replied s (Refused why); is = refl; ends = all; tree_is = refl; replies = refl }
  names_show s call None all = record {
    next = named s call None;
    is = refl;
    ends = changes_end (name_change s.names call) s.files all;
    tree_is = ap (λ (fs : List (ℕ × List ℕ)). record { names = name_effect s.names call; files = fs }) (changes_show (name_change s.names call) s.files);
    replies = refl;
  }

  module _ (s : Shelf) (all : EachFile (EndsInFile b) s.files) (fid : Fid) (version end : ℕ) (new : FileState → FileState) (bytes : List ℕ → List ℕ) where
    abbrev Fits : Option FileState → Type 0
    Fits None = Unit {0}
    Fits (Some file) = (version ≡ file.version) × MatchBool (nat_lt max_file end) (Unit {0}) ((shown_bytes b contents (new file) ≡ bytes (shown_bytes b contents file)) × EndsInFile b (new file))

    abbrev why_not : Option (List ℕ) → Bool → Option Refusal
    why_not o big = first (when (not (is_some o)) Gone ∷ when big TooBig ∷ [])

    abbrev with_new : Option (List ℕ) → Tree
    with_new o = record { names = s.names; files = replaced fid.0 (bytes (or_none o)) (Shown s.files) }

    resized_by : (file : FileState) (v big : Bool) → v ≡ true
        → MatchBool big (Unit {0}) ((shown_bytes b contents (new file) ≡ bytes (shown_bytes b contents file)) × EndsInFile b (new file))
        → OpShows s (if v then (if big then Ok (replied s (Refused TooBig)) else Ok (with_file s fid (new file))) else Err (record { fid = fid; seen = version; now = file.version }))
        (after_refusal (why_not (Some (shown_bytes b contents file)) big) (shelf_tree b contents s) (with_new (Some (shown_bytes b contents file))))
        (or_refused (why_not (Some (shown_bytes b contents file)) big) Done)
    resized_by file false big v fits = absurd (false≢true v)
    resized_by file true true v fits = record { next = replied s (Refused TooBig); is = refl; ends = all; tree_is = refl; replies = refl }
    resized_by file true false v fits =
        record {
          next = with_file s fid (new file);
          is = refl;
          ends = each_replaced (EndsInFile b) s.files fid.0 (new file) all fits.1;
          tree_is = ap (λ (fs : List (ℕ × List ℕ)). record { names = s.names; files = fs }) (changed-replaced (shown_bytes b contents) fid.0 (new file) s.files ∙ ap (λ bs. replaced fid.0 bs (Shown s.files)) fits.0);
          replies = refl;
        }

    abbrev Sized : Option FileState → Option (List ℕ) → Type 0
    Sized o shown = OpShows s (resized s fid version end new o)
        (after_refusal (why_not shown (nat_lt max_file end)) (shelf_tree b contents s) (with_new shown))
        (or_refused (why_not shown (nat_lt max_file end)) Done)

    resized_at : (o : Option FileState) → Fits o → Sized o (over (shown_bytes b contents) o)
    resized_at None fits = record { next = replied s (Refused Gone); is = refl; ends = all; tree_is = refl; replies = refl }
    resized_at (Some file) fits = resized_by file (eqb version file.version) (nat_lt max_file end) (eq-eqb version file.version fits.0) fits.1

    pub resized_shows : Fits (look fid.0 s.files) → Sized (look fid.0 s.files) (look fid.0 (Shown s.files))
    resized_shows fits = subst (Sized (look fid.0 s.files)) (sym (look-changed (shown_bytes b contents) fid.0 s.files)) (resized_at (look fid.0 s.files) fits)

  match_map : (big : Bool) (P Q R : Type 0) → (Q → R) → MatchBool big P Q → MatchBool big (Unit {0}) R
  match_map true P Q R f m = tt
  match_map false P Q R f m = f m

  write_fits : (pos : 0 < b) (s : Shelf) (all : EachFile (EndsInFile b) s.files) (fid : Fid) (version offset : ℕ) (bytes : List ℕ) (deltas : List Delta) (o : Option FileState) → look fid.0 s.files ≡ o
      → WriteFits b contents o version offset bytes deltas
      → Fits s all fid version (offset + length bytes) (after_write (offset + length bytes) deltas) (λ old. written old offset bytes) o
  write_fits pos s all fid version offset bytes deltas None e w = tt
  write_fits pos s all fid version offset bytes deltas (Some file) e w =
      let ends = each_look (EndsInFile b) s.files fid.0 file all e in
      (w.0, match_map (nat_lt max_file (offset + length bytes)) _ _ _ (λ m. (write_shows b pos contents file ends offset bytes deltas m.0 m.1, write_ends b pos contents file ends offset bytes deltas m.0 m.1)) w.1)

  cut_fits : (pos : 0 < b) (s : Shelf) (all : EachFile (EndsInFile b) s.files) (fid : Fid) (version n : ℕ) (deltas : List Delta) (o : Option FileState) → look fid.0 s.files ≡ o
      → CutFits b contents o version n deltas
      → Fits s all fid version n (after_cut b n deltas) (λ old. resized_bytes old n) o
  cut_fits pos s all fid version n deltas None e w = tt
  cut_fits pos s all fid version n deltas (Some file) e w =
      let ends = each_look (EndsInFile b) s.files fid.0 file all e in
      (w.0, match_map (nat_lt max_file n) _ _ _ (λ m. (cut_shows b pos contents file ends n deltas m.0 m.1, cut_ends b pos contents file ends n deltas m.0 m.1)) w.1)

  -- an operation leaves and answers what this update does
  abbrev IsDone : Shelf → Op → Call → Type 0
  IsDone s o u = OpShows s (done_op b s o) (applied (shelf_tree b contents s) u) (reply_to (shelf_tree b contents s) u)

  name_op : (s : Shelf) (call : ℕ) (all : EachFile (EndsInFile b) s.files) (what : Call) → IsOfNames what → IsDone s (Name call what) what
  name_op s call all (Create path) is = names_show s (Create path) (name_refusal s.names (Create path)) all
  name_op s call all (Mkdir path) is = names_show s (Mkdir path) (name_refusal s.names (Mkdir path)) all
  name_op s call all (Remove path) is = names_show s (Remove path) (name_refusal s.names (Remove path)) all
  name_op s call all (Rename path to) is = names_show s (Rename path to) (name_refusal s.names (Rename path to)) all
  name_op s call all (WriteCall fid offset bytes) is = absurd is
  name_op s call all (Truncate fid n) is = absurd is
  name_op s call all SyncCall is = absurd is
  name_op s call all (Read fid offset len) is = absurd is
  name_op s call all (ListOf path) is = absurd is
  name_op s call all (Stat path) is = absurd is
  name_op s call all (Find path) is = absurd is

  write_op : (pos : 0 < b) (s : Shelf) (all : EachFile (EndsInFile b) s.files) (call : ℕ) (fid : Fid) (version offset len : ℕ) (deltas : List Delta) (g : Fid) (at : ℕ) (bytes : List ℕ)
      → fid ≡ g → offset ≡ at → len ≡ length bytes → WriteFits b contents (look fid.0 s.files) version offset bytes deltas
      → IsDone s (Write call fid version offset len deltas) (WriteCall g at bytes)
  write_op pos s all call fid version offset len deltas g at bytes eg ea el fits =
      subst (λ (h : Fid). IsDone s (Write call fid version offset len deltas) (WriteCall h at bytes)) eg (
      subst (λ (o : ℕ). IsDone s (Write call fid version offset len deltas) (WriteCall fid o bytes)) ea (
      subst (λ (l : ℕ). IsDone s (Write call fid version offset l deltas) (WriteCall fid offset bytes)) (sym el) (
      resized_shows s all fid version (offset + length bytes) (after_write (offset + length bytes) deltas) (λ old. written old offset bytes)
      (write_fits pos s all fid version offset bytes deltas (look fid.0 s.files) refl fits))))

  cut_op : (pos : 0 < b) (s : Shelf) (all : EachFile (EndsInFile b) s.files) (call : ℕ) (fid : Fid) (version n : ℕ) (deltas : List Delta) (g : Fid) (m : ℕ)
      → fid ≡ g → n ≡ m → CutFits b contents (look fid.0 s.files) version n deltas
      → IsDone s (Cut call fid version n deltas) (Truncate g m)
  cut_op pos s all call fid version n deltas g m eg em fits =
      subst (λ (h : Fid). IsDone s (Cut call fid version n deltas) (Truncate h m)) eg (
      subst (λ (k : ℕ). IsDone s (Cut call fid version n deltas) (Truncate fid k)) em (
      resized_shows s all fid version n (after_cut b n deltas) (λ old. resized_bytes old n)
      (cut_fits pos s all fid version n deltas (look fid.0 s.files) refl fits)))

  pub op_shows : (pos : 0 < b) (s : Shelf) → EachFile (EndsInFile b) s.files → (o : Op) (u : Call) → OpIs b contents s.files o u → IsDone s o u
  op_shows pos s all (Name call what) u is =
      subst (λ (v : Call). IsDone s (Name call what) v) is.0 (name_op s call all what (subst IsOfNames (sym is.0) is.1))
  op_shows pos s all (Write call fid version offset len deltas) (WriteCall g at bytes) is = write_op pos s all call fid version offset len deltas g at bytes is.0 is.1 is.2 is.3
  op_shows pos s all (Cut call fid version n deltas) (Truncate g m) is = cut_op pos s all call fid version n deltas g m is.0 is.1 is.2
  op_shows pos s all (Sync call) SyncCall is = record { next = replied s Done; is = refl; ends = all; tree_is = refl; replies = refl }
  op_shows pos s all o u is = absurd is

  -- what a batch of operations leaves
  pub record BatchShows (s : Shelf) (ops : List Op) (updates : List Call) : Type 0 where
    pub after : Shelf
    pub is : done_ops b ops s ≡ Ok after
    pub ends : EachFile (EndsInFile b) after.files
    pub shows : Shows b contents s updates after

  pub ops_show : (pos : 0 < b) (ops : List Op) (updates : List Call) (s : Shelf) → EachFile (EndsInFile b) s.files → OpsAre b contents ops updates s → BatchShows s ops updates
  ops_show pos [] [] s all are = record { after = s; is = refl; ends = all; shows = record { tree = refl; replies = sym (append-nil s.replies) } }
  ops_show pos (o ∷ os) (u ∷ us) s all are =
      let first = op_shows pos s all o u are.0 in
      let rest = ops_show pos os us first.next first.ends (subst (λ (d : Result Shelf Stale). IfOk d (OpsAre b contents os us)) first.is are.1) in
      let same = first.tree_is in
      record {
        after = rest.after;
        is = ap (λ (d : Result Shelf Stale). and_then d (done_ops b os)) first.is ∙ rest.is;
        ends = rest.ends;
        shows = record {
          tree = rest.shows.tree ∙ ap (λ (t : Tree). tree_through t us) same;
          replies =
              rest.shows.replies ∙ ap (λ (t : Tree). first.next.replies ++ replies_through t us) same
              ∙ ap (λ (rs : List Reply). rs ++ replies_through (applied (shelf_tree b contents s) u) us) first.replies
              ∙ append_assoc s.replies (reply_to (shelf_tree b contents s) u ∷ []) (replies_through (applied (shelf_tree b contents s) u) us);
        };
      }
  ops_show pos [] (u ∷ us) s all are = absurd are
  ops_show pos (o ∷ os) [] s all are = absurd are
