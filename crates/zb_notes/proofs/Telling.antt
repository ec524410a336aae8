-- The notes of operations tell how the use of stripes changes.
use Rattle.std.proofs.Common.{◌≡◌, ℕ, ◌+◌, ◌<◌, Bool, true, false, List, [], ◌∷◌, ◌++◌, Option, Some, None, refl, sym, ap, ◌∙◌, subst, arith}
use Rattle.std.specs.Prelude.{if◌then◌else◌, ◌==◌, nat_lt, Result, Ok, Err, IfOk, is_ok}
use Rattle.std.specs.List.{AllByRecursion}
use Rattle.std.proofs.lemmas.Bool.{false≢true}
use Rattle.zb_types.specs.declared.ids.Fid.{Fid}
use Rattle.zb_types.specs.declared.ids.LogId.{LogId}
use Rattle.zb_types.specs.declared.ids.Piece.{Piece}
use Rattle.zb_types.specs.declared.ids.Ptr.{Ptr}
use Rattle.zb_types.specs.declared.calls.Call.{Call}
use Rattle.zb_types.specs.declared.calls.Call.TheVariants.{Create, Mkdir, Remove, Rename, Write as WriteCall, Truncate, Sync as SyncCall, Read, List as ListOf, Stat, Find}
use Rattle.zb_types.specs.declared.calls.Refusal.{Refusal}
use Rattle.zb_types.specs.declared.calls.Refusal.TheVariants.{TooBig}
use Rattle.zb_types.specs.declared.calls.Reply.TheVariants.{Refused}
use Rattle.zb_types.specs.Keyed.{look, put, replaced, without}
use Rattle.zb_types.specs.Names.{Entry, directory, numbered, dropped, find, name_refusal}
use Rattle.zb_types.specs.Tree.{files_after}
use Rattle.zb_types.specs.Apply.{max_file}
use Rattle.zb_types.proofs.KeyedLists.{IsRising, IsRising-put, IsRising-from_ordered, without_absent}
use Rattle.zb_delta.specs.declared.delta.Body.{Body}
use Rattle.zb_delta.specs.declared.delta.Delta.{Delta}
use Rattle.zb_delta.specs.Spelling.{body_of}
use Rattle.zb_batch.specs.declared.batch.Batch.{Batch}
use Rattle.zb_batch.specs.declared.batch.Op.{Op}
use Rattle.zb_batch.specs.declared.batch.Op.TheVariants.{Name, Write, Cut, Sync, Clean}
use Rattle.zb_batch.specs.Batches.{IsOp}
use Rattle.zb_batch.specs.Spelling.{deltas_of}
use Rattle.zb_tables.specs.Tables.{FileState, Tables, EachFile}
use Rattle.zb_tables.specs.Fold.{Files, Shelf, Stale, after_cut, after_write, all_moved, and_then, below, blocks_in, committed, done_op, done_ops, is_movable, moved, moved_in, named, new_file, replied, resized, shelf_of, with_blocks, with_file}
use Rattle.zb_tables.specs.Pointing.{AllNow}
use Rattle.zb_tables.specs.Taking.{IsPointer, MayCommit, Sizes}
use Rattle.zb_tables.specs.Checkpoint.{AreTables, IsFile, numbers_of}
use Rattle.zb_tables.proofs.Alls.{all_map, rising_kept}
use Rattle.zb_tables.proofs.Counted.{times_same}
use Rattle.zb_tables.proofs.Each.{each_look, each_replaced}
use Rattle.zb_tables.proofs.NamesForm.{above_none}
use Rattle.zb_tables.proofs.OpsForm.{ShelfForm, ops_form}
use Rattle.zb_pointers.specs.Seen.{blocks_of}
use Rattle.zb_usage.specs.Uses.{bytes_in, stripe_use}
use Rattle.zb_usage.specs.Noting.{come, gone}
use Rattle.zb_usage.proofs.Named.{blocks_use, files_use, use_of_files}
use Rattle.std.specs.Map.{keys_of}
use Rattle.zb_notes.specs.Notes.{change_notes, clean_note, clean_notes, cut_notes, drop_notes, from, gone_notes, name_notes, notes_of, op_notes, ops_notes, removal_notes, set_notes, then_notes, vain_note, write_notes}
use Rattle.zb_notes.specs.Notable.{AreNotable, IsNotable, MovesNotable, OpNotable, OpsNotable, ThenNotable, all_come, all_gone, left_by}
use Rattle.zb_notes.proofs.Sums.{IsChange, update_changes, clean_changes, place_is, come-append, gone-append, come_is, gone_is, set_sums, gone_sums, vain_sums, drop_sums, use_put, use_split, use_from_first, use_replaced, use_made, use_dropped}

-- a file's blocks are in order
abbrev BlocksRise : FileState → Type 0
BlocksRise file = IsRising file.blocks

abbrev files_of : Result Shelf Stale → Files
files_of (Ok s) = s.files
files_of (Err stale) = []

pub files_rise : (z : Sizes) (next : ℕ) (files : Files) → AllByRecursion (IsFile z next) files → EachFile BlocksRise files
files_rise z next files all = all_map (IsFile z next) (λ (e : ℕ × FileState). IsRising (e.1).blocks) (λ e is. IsRising-from_ordered (e.1).blocks is.rising) files all

below_next : (z : Sizes) (next : ℕ) (files : Files) → AllByRecursion (IsFile z next) files → AllByRecursion (λ (e : ℕ × FileState). e.0 < next) files
below_next z next files all = all_map (IsFile z next) (λ (e : ℕ × FileState). e.0 < next) (λ e is. is.numbered.1) files all

not_ok : (stale : Stale) (s : Shelf) → Err stale ≡ Ok s → ⊥
not_ok stale s e = false≢true (ap is_ok e)

module _ (log : LogId) (stripe : ℕ) where
  -- from these files to those, what comes and goes by the notes is the difference of their use
  pub record Leads (before after : Files) (notes : List Delta) : Type 0 where
    pub sum : files_use log stripe after + all_gone log stripe notes ≡ files_use log stripe before + all_come log stripe notes

  leads_none : (files : Files) → Leads files files []
  leads_none files = record { sum = refl }

  leads_both : (a b c : Files) (xs ys : List Delta) → Leads a b xs → Leads b c ys → Leads a c (xs ++ ys)
  leads_both a b c xs ys one other = record {
    sum =
        let first = one.sum in
        let second = other.sum in
        omega (arith, first, second, come-append log stripe xs ys, gone-append log stripe xs ys);
  }

  -- one file gets other blocks
  leads_replaced : (fid : ℕ) (new file : FileState) (files : Files) (notes : List Delta) → look fid files ≡ Some file
      → blocks_use log stripe new.blocks + all_gone log stripe notes ≡ blocks_use log stripe file.blocks + all_come log stripe notes → Leads files (replaced fid new files) notes
  leads_replaced fid new file files notes at sum = record {
    sum =
        let u = use_replaced log stripe fid new file files at in
        omega (arith, u, sum);
  }

  leads_gone : (files : Files) (ds : List Delta) → Leads files files (gone_notes ds)
  leads_gone files ds = record {
    sum =
        let none = gone_sums log stripe ds in
        let c = none.0 in
        let g = none.1 in
        omega (arith, c, g);
  }

  -- ---- a write or a truncation

  module _ (s after : Shelf) (fid : Fid) (version end : ℕ) where
    resized_gone : (new : FileState → FileState) (ds : List Delta) → resized s fid version end new None ≡ Ok after → Leads s.files after.files (gone_notes ds)
    resized_gone new ds done = subst (λ (files : Files). Leads s.files files (gone_notes ds)) (ap files_of done) (leads_gone s.files ds)

    resized_set : (new : FileState → FileState) (file : FileState) (notes : List Delta) → look fid.0 s.files ≡ Some file
        → blocks_use log stripe (new file).blocks + all_gone log stripe notes ≡ blocks_use log stripe file.blocks + all_come log stripe notes
        → resized s fid version end new (Some file) ≡ Ok after → Leads s.files after.files (if nat_lt max_file end then [] else notes)
    resized_set new file notes at sum done = by (version == file.version) (nat_lt max_file end) done
      where
        by : (fits big : Bool)
            → if◌then◌else◌ {A = Result Shelf Stale} fits (if big then Ok (replied s (Refused TooBig)) else Ok (with_file s fid (new file))) (Err (record { fid = fid; seen = version; now = file.version })) ≡ Ok after
            → Leads s.files after.files (if big then [] else notes)
        by false big e = absurd (not_ok _ after e)
        by true true e = subst (λ (files : Files). Leads s.files files []) (ap files_of e) (leads_none s.files)
        by true false e = subst (λ (files : Files). Leads s.files files notes) (ap files_of e) (leads_replaced fid.0 (new file) file s.files notes at sum)

    module _ (rise : EachFile BlocksRise s.files) (ds : List Delta) (all : AllByRecursion IsChange ds) where
      write_leads : (o : Option FileState) → look fid.0 s.files ≡ o → AreNotable ds (blocks_of o) → resized s fid version end (after_write end ds) o ≡ Ok after → Leads s.files after.files (write_notes end ds o)
      write_leads None at may done = resized_gone (after_write end ds) ds done
      write_leads (Some file) at may done =
          resized_set (after_write end ds) file (set_notes ds file.blocks) at (set_sums log stripe ds all file.blocks (each_look BlocksRise s.files fid.0 file rise at) may) done

      cut_leads : (b : ℕ) (o : Option FileState) → look fid.0 s.files ≡ o → AreNotable ds (left_by b end o) → resized s fid version end (after_cut b end ds) o ≡ Ok after → Leads s.files after.files (cut_notes b fid.0 end ds o)
      cut_leads b None at may done = resized_gone (after_cut b end ds) ds done
      cut_leads b (Some file) at may done =
          let n = blocks_in b end in
          let set = set_sums log stripe ds all (below n file.blocks) (rising_kept (λ (e : ℕ × Ptr). nat_lt e.0 n) file.blocks (each_look BlocksRise s.files fid.0 file rise at)) may in
          let gone = drop_sums log stripe fid.0 file.version (from n file.blocks) in
          let c = gone.0 in
          let g = gone.1 in
          let parts = use_split log stripe n file.blocks in
          resized_set (after_cut b end ds) file (set_notes ds (below n file.blocks) ++ drop_notes fid.0 n file) at
          (omega (arith, set, c, g, parts, come-append log stripe (set_notes ds (below n file.blocks)) (drop_notes fid.0 n file), gone-append log stripe (set_notes ds (below n file.blocks)) (drop_notes fid.0 n file))) done

  -- ---- names

  removal_leads : (fid : ℕ) (files : Files) → IsRising files → (o : Option FileState) → look fid files ≡ o → Leads files (without fid files) (removal_notes fid o)
  removal_leads fid files rising None at = subst (λ (fs : Files). Leads files fs []) (sym (without_absent fid files at)) (leads_none files)
  removal_leads fid files rising (Some file) at = record {
    sum =
        let u = use_dropped log stripe fid file files rising at in
        let gone = drop_sums log stripe fid file.version (from 0 file.blocks) in
        let c = gone.0 in
        let g = gone.1 in
        let all = use_from_first log stripe file.blocks in
        omega (arith, u, c, g, all);
  }

  module _ (z : Sizes) (s : Shelf) (f : ShelfForm z s) where
    remove_leads : (o : Option Entry) → Leads s.files (files_after new_file (dropped o) s.files) (change_notes (dropped o) s.files)
    remove_leads None = leads_none s.files
    remove_leads (Some directory) = leads_none s.files
    remove_leads (Some (numbered number)) = removal_leads number s.files f.files.rising (look number s.files) refl

    -- what nothing refuses
    change_leads : (call : Call) → Leads s.files (named s call None).files (name_notes s call None)
    change_leads (Create path) = record {
      sum = ap (λ (n : ℕ). n + 0) (use_made log stripe s.names.next s.files (above_none s.names.next s.files (below_next z s.names.next s.files f.files.all)));
    }
    change_leads (Mkdir path) = leads_none s.files
    change_leads (Remove path) = remove_leads (find path s.names.entries)
    change_leads (Rename path to) = leads_none s.files
    change_leads (WriteCall fid offset bytes) = leads_none s.files
    change_leads (Truncate fid size) = leads_none s.files
    change_leads SyncCall = leads_none s.files
    change_leads (Read fid offset len) = leads_none s.files
    change_leads (ListOf path) = leads_none s.files
    change_leads (Stat path) = leads_none s.files
    change_leads (Find path) = leads_none s.files

    name_leads : (call : Call) (why : Option Refusal) → Leads s.files (named s call why).files (name_notes s call why)
    name_leads call (Some why) = leads_none s.files
    name_leads call None = change_leads call

  -- ---- moves

  not_moved : (body : Body) (files : Files) (o : Option FileState) → look body.fid.0 files ≡ o → is_movable body o ≡ false → moved body files ≡ files
  not_moved body files o at stays =
      ap (λ (q : Option FileState). if is_movable body q then moved_in body q files else files) at ∙ ap (λ (t : Bool). if t then moved_in body o files else files) stays

  is_moved : (body : Body) (files : Files) (file : FileState) → look body.fid.0 files ≡ Some file → is_movable body (look body.fid.0 files) ≡ true
      → moved body files ≡ replaced body.fid.0 (with_blocks (put body.block body.now file.blocks) file) files
  is_moved body files file at movable =
      ap (λ (t : Bool). if t then moved_in body (look body.fid.0 files) files else files) movable ∙ ap (λ (o : Option FileState). moved_in body o files) at

  moved_rise : (body : Body) (files : Files) → EachFile BlocksRise files → EachFile BlocksRise (moved body files)
  moved_rise body files rise = by (look body.fid.0 files) refl (is_movable body (look body.fid.0 files)) refl
    where
      by : (o : Option FileState) → look body.fid.0 files ≡ o → (t : Bool) → is_movable body (look body.fid.0 files) ≡ t → EachFile BlocksRise (moved body files)
      by o at false e = subst (EachFile BlocksRise) (sym (not_moved body files (look body.fid.0 files) refl e)) rise
      by None at true e = absurd (false≢true (sym (ap (is_movable body) at) ∙ e))
      by (Some file) at true e = subst (EachFile BlocksRise) (sym (is_moved body files file at e))
          (each_replaced BlocksRise files body.fid.0 (with_blocks (put body.block body.now file.blocks) file) rise (IsRising-put body.block body.now file.blocks (each_look BlocksRise files body.fid.0 file rise at)))

  move_leads : (d : Delta) → IsChange d → (files : Files) → EachFile BlocksRise files → IsNotable d (look (body_of d).block (blocks_of (look (body_of d).fid.0 files)))
      → Leads files (moved (body_of d) files) (clean_note d files ∷ [])
  move_leads d is files rise may = by (look (body_of d).fid.0 files) refl (is_movable (body_of d) (look (body_of d).fid.0 files)) refl
    where
      body : Body
      body = body_of d

      Note : Bool → Delta
      Note t = if t then d else vain_note (look body.block (blocks_of (look body.fid.0 files))) d

      by : (o : Option FileState) → look body.fid.0 files ≡ o → (t : Bool) → is_movable body (look body.fid.0 files) ≡ t → Leads files (moved body files) (clean_note d files ∷ [])
      by o at false e = record {
        sum =
            let stays = ap (files_use log stripe) (not_moved body files (look body.fid.0 files) refl e) in
            let vain = vain_sums log stripe d (look body.block (blocks_of (look body.fid.0 files))) may.fresh in
            let c = ap (λ (t : Bool). bytes_in log stripe (come (Note t))) e ∙ vain.0 in
            let g = ap (λ (t : Bool). bytes_in log stripe (gone (Note t))) e ∙ vain.1 in
            omega (arith, stays, c, g);
      }
      by None at true e = absurd (false≢true (sym (ap (is_movable body) at) ∙ e))
      by (Some file) at true e = record {
        sum =
            let moves = ap (files_use log stripe) (is_moved body files file at e) in
            let stood = place_is (look body.block file.blocks) body.was (sym (ap (is_movable body) at) ∙ e) in
            let w = ap (bytes_in log stripe) stood in
            let u = use_replaced log stripe body.fid.0 (with_blocks (put body.block body.now file.blocks) file) file files at in
            let p = use_put log stripe body.block body.now file.blocks (each_look BlocksRise files body.fid.0 file rise at) in
            let c = ap (λ (t : Bool). bytes_in log stripe (come (Note t))) e ∙ ap (bytes_in log stripe) (come_is log stripe d is) in
            let g = ap (λ (t : Bool). bytes_in log stripe (gone (Note t))) e ∙ ap (bytes_in log stripe) (gone_is log stripe d is) in
            omega (arith, moves, w, u, p, c, g);
      }

  moves_lead : (ds : List Delta) → AllByRecursion IsChange ds → (files : Files) → EachFile BlocksRise files → MovesNotable ds files → Leads files (all_moved ds files) (clean_notes ds files)
  moves_lead [] all files rise may = leads_none files
  moves_lead (d ∷ ds) all files rise may =
      leads_both files (moved (body_of d) files) (all_moved ds (moved (body_of d) files)) (clean_note d files ∷ []) (clean_notes ds (moved (body_of d) files))
      (move_leads d all.0 files rise may.0) (moves_lead ds all.1 (moved (body_of d) files) (moved_rise (body_of d) files rise) may.1)

  -- ---- operations

  op_leads : (z : Sizes) (b : ℕ) (o : Op) (s after : Shelf) → IsOp o → ShelfForm z s → OpNotable b s o → done_op b s o ≡ Ok after → Leads s.files after.files (op_notes b s o)
  op_leads z b (Name call what) s after is f may done =
      subst (λ (files : Files). Leads s.files files (op_notes b s (Name call what))) (ap files_of done) (name_leads z s f what (name_refusal s.names what))
  op_leads z b (Write call fid version offset len deltas) s after is f may done =
      write_leads s after fid version (offset + len) (files_rise z s.names.next s.files f.files.all) deltas (update_changes fid version deltas is.shaped) (look fid.0 s.files) refl may done
  op_leads z b (Cut call fid version size deltas) s after is f may done =
      cut_leads s after fid version size (files_rise z s.names.next s.files f.files.all) deltas (update_changes fid version deltas is.shaped.1) b (look fid.0 s.files) refl may done
  op_leads z b (Sync call) s after is f may done = subst (λ (files : Files). Leads s.files files []) (ap files_of done) (leads_none s.files)
  op_leads z b (Clean deltas) s after is f may done =
      subst (λ (files : Files). Leads s.files files (clean_notes deltas s.files)) (ap files_of done)
      (moves_lead deltas (clean_changes deltas is.shaped) s.files (files_rise z s.names.next s.files f.files.all) may)

  pub ops_lead : (z : Sizes) (b : ℕ) (ops : List Op) (s after : Shelf) → AllByRecursion IsOp ops → AllByRecursion (λ (o : Op). AllNow (IsPointer z) (deltas_of o)) ops
      → ShelfForm z s → OpsNotable b ops s → done_ops b ops s ≡ Ok after → Leads s.files after.files (ops_notes b ops s)
  ops_lead z b [] s after are now f may done = subst (λ (files : Files). Leads s.files files []) (ap files_of done) (leads_none s.files)
  ops_lead z b (o ∷ os) s after are now f may done =
      by (done_op b s o) refl (ops_form z b (o ∷ []) s (are.0, tt) (now.0, tt) f) may.1 done (λ mid g next rest. ops_lead z b os mid after are.1 now.1 g next rest)
    where
      by : (r : Result Shelf Stale) → done_op b s o ≡ r → IfOk (and_then r (done_ops b [])) (ShelfForm z) → ThenNotable r (OpsNotable b os) → and_then r (done_ops b os) ≡ Ok after
          → ((mid : Shelf) → ShelfForm z mid → OpsNotable b os mid → done_ops b os mid ≡ Ok after → Leads mid.files after.files (ops_notes b os mid))
          → Leads s.files after.files (op_notes b s o ++ then_notes r (ops_notes b os))
      by (Err stale) at g next e later = absurd (not_ok stale after e)
      by (Ok mid) at g next e later = leads_both s.files mid.files after.files (op_notes b s o) (ops_notes b os mid) (op_leads z b o s mid are.0 f may.0 at) (later mid g next e)

-- ---- the tables

shelf_form : (z : Sizes) (t : Tables) → AreTables z t → ShelfForm z (shelf_of t)
shelf_form z t f = record {
  tree = f.names;
  next = f.next_file;
  few = f.few;
  files = record {
    same_numbers = λ k. times_same k (numbers_of t.names) (keys_of t.files) f.named;
    rising = IsRising-from_ordered t.files f.files_rise;
    all = f.files;
  };
  replies = tt;
}

pub batch_leads : (z : Sizes) (t : Tables) (batch : Batch) (pieces : List Piece) (after : Shelf) → AreTables z t → MayCommit z t batch pieces → OpsNotable z.block batch.ops (shelf_of t)
    → done_ops z.block batch.ops (shelf_of t) ≡ Ok after → (log : LogId) (stripe : ℕ)
    → stripe_use (committed t batch.log batch.number pieces after) log stripe + all_gone log stripe (notes_of z.block t batch) ≡ stripe_use t log stripe + all_come log stripe (notes_of z.block t batch)
batch_leads z t batch pieces after f may notable done log stripe =
    let leads = (ops_lead log stripe z z.block batch.ops (shelf_of t) after may.spelled.ops may.pointers (shelf_form z t f) notable done).sum in
    let old = use_of_files log stripe t.files in
    let new = use_of_files log stripe after.files in
    omega (arith, leads, old, new)
