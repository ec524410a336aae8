-- Each operation of a formed batch is that of its call, against the file as the earlier ones leave it.
use Rattle.std.proofs.Common.{◌≡◌, ℕ, ◌+◌, ◌-◌, ◌*◌, ◌/◌, ◌%◌, ◌<◌, ◌≤◌, Bool, true, false, List, [], ◌∷◌, length, Option, Some, None, refl, sym, ap, ◌∙◌, subst, inl, inr, arith}
use Rattle.std.specs.Prelude.{nat_lt, nat_le, if◌then◌else◌, Result, Ok, IfOk}
use Rattle.std.specs.Bool.{MatchBool}
use Rattle.std.specs.List.{AllByRecursion, AllZip, range_with_len}
use Rattle.std.proofs.lemmas.Bool.{cases_lt, cond_both, leb-true, false≢true}
use Rattle.std.proofs.lemmas.Bool.Decides.{nat_tests}
use Rattle.std.proofs.lemmas.Nat.{div-mul-add, div-add-mod', mod_below}
use Rattle.std.proofs.lemmas.Option.{none-some}
use Rattle.zb_types.specs.declared.ids.Fid.{Fid}
use Rattle.zb_types.specs.declared.ids.Ptr.{Ptr}
use Rattle.zb_types.specs.declared.calls.Call.{Call}
use Rattle.zb_types.specs.declared.calls.Call.TheVariants.{Create, Mkdir, Remove, Rename, Write, Truncate, Sync, Read, List as ListOf, Stat, Find}
use Rattle.zb_types.specs.declared.tables.Found.{Found}
use Rattle.zb_types.specs.Keyed.{look}
use Rattle.zb_types.specs.Bytes.{resized as resized_bytes, written}
use Rattle.zb_types.specs.Apply.{max_file}
use Rattle.zb_delta.specs.declared.delta.Delta.{Delta}
use Rattle.zb_delta.specs.Spelling.{body_of}
use Rattle.zb_batch.specs.declared.batch.Op.{Op}
use Rattle.zb_batch.specs.declared.batch.Op.TheVariants as op
use Rattle.zb_batch.specs.Spelling.{deltas_of}
use Rattle.zb_tables.specs.Tables.{Contents, EachFile, FileState, Tables, bytes_at, shown_bytes}
use Rattle.zb_tables.specs.Fold.{Shelf, Stale, after_cut, after_write, below, blocks_in, done_op, resized, set_all}
use Rattle.zb_tables.specs.Spelled.{AllNew, CutAnew, CutFits, Merged, OpIs, WriteFits, new_blocks}
use Rattle.zb_tables.specs.Looking.{SameBlock}
use Rattle.zb_tables.specs.Taking.{wears}
use Rattle.zb_tables.proofs.Below.{look-kept, look-cut}
use Rattle.zb_tables.proofs.Blocks.{cut_ends, look-set_all, or_else, write_ends}
use Rattle.zb_tables.proofs.Each.{each_look}
use Rattle.zb_sound.specs.LookupsCurrent.{LookupIsCurrent}
use Rattle.zb_basis.specs.declared.asks.Ask.{Ask}
use Rattle.zb_basis.specs.Looking.{ask_of, ask_range, ask_to, end_of}
use Rattle.zb_basis.specs.Merging.{cut_block, written_block}
use Rattle.zb_basis.specs.Runs.{is_alone}
use Rattle.zb_basis.specs.Operations.{Changed, CutDeltas, IsDelta, IsWriteDelta, WriteDeltas, after_op, block_bytes, is_done, is_longer, new_of, or_before, or_found, short_length, stands_now, version_now, OpIs as OpMeans}
use Rattle.zb_forming_laws.specs.Resting.{IsCurrentFor, IsShort}
use Rattle.zb_forming_laws.proofs.Anew.{AreNew, IsNew, IsWhole, none-new, zip-new}
use Rattle.zb_forming_laws.proofs.Merges.{cut-anew, cut-fit, cut-merged, write-all, write-fit, write-merged}
use Rattle.zb_forming_laws.proofs.Ranges.{IsAsked, asked-block}
use Rattle.zb_forming_laws.proofs.Tracking.{IsGood, IsMade, Leads, Tracks, done-true, resized-leads, stands-same, version-same}

-- what is asked for is of the file
asked-file : (b : ℕ) (fid : Fid) (from to : ℕ) → (ask_range b fid from to).fid ≡ fid
asked-file b fid from to = cond_both (nat_le to from) (record { fid = fid; first = 0; count = 0 }) (record { fid = fid; first = from / b; count = (to - 1) / b - from / b + 1 }) (λ (ask : Ask). ask.fid ≡ fid) (λ _. refl) (λ _. refl)

asked-current : (contents : Contents) (t : Tables) (b : ℕ) (fid : Fid) (from to : ℕ) (found : Found) → IsCurrentFor contents t (ask_range b fid from to) found
    → LookupIsCurrent contents t fid.0 (ask_range b fid from to).first (ask_range b fid from to).count found
asked-current contents t b fid from to found current =
    subst (λ (g : Fid). LookupIsCurrent contents t g.0 (ask_range b fid from to).first (ask_range b fid from to).count found) (asked-file b fid from to) current

write-ask : (b : ℕ) (fid : Fid) (offset : ℕ) (text : List ℕ) → offset + length text ≤ max_file → ask_of b (Write fid offset text) ≡ ask_range b fid offset (offset + length text)
write-ask b fid offset text le = ap (ask_to b fid offset) end-is where
  end-is : end_of offset (length text) ≡ Some (offset + length text)
  end-is = cond_both (nat_le (offset + length text) max_file) (Some (offset + length text)) None (λ (o : Option ℕ). o ≡ Some (offset + length text)) (λ _. refl) (λ f. absurd (grind (arith, nat_tests)))

or-moved : (x : Option Ptr) (m : Option (Option Ptr)) (o q : Option Ptr) → q ≡ or_found m o → or_else x q ≡ or_found (or_before x m) o
or-moved None m o q e = e
or-moved (Some p) m o q e = refl

-- blocks with new pointers are where these were put, or where they were
set-moved : (deltas : List Delta) (blocks : List (ℕ × Ptr)) (k : ℕ) (m : Option (Option Ptr)) (o : Option Ptr) → new_of k deltas ≡ look k (new_blocks deltas) → look k blocks ≡ or_found m o
    → look k (set_all deltas blocks) ≡ or_found (or_before (new_of k deltas) m) o
set-moved deltas blocks k m o same e =
    look-set_all deltas k blocks ∙ ap (λ (x : Option Ptr). or_else x (look k blocks)) (sym same) ∙ or-moved (new_of k deltas) m o (look k blocks) e

-- none of them is longer than a block
set-fit : (b : ℕ) (deltas : List Delta) (blocks : List (ℕ × Ptr)) → ((k : ℕ) (p : Ptr) → look k (new_blocks deltas) ≡ Some p → p.len ≤ b) → ((k : ℕ) (p : Ptr) → look k blocks ≡ Some p → p.len ≤ b)
    → (k : ℕ) (p : Ptr) → look k (set_all deltas blocks) ≡ Some p → p.len ≤ b
set-fit b deltas blocks new old k p e = by (look k (new_blocks deltas)) refl (sym (look-set_all deltas k blocks) ∙ e) where
  by : (o : Option Ptr) → look k (new_blocks deltas) ≡ o → or_else (look k (new_blocks deltas)) (look k blocks) ≡ Some p → p.len ≤ b
  by None is f = old k p (sym (ap (λ (x : Option Ptr). or_else x (look k blocks)) is) ∙ f)
  by (Some q) is f = new k p (is ∙ (sym (ap (λ (x : Option Ptr). or_else x (look k blocks)) is) ∙ f))

below-moved : (m k : ℕ) (blocks : List (ℕ × Ptr)) (was : Option (Option Ptr)) (o : Option Ptr) → look k blocks ≡ or_found was o
    → look k (below m blocks) ≡ or_found (if nat_le m k then Some None else was) o
below-moved m k blocks was o e = cond_both (nat_le m k) (Some None) was (λ (x : Option (Option Ptr)). look k (below m blocks) ≡ or_found x o)
    (λ t. look-cut m k blocks (leb-true m k t)) (λ f. look-kept m k blocks (grind (arith, nat_tests)) ∙ e)

below-fit : (b m : ℕ) (blocks : List (ℕ × Ptr)) → ((k : ℕ) (p : Ptr) → look k blocks ≡ Some p → p.len ≤ b) → (k : ℕ) (p : Ptr) → look k (below m blocks) ≡ Some p → p.len ≤ b
below-fit b m blocks old k p e = elim (cases_lt k m) as (λ _. p.len ≤ b) [
  | inl l ↦ old k p (sym (look-kept m k blocks l) ∙ e)
  | inr past ↦ absurd (none-some p (sym (look-cut m k blocks past) ∙ e))
]

module _ (b : ℕ) (pos : 0 < b) (new : Contents) (t : Tables) (s : Shelf) (changed : Changed) (good : EachFile (IsGood b) s.files) (tracks : Tracks t.files changed s.files) where
  abbrev Whole : List Delta → Type 0
  Whole deltas = AllByRecursion (λ (d : Delta). IsWhole (bytes_at new) (body_of d).now) deltas

  -- ---- a write

  module _ (number : ℕ) (fid : Fid) (offset : ℕ) (text : List ℕ) (version : ℕ) (deltas : List Delta) (found : Found) (is_version : version ≡ version_now changed found fid) (whole : Whole deltas)
      (are : MatchBool (is_done version (offset + length text)) (WriteDeltas b (bytes_at new) changed found fid version offset text deltas) (deltas ≡ []))
      (current : IsCurrentFor new t (ask_of b (Write fid offset text)) found) where
    abbrev Was : ℕ → Option Ptr
    Was k = stands_now changed found fid k

    abbrev Made : ℕ → List ℕ
    Made k = written_block b k (block_bytes (bytes_at new) (Was k)) offset text

    abbrev Range : Ask
    Range = ask_range b fid offset (offset + length text)

    module _ (file : FileState) (there : look fid.0 s.files ≡ Some file) (same : version ≡ file.version) (le : offset + length text ≤ max_file) where
      abbrev Own : IsGood b file
      Own = each_look (IsGood b) s.files fid.0 file good there

      write-new : AreNew (IsNew (bytes_at new) Made) Range.first Range.count deltas
      write-new =
          let some = Own.some in
          let done = done-true version (offset + length text) (omega arith) le in
          let zip = subst (λ (z : Bool). MatchBool z (WriteDeltas b (bytes_at new) changed found fid version offset text deltas) (deltas ≡ [])) done are in
          let here = subst (λ (ask : Ask). AllZip (IsWriteDelta b (bytes_at new) changed found fid version offset text) (range_with_len ask.first ask.count) deltas) (write-ask b fid offset text le) zip in
          zip-new (bytes_at new) fid version Was Made Range.first Range.count deltas here whole

      write-stood : (k : ℕ) → IsAsked Range k → SameBlock new (Was k) (look k file.blocks)
      write-stood k asked =
          let looked = asked-current new t b fid offset (offset + length text) found (subst (λ (ask : Ask). IsCurrentFor new t ask found) (write-ask b fid offset text le) current) in
          stands-same new t s.files changed tracks fid Range.first Range.count found file looked there Own.some (sym is_version ∙ same) k asked.0 asked.1

      write-is : Merged b new (written (shown_bytes b new file) offset text) deltas × AllNew b deltas offset (offset + length text)
      write-is = (
        write-merged b pos new file Own.ends Own.fit Was fid offset text deltas write-new write-stood,
        write-all b pos new file Own.ends Own.fit Was fid offset text deltas write-new write-stood,
      )

      write-made : IsMade b (changed.rose fid.0) (changed.moved fid.0) (λ k. or_before (new_of k deltas) (changed.moved fid.0 k)) file (after_write (offset + length text) deltas file)
      write-made = record {
        version = refl;
        ends = write_ends b pos new file Own.ends offset text deltas write-is.0 write-is.1;
        fit = set-fit b deltas file.blocks (write-fit b pos new file Own.ends Own.fit Was fid offset text deltas write-new write-stood) Own.fit;
        blocks = λ was after k. set-moved deltas file.blocks k (changed.moved fid.0 k) (look k was.blocks) (write-new.same k) (after.blocks k);
      }

    write-fits : (o : Option FileState) → look fid.0 s.files ≡ o → ((file : FileState) → o ≡ Some file → version ≡ file.version) → WriteFits b new o version offset text deltas
    write-fits None gone fresh = tt
    write-fits (Some file) there fresh = (fresh file refl, by (nat_lt max_file (offset + length text)) refl) where
      by : (big : Bool) → nat_lt max_file (offset + length text) ≡ big → MatchBool big (Unit {0}) (Merged b new (written (shown_bytes b new file) offset text) deltas × AllNew b deltas offset (offset + length text))
      by true e = tt
      by false e = write-is file there (fresh file refl) (grind (arith, nat_tests))

    pub write-steps : (next : Shelf) → wears s (op.Write number fid version offset (length text) deltas) ≡ false → done_op b s (op.Write number fid version offset (length text) deltas) ≡ Ok next
        → OpIs b new s.files (op.Write number fid version offset (length text) deltas) (Write fid offset text) × Leads b t.files (after_op b changed (op.Write number fid version offset (length text) deltas)) next
    write-steps next worn e = (
      (
        refl,
        refl,
        refl,
        write-fits (look fid.0 s.files) refl
            (λ file there. version-same s fid version (offset + length text) (after_write (offset + length text) deltas) file next (ap (resized s fid version (offset + length text) (after_write (offset + length text) deltas)) (sym there) ∙ e)),
      ),
      subst (λ (r : Result Shelf Stale). IfOk r (Leads b t.files (after_op b changed (op.Write number fid version offset (length text) deltas)))) e
          (resized-leads b t.files s changed good tracks fid version (offset + length text) (after_write (offset + length text) deltas) (λ k. or_before (new_of k deltas) (changed.moved fid.0 k))
          (look fid.0 s.files) refl worn (λ file there same le. write-made file there same le)),
    )

  -- ---- a truncation

  module _ (number : ℕ) (fid : Fid) (n : ℕ) (version : ℕ) (deltas : List Delta) (found : Found) (is_version : version ≡ version_now changed found fid) (whole : Whole deltas)
      (are : MatchBool (is_done version n) (CutDeltas b (bytes_at new) fid version n (stands_now changed found fid (n / b)) deltas) (deltas ≡ []))
      (current : IsCurrentFor new t (ask_of b (Truncate fid n)) found) where
    abbrev Stood : ℕ → Option Ptr
    Stood k = stands_now changed found fid k

    abbrev Left : ℕ → List ℕ
    Left k = cut_block b k (block_bytes (bytes_at new) (Stood k)) n

    -- the new pointers are at most one, of the last block that stays
    record CutNew : Type 0 where
      count : ℕ
      are_new : AreNew (IsNew (bytes_at new) Left) (n / b) count deltas
      few : count ≤ 1
      some : 0 < count → 0 < n % b
      longer : is_longer b n (Stood (n / b)) ≡ true → 0 < count

    longer-inside : (o : Option Ptr) → is_longer b n o ≡ true → 0 < n % b
    longer-inside None e = absurd (false≢true e)
    longer-inside (Some p) e = grind (arith, nat_tests)

    cut-by : (longer : Bool) → is_longer b n (Stood (n / b)) ≡ longer
        → MatchBool longer ((delta : Delta) × (deltas ≡ delta ∷ []) × IsDelta (bytes_at new) fid version (n / b) (Stood (n / b)) (Left (n / b)) delta) (deltas ≡ []) → CutNew
    cut-by false e none = record {
      count = 0;
      are_new = subst (AreNew (IsNew (bytes_at new) Left) (n / b) 0) (sym none) (none-new (IsNew (bytes_at new) Left) (n / b));
      few = omega arith;
      some = λ l. absurd (omega arith);
      longer = λ t. absurd (false≢true (sym e ∙ t));
    }
    cut-by true e one = record {
      count = 1;
      are_new = subst (AreNew (IsNew (bytes_at new) Left) (n / b) 1) (sym one.1)
          (zip-new (bytes_at new) fid version Stood Left (n / b) 1 (one.0 ∷ []) (one.2, tt) (subst Whole one.1 whole));
      few = omega arith;
      some = λ l. longer-inside (Stood (n / b)) e;
      longer = λ t. omega arith;
    }

    module _ (file : FileState) (there : look fid.0 s.files ≡ Some file) (same : version ≡ file.version) (le : n ≤ max_file) where
      abbrev Cut : IsGood b file
      Cut = each_look (IsGood b) s.files fid.0 file good there

      cut-new : CutNew
      cut-new =
          let some = Cut.some in
          let done = done-true version n (omega arith) le in
          cut-by (is_longer b n (Stood (n / b))) refl (subst (λ (z : Bool). MatchBool z (CutDeltas b (bytes_at new) fid version n (stands_now changed found fid (n / b)) deltas) (deltas ≡ [])) done are)

      cut-asked : 0 < n % b → IsAsked (ask_range b fid (n - n % b) n) (n / b)
      cut-asked inside =
          let whole = div-add-mod' n b in
          let rest = mod_below n b pos in
          let start : n - n % b ≡ n / b * b + 0 = omega arith in
          let at : (n - n % b) / b ≡ n / b = ap (λ (m : ℕ). m / b) start ∙ div-mul-add (n / b) b 0 pos in
          subst (IsAsked (ask_range b fid (n - n % b) n)) at (asked-block b fid (n - n % b) n (n - n % b) pos (omega arith) (omega arith))

      cut-stood : 0 < n % b → SameBlock new (Stood (n / b)) (look (n / b) file.blocks)
      cut-stood inside =
          let asked = cut-asked inside in
          let looked = asked-current new t b fid (n - n % b) n found current in
          stands-same new t s.files changed tracks fid (ask_range b fid (n - n % b) n).first (ask_range b fid (n - n % b) n).count found file looked there Cut.some (sym is_version ∙ same) (n / b) asked.0 asked.1

      cut-is : Merged b new (resized_bytes (shown_bytes b new file) n) deltas × CutAnew b file n deltas
      cut-is = (
        cut-merged b pos new file Cut.ends Cut.fit Stood n cut-new.count deltas cut-new.are_new cut-new.few cut-new.some cut-stood,
        cut-anew b pos new file Cut.ends Cut.fit Stood n cut-new.count deltas cut-new.are_new cut-new.few cut-new.some cut-stood cut-new.longer,
      )

      cut-made : IsMade b (changed.rose fid.0) (changed.moved fid.0) (λ k. or_before (new_of k deltas) (if nat_le (blocks_in b n) k then Some None else changed.moved fid.0 k)) file (after_cut b n deltas file)
      cut-made = record {
        version = refl;
        ends = cut_ends b pos new file Cut.ends n deltas cut-is.0 cut-is.1;
        fit = set-fit b deltas (below (blocks_in b n) file.blocks) (cut-fit b pos new file Cut.ends Cut.fit Stood n cut-new.count deltas cut-new.are_new cut-new.few cut-new.some cut-stood)
            (below-fit b (blocks_in b n) file.blocks Cut.fit);
        blocks = λ was after k.
            set-moved deltas (below (blocks_in b n) file.blocks) k (if nat_le (blocks_in b n) k then Some None else changed.moved fid.0 k) (look k was.blocks) (cut-new.are_new.same k)
            (below-moved (blocks_in b n) k file.blocks (changed.moved fid.0 k) (look k was.blocks) (after.blocks k));
      }

    cut-fits : (o : Option FileState) → look fid.0 s.files ≡ o → ((file : FileState) → o ≡ Some file → version ≡ file.version) → CutFits b new o version n deltas
    cut-fits None gone fresh = tt
    cut-fits (Some file) there fresh = (fresh file refl, by (nat_lt max_file n) refl) where
      by : (big : Bool) → nat_lt max_file n ≡ big → MatchBool big (Unit {0}) (Merged b new (resized_bytes (shown_bytes b new file) n) deltas × CutAnew b file n deltas)
      by true e = tt
      by false e = cut-is file there (fresh file refl) (grind (arith, nat_tests))

    pub cut-steps : (next : Shelf) → wears s (op.Cut number fid version n deltas) ≡ false → done_op b s (op.Cut number fid version n deltas) ≡ Ok next
        → OpIs b new s.files (op.Cut number fid version n deltas) (Truncate fid n) × Leads b t.files (after_op b changed (op.Cut number fid version n deltas)) next
    cut-steps next worn e = (
      (
        refl,
        refl,
        cut-fits (look fid.0 s.files) refl
            (λ file there. version-same s fid version n (after_cut b n deltas) file next (ap (resized s fid version n (after_cut b n deltas)) (sym there) ∙ e)),
      ),
      subst (λ (r : Result Shelf Stale). IfOk r (Leads b t.files (after_op b changed (op.Cut number fid version n deltas)))) e
          (resized-leads b t.files s changed good tracks fid version n (after_cut b n deltas) (λ k. or_before (new_of k deltas) (if nat_le (blocks_in b n) k then Some None else changed.moved fid.0 k))
          (look fid.0 s.files) refl worn (λ file there same le. cut-made file there same le)),
    )

  -- ---- the operation of a call

  abbrev pub Steps : Call → Op → Shelf → Type 0
  Steps call o next = OpIs b new s.files o call × Leads b t.files (after_op b changed o) next

  short-is : (text : List ℕ) → length text ≤ 4096 → short_length (length text) ≡ length text
  short-is text le = omega arith

  write-op : (number m : ℕ) (fid g : Fid) (offset at : ℕ) (text : List ℕ) (version len : ℕ) (deltas : List Delta) (found : Found) (next : Shelf) → g ≡ fid → at ≡ offset → len ≡ short_length (length text)
      → version ≡ version_now changed found fid
      → MatchBool (is_done version (offset + length text)) (WriteDeltas b (bytes_at new) changed found fid version offset text deltas) (deltas ≡ [])
      → IsCurrentFor new t (ask_of b (Write fid offset text)) found → length text ≤ 4096 → Whole deltas
      → wears s (op.Write m g version at len deltas) ≡ false → done_op b s (op.Write m g version at len deltas) ≡ Ok next → Steps (Write fid offset text) (op.Write m g version at len deltas) next
  write-op number m fid g offset at text version len deltas found next eg ea el is_version are current short whole worn e =
      let same : op.Write m g version at len deltas ≡ op.Write m fid version offset (length text) deltas =
      ap (λ (h : Fid). op.Write m h version at len deltas) eg ∙ (ap (λ (x : ℕ). op.Write m fid version x len deltas) ea ∙ ap (λ (x : ℕ). op.Write m fid version offset x deltas) (el ∙ short-is text short)) in
      subst (λ (o : Op). Steps (Write fid offset text) o next) (sym same)
      (write-steps m fid offset text version deltas found is_version whole are current next (sym (ap (wears s) same) ∙ worn) (sym (ap (done_op b s) same) ∙ e))

  cut-op : (m : ℕ) (fid g : Fid) (n size : ℕ) (version : ℕ) (deltas : List Delta) (found : Found) (next : Shelf) → g ≡ fid → size ≡ n → version ≡ version_now changed found fid
      → MatchBool (is_done version n) (CutDeltas b (bytes_at new) fid version n (stands_now changed found fid (n / b)) deltas) (deltas ≡ [])
      → IsCurrentFor new t (ask_of b (Truncate fid n)) found → Whole deltas
      → wears s (op.Cut m g version size deltas) ≡ false → done_op b s (op.Cut m g version size deltas) ≡ Ok next → Steps (Truncate fid n) (op.Cut m g version size deltas) next
  cut-op m fid g n size version deltas found next eg en is_version are current whole worn e =
      let same : op.Cut m g version size deltas ≡ op.Cut m fid version n deltas = ap (λ (h : Fid). op.Cut m h version size deltas) eg ∙ ap (λ (x : ℕ). op.Cut m fid version x deltas) en in
      subst (λ (o : Op). Steps (Truncate fid n) o next) (sym same)
      (cut-steps m fid n version deltas found is_version whole are current next (sym (ap (wears s) same) ∙ worn) (sym (ap (done_op b s) same) ∙ e))

  sync-leads : (m : ℕ) (next : Shelf) → done_op b s (op.Sync m) ≡ Ok next → Leads b t.files changed next
  sync-leads m next e = subst (λ (r : Result Shelf Stale). IfOk r (Leads b t.files changed)) e (record { good = good; tracks = tracks })

  pub op-steps : (number : ℕ) (call : Call) (found : Found) (o : Op) (next : Shelf) → OpMeans b (bytes_at new) changed number call found o → is_alone call ≡ false → IsCurrentFor new t (ask_of b call) found → IsShort call
      → Whole (deltas_of o) → wears s o ≡ false → done_op b s o ≡ Ok next → Steps call o next
  op-steps number (Write fid offset text) found (op.Write m g version at len deltas) next is alone current short whole worn e =
      write-op number m fid g offset at text version len deltas found next is.1 is.3 is.4 is.2 is.5 current short whole worn e
  op-steps number (Write fid offset text) found (op.Name m what) next is alone current short whole worn e = absurd (false≢true is.2)
  op-steps number (Write fid offset text) found o next is alone current short whole worn e = absurd is
  op-steps number (Truncate fid n) found (op.Cut m g version size deltas) next is alone current short whole worn e = cut-op m fid g n size version deltas found next is.1 is.3 is.2 is.4 current whole worn e
  op-steps number (Truncate fid n) found (op.Name m what) next is alone current short whole worn e = absurd (false≢true is.2)
  op-steps number (Truncate fid n) found o next is alone current short whole worn e = absurd is
  op-steps number Sync found (op.Sync m) next is alone current short whole worn e = (tt, sync-leads m next e)
  op-steps number Sync found (op.Name m what) next is alone current short whole worn e = absurd (false≢true is.2)
  op-steps number Sync found o next is alone current short whole worn e = absurd is
  op-steps number (Create path) found o next is alone current short whole worn e = absurd (false≢true (sym alone))
  op-steps number (Mkdir path) found o next is alone current short whole worn e = absurd (false≢true (sym alone))
  op-steps number (Remove path) found o next is alone current short whole worn e = absurd (false≢true (sym alone))
  op-steps number (Rename path to) found o next is alone current short whole worn e = absurd (false≢true (sym alone))
  op-steps number (Read fid offset len) found o next is alone current short whole worn e = absurd (false≢true (sym alone))
  op-steps number (ListOf path) found o next is alone current short whole worn e = absurd (false≢true (sym alone))
  op-steps number (Stat path) found o next is alone current short whole worn e = absurd (false≢true (sym alone))
  op-steps number (Find path) found o next is alone current short whole worn e = absurd (false≢true (sym alone))
