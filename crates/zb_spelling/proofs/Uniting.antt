-- When the parts of what was read agree.
use Rattle.std.proofs.Common.{◌≡◌, ℕ, Bool, true, false, List, sym, subst}
use Rattle.std.specs.Prelude.{map, IsTrue, is_some}
use Rattle.std.specs.List.{AllByRecursion, flat_map}
use Rattle.std.specs.List.Sorted.{IsPermutation, IsStrictlySortedBy}
use Rattle.std.specs.Map.{keys_of}
use Rattle.std.specs.Ordering.{nat_cmp}
use Rattle.zb_types.specs.declared.tables.HeldUse.{HeldUse}
use Rattle.zb_types.specs.Names.{Entry, Names}
use Rattle.zb_types.specs.Keyed.{look}
use Rattle.zb_names.specs.declared.entries.Entry.{Entry as Given}
use Rattle.zb_names.specs.Shown.{listed, seen}
use Rattle.zb_names.specs.Sound.{IsTree}
use Rattle.zb_log_tables.specs.declared.log.Log.{Log}
use Rattle.zb_log_tables.specs.Logs.{IsLast, state_of, states_of}
use Rattle.zb_tables.specs.Tables.{FileState, LogState}
use Rattle.zb_tables.specs.Taking.{Sizes}
use Rattle.zb_tables.specs.Checkpoint.{number_of, numbers_of}
use Rattle.zb_tables.proofs.Alls.{all_map}
use Rattle.zb_spelling.specs.declared.rows.FileRow.{FileRow}
use Rattle.zb_spelling.specs.declared.rows.Rows.{Rows}
use Rattle.zb_spelling.specs.Limits.{Agree, AreWithin, FileFits, keeps}
use Rattle.zb_spelling.specs.Reading.{HasRoom, IsLogRow, shown_file, shown_name, shown_tables}
use Rattle.zb_spelling.proofs.Fitting.{all_shown, all_showing, failed, flat_map-shown}

module _ (rows : Rows) where
  abbrev Named : Type 0
  Named = IsPermutation (flat_map (λ (e : List ℕ × Given). number_of (seen e.1)) rows.names.items) (keys_of (map shown_file rows.files.items))

  named_are : flat_map (λ (e : List ℕ × Given). number_of (seen e.1)) rows.names.items ≡ numbers_of (shown_tables rows).names
  named_are = flat_map-shown shown_name (λ (e : List ℕ × Entry). number_of e.1) rows.names.items

  abbrev Kept : List HeldUse → Type 0
  Kept held = AllByRecursion (λ (log : Log). keeps held (log.number, state_of log) ≡ true) rows.logs.items

  abbrev There : List HeldUse → List (ℕ × LogState) → Type 0
  There held logs = AllByRecursion (λ (h : HeldUse). is_some (look h.log.0 logs) ≡ true) held

  pub not_named : (b : Bool) → (Named → IsTrue b) → b ≡ false → Agree (shown_tables rows) → ⊥
  not_named b test e agree = failed b e (test (subst (λ (ns : List ℕ). IsPermutation ns (keys_of (map shown_file rows.files.items))) (sym named_are) agree.named))

  pub not_kept : (held : List HeldUse) → held ≡ rows.held.items → (b : Bool) → (Kept held → IsTrue b) → b ≡ false → Agree (shown_tables rows) → ⊥
  not_kept held same b test e agree =
      failed b e (test (subst Kept (sym same) (all_showing (λ (log : Log). (log.number, state_of log)) (λ (l : ℕ × LogState). keeps rows.held.items l ≡ true) rows.logs.items agree.kept)))

  pub not_there : (held : List HeldUse) → held ≡ rows.held.items → (logs : List (ℕ × LogState)) → logs ≡ states_of rows.logs.items → (b : Bool) → (There held logs → IsTrue b) → b ≡ false → Agree (shown_tables rows) → ⊥
  not_there held same logs are b test e agree =
      failed b e (test (subst (λ (hs : List HeldUse). There hs logs) (sym same) (subst (There rows.held.items) (sym are) agree.there)))

  pub agreed : (held : List HeldUse) → held ≡ rows.held.items → (logs : List (ℕ × LogState)) → logs ≡ states_of rows.logs.items → Named → Kept held → There held logs
      → IsTree rows.head.next_file (listed rows.names.items) → Agree (shown_tables rows)
  agreed held same logs are named kept there tree = record {
    tree = tree;
    named = subst (λ (ns : List ℕ). IsPermutation ns (keys_of (map shown_file rows.files.items))) named_are named;
    kept = all_shown (λ (log : Log). (log.number, state_of log)) (λ (l : ℕ × LogState). keeps rows.held.items l ≡ true) rows.logs.items (subst Kept same kept);
    there = subst (There rows.held.items) are (subst (λ (hs : List HeldUse). There hs logs) same there);
  }

  pub lasts : HasRoom (shown_tables rows) → AllByRecursion (λ (log : Log). IsLast log.last) rows.logs.items
  lasts room = all_map (λ (log : Log). IsLogRow (log.number, state_of log)) (λ (log : Log). IsLast log.last) (λ log r. r.last) rows.logs.items
      (all_showing (λ (log : Log). (log.number, state_of log)) IsLogRow rows.logs.items (room.logs).0)

  pub blocks_rise : (z : Sizes) → AreWithin z (shown_tables rows) → AllByRecursion (λ (row : FileRow). IsStrictlySortedBy nat_cmp (keys_of row.blocks.items)) rows.files.items
  blocks_rise z within = all_map (λ (row : FileRow). FileFits z rows.head.next_file (shown_file row)) (λ (row : FileRow). IsStrictlySortedBy nat_cmp (keys_of row.blocks.items)) (λ row f. f.rising) rows.files.items
      (all_showing shown_file (FileFits z rows.head.next_file) rows.files.items (within.files).each)

  -- the tables of the parts that were built
  pub built : (names : Names) (files : List (ℕ × FileState)) (logs : List (ℕ × LogState)) (held : List HeldUse)
      → names ≡ record { next = rows.head.next_file; entries = listed rows.names.items } → files ≡ map shown_file rows.files.items → logs ≡ states_of rows.logs.items → held ≡ rows.held.items
      → record { names = names; files = files; logs = logs; held = held; members = rows.head.numbers.members; next_log = rows.head.numbers.next_log; next_entry = rows.head.numbers.next_entry } ≡ shown_tables rows
  built names files logs held a b c d = λ i. record {
    names = a i;
    files = b i;
    logs = c i;
    held = d i;
    members = rows.head.numbers.members;
    next_log = rows.head.numbers.next_log;
    next_entry = rows.head.numbers.next_entry;
  }
