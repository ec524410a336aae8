-- Tables in form stay so at each entry that they can take.
use Rattle.std.proofs.Common.{◌≡◌, ℕ, ◌≤◌, Bool, true, false, List, [], ◌∷◌, ◌++◌, Option, Some, None, refl, sym, subst, arith}
use Rattle.std.specs.Prelude.{Result, Ok, Err, IfOk, IsSomeAnd, nat_le, nat_lt, if◌then◌else◌}
use Rattle.std.specs.Map.{keys_of}
use Rattle.std.proofs.lemmas.Bool.{ltb-false}
use Rattle.std.proofs.lemmas.Option.{none-some, same_Some}
use Rattle.zb_types.specs.declared.ids.LogId.{LogId}
use Rattle.zb_types.specs.declared.ids.Piece.{Piece}
use Rattle.zb_types.specs.declared.tables.CommitFault.{CommitFault}
use Rattle.zb_types.specs.declared.tables.CommitFault.TheVariants.{Worn}
use Rattle.zb_types.specs.Keyed.{look}
use Rattle.zb_types.proofs.KeyedLists.{IsRising-from_ordered, ordered-from_IsRising}
use Rattle.zb_batch.specs.declared.batch.Batch.{Batch}
use Rattle.zb_entries.specs.declared.entry.Entry.{Entry}
use Rattle.zb_entries.specs.declared.entry.Entry.TheVariants.{Attach, Commit, Mark, Retire}
use Rattle.zb_tables.specs.Tables.{Contents, LogState, Tables, last_value}
use Rattle.zb_tables.specs.Fold.{Shelf, Stale, after_batch, committed, done_ops, folded, shelf_of, with_batch}
use Rattle.zb_tables.specs.Replay.{IsBatchOf}
use Rattle.zb_tables.specs.Taking.{AreTaken, IsTaken, MayCommit, Sizes, commit_refusal, or_else, regen_of, stale_of, worn_of}
use Rattle.zb_tables.specs.Checkpoint.{AreTables, numbers_of}
use Rattle.zb_tables.proofs.CommitForm.{CommitLogs, commit_logs}
use Rattle.zb_tables.proofs.Counted.{same_elements, times_same}
use Rattle.zb_tables.proofs.Form.{attach_tables, mark_tables, retire_tables, risen_within}
use Rattle.zb_tables.proofs.OpsForm.{ShelfForm, ops_form}
use Rattle.zb_tables.proofs.Ordered.{order_from, rising_from, with_rising}

-- ---- what refuses no batch

not_first : (b : Bool) (x : CommitFault) (r : Option CommitFault) → (if b then Some x else r) ≡ None → (b ≡ false) × (r ≡ None)
not_first true x r e = absurd (none-some x (sym e))
not_first false x r e = (refl, e)

or_none : (a b : Option CommitFault) → or_else a b ≡ None → b ≡ None
or_none (Some x) b e = absurd (none-some x (sym e))
or_none None b e = e

some_and : (o : Option LogState) (P : LogState → Type 0) → IsSomeAnd o P → (l : LogState) × (o ≡ Some l)
some_and None P is = absurd is
some_and (Some l) P is = (l, refl)

module _ (z : Sizes) (t : Tables) (f : AreTables z t) where
  shelf_form : ShelfForm z (shelf_of t)
  shelf_form = record {
    tree = f.names;
    next = f.next_file;
    few = f.few;
    files = record {
      same_numbers = λ k. times_same k (numbers_of t.names) (keys_of t.files) f.named;
      rising = IsRising-from_ordered t.files f.files_rise;
      all = f.files;
    };
    replies = tt;
  }

  small_number : (batch : Batch) (pieces : List Piece) (generation : ℕ) → commit_refusal z.block t batch pieces generation ≡ None → batch.number ≤ last_value
  small_number batch pieces generation free =
      let worn = or_none (stale_of (done_ops z.block batch.ops (shelf_of t))) (worn_of z.block t batch) (or_none (regen_of t batch.log pieces generation) _ free) in
      let entry = not_first (nat_le last_value t.next_entry) (Worn 2) _ worn in
      ltb-false last_value batch.number (not_first (nat_lt last_value batch.number) (Worn 3) _ entry.1).0

  module _ (log : LogId) (number : ℕ) (pieces : List Piece) (batch : Batch) (may : MayCommit z t batch pieces) (is_log : batch.log ≡ log) (small : number ≤ last_value) where
    logs_form : (s : Shelf) → ShelfForm z s → CommitLogs z t.next_log t.held t.logs log (some_and (look batch.log.0 t.logs) _ may.next).0
        (subst (λ (m : LogId). look m.0 t.logs ≡ Some (some_and (look batch.log.0 t.logs) _ may.next).0) is_log (some_and (look batch.log.0 t.logs) _ may.next).1)
        t.next_entry number pieces s.replies (with_batch log number pieces s.replies t.logs (look log.0 t.logs))
    logs_form s g =
        let l = some_and (look batch.log.0 t.logs) _ may.next in
        commit_logs z t.next_log t.held t.logs log l.0 (subst (λ (m : LogId). look m.0 t.logs ≡ Some l.0) is_log l.1) t.next_entry number pieces s.replies
        (IsRising-from_ordered t.logs f.logs_rise) f.next_entry.0 f.next_entry.1 small g.replies may.within f.logs f.held f.one_live

    commit_form : (s : Shelf) → ShelfForm z s → AreTables z (committed t log number pieces s)
    commit_form s g =
        let logs = logs_form s g in
        record {
          names = g.tree;
          next_file = g.next;
          few = g.few;
          named = same_elements (numbers_of s.names) (keys_of s.files) g.files.same_numbers;
          files_rise = ordered-from_IsRising s.files g.files.rising;
          files = g.files.all;
          logs_rise = ordered-from_IsRising (committed t log number pieces s).logs logs.0;
          logs = logs.1;
          one_live = logs.3;
          held_rise = order_from (committed t log number pieces s).held (with_rising log t.next_entry pieces t.held (rising_from t.held f.held_rise));
          held = logs.2;
          state = f.state;
          generation = f.generation;
          next_log = f.next_log;
          next_entry = risen_within t.next_entry f.next_entry;
        }

    pub commit_tables : (after : Tables) → after_batch t log number pieces (done_ops z.block batch.ops (shelf_of t)) ≡ Some after → AreTables z after
    commit_tables after e = by (done_ops z.block batch.ops (shelf_of t)) (ops_form z z.block batch.ops (shelf_of t) may.spelled.ops may.pointers shelf_form) e where
      by : (r : Result Shelf Stale) → IfOk r (ShelfForm z) → after_batch t log number pieces r ≡ Some after → AreTables z after
      by (Err stale) g e = absurd (none-some after e)
      by (Ok s) g e = subst (AreTables z) (same_Some (committed t log number pieces s) after e) (commit_form s g)

-- each entry
pub entry_tables : (z : Sizes) (contents : Contents) (before : List Entry) (t : Tables) (e : Entry) (batch : Batch) (after : Tables)
    → AreTables z t → IsBatchOf contents e batch → IsTaken z before t e batch → folded z.block t e batch ≡ Some after → AreTables z after
entry_tables z contents before t (Attach owner log) batch after f is taken e = subst (AreTables z) (same_Some _ after e) (attach_tables z t f owner log taken.0 taken.1 taken.2)
entry_tables z contents before t (Mark members) batch after f is taken e = subst (AreTables z) (same_Some _ after e) (mark_tables z t f members taken.0 taken.1 taken.2)
entry_tables z contents before t (Retire log stripe) batch after f is taken e = subst (AreTables z) (same_Some _ after e) (retire_tables z t f log stripe)
entry_tables z contents before t (Commit log number generation pieces) batch after f is taken e =
    let small = small_number z t f batch pieces generation taken.1 in
    let same = is.number_is in
    commit_tables z t f log number pieces batch taken.0 is.log_is (omega (arith, small, same)) after e

-- all of them
pub entries_tables : (z : Sizes) (contents : Contents) (before es : List Entry) (t after : Tables) → AreTables z t → AreTaken z contents before t es after → AreTables z after
entries_tables z contents before [] t after f taken = subst (AreTables z) taken f
entries_tables z contents before (e ∷ es) t after f taken =
    entries_tables z contents (before ++ e ∷ []) es taken.3.0 after (entry_tables z contents before t e taken.0 taken.3.0 f taken.1 taken.2 taken.3.1) taken.3.2
