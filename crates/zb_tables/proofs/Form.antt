-- Tables in form stay so at each entry.
use Rattle.std.proofs.Common.{◌≡◌, ℕ, ◌+◌, ◌<◌, ◌≤◌, Bool, arith}
use Rattle.std.specs.Prelude.{nat_lt, not}
use Rattle.std.proofs.lemmas.Bool.{cond_both, ltb-true}
use Rattle.zb_types.specs.declared.ids.LogId.{LogId}
use Rattle.zb_types.specs.declared.nodes.Members.{Members}
use Rattle.zb_types.specs.declared.tables.HeldUse.{HeldUse}
use Rattle.zb_types.specs.Names.{last_number}
use Rattle.zb_types.proofs.KeyedLists.{IsRising, IsRising-changed, IsRising-from_ordered, IsRising-put, ordered-from_IsRising}
use Rattle.zb_tables.specs.Tables.{Tables, is_of, last_value, risen}
use Rattle.zb_tables.specs.Fold.{after_retire, all_marked, attached, ended, kept_logs, new_log, retired, with_members}
use Rattle.zb_tables.specs.Taking.{IsState, Sizes}
use Rattle.zb_tables.specs.Checkpoint.{AreTables, IsHeld}
use Rattle.zb_tables.proofs.Alls.{all_filter, rising_kept}
use Rattle.zb_tables.proofs.Ordered.{order_from, rising_filter, rising_from}
use Rattle.zb_tables.proofs.LogsForm.{attach_form, attach_held, attach_one, keeps, mark_form, retire_form, retire_held, retire_one}

-- the next number is within the same limits
pub risen_within : (n : ℕ) → (1 ≤ n) × (n ≤ last_value) → (1 ≤ risen n) × (risen n ≤ last_value)
risen_within n w = cond_both (nat_lt n last_value) (n + 1) n (λ m. (1 ≤ m) × (m ≤ last_value)) (λ t. (omega arith, let lt = ltb-true n last_value t in omega arith)) (λ _. w)

module _ (z : Sizes) (t : Tables) (f : AreTables z t) where
  logs_rise : IsRising t.logs
  logs_rise = IsRising-from_ordered t.logs f.logs_rise

  pub attach_tables : (owner : ℕ) (log : LogId) → log.0 ≡ t.next_log → t.next_log < last_number → owner ≤ z.clients → AreTables z (attached t owner log)
  attach_tables owner log is lt few =
      let from = f.next_log.0 in
      record {
        names = f.names;
        next_file = f.next_file;
        few = f.few;
        named = f.named;
        files_rise = f.files_rise;
        files = f.files;
        logs_rise = ordered-from_IsRising (attached t owner log).logs
            (IsRising-put log.0 (new_log owner) (kept_logs t.held _) (rising_kept (keeps t.held) _ (IsRising-changed (ended owner) t.logs logs_rise)));
        logs = attach_form z t.next_log t.held t.logs owner log.0 (omega (arith, is, from)) (omega (arith, is)) few f.logs;
        one_live = attach_one z t.next_log t.held t.logs owner log.0 logs_rise f.one_live;
        held_rise = f.held_rise;
        held = attach_held z t.next_log t.held t.logs owner log.0 f.held;
        state = f.state;
        generation = f.generation;
        next_log = (omega arith, omega arith);
        next_entry = risen_within t.next_entry f.next_entry;
      }

  pub mark_tables : (members : Members) → IsState z.servers members.state → t.members.generation ≤ members.generation → members.generation ≤ last_value → AreTables z (with_members t members)
  mark_tables members is up most =
      let m = mark_form z t.next_log t.held t.logs members.state logs_rise f.logs f.held f.one_live in
      let from = f.generation.0 in
      record {
        names = f.names;
        next_file = f.next_file;
        few = f.few;
        named = f.named;
        files_rise = f.files_rise;
        files = f.files;
        logs_rise = ordered-from_IsRising (all_marked members.state t.logs) m.0;
        logs = m.1;
        one_live = m.3;
        held_rise = f.held_rise;
        held = m.2;
        state = is;
        generation = (omega arith, most);
        next_log = f.next_log;
        next_entry = risen_within t.next_entry f.next_entry;
      }

  pub retire_tables : (log : LogId) (stripe : ℕ) → AreTables z (after_retire t log stripe)
  retire_tables log stripe =
      let less = retired log stripe t.held in
      let test : HeldUse → Bool = λ h. not (is_of log stripe h) in
      record {
        names = f.names;
        next_file = f.next_file;
        few = f.few;
        named = f.named;
        files_rise = f.files_rise;
        files = f.files;
        logs_rise = ordered-from_IsRising (kept_logs less t.logs) (rising_kept (keeps less) t.logs logs_rise);
        logs = retire_form z t.next_log t.held less t.logs f.logs;
        one_live = retire_one z t.next_log t.held less t.logs logs_rise f.one_live;
        held_rise = order_from less (rising_filter test t.held (rising_from t.held f.held_rise));
        held = retire_held z t.next_log t.held less t.logs (all_filter test (IsHeld z t.logs) (IsHeld z t.logs) (λ h e i. i) t.held f.held);
        state = f.state;
        generation = f.generation;
        next_log = f.next_log;
        next_entry = risen_within t.next_entry f.next_entry;
      }
