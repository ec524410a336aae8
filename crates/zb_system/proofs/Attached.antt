-- The tables once each client has its log, and the cleaner one.
use Rattle.std.proofs.Common.{◌≡◌, ◌≢◌, ◌⊎◌, ℕ, zero, suc, ◌+◌, ◌<◌, ◌≤◌, Bool, false, None, refl, sym, ap, ◌∙◌, subst, inl, inr, arith}
use Rattle.std.specs.Prelude.{if◌then◌else◌}
use Rattle.std.proofs.lemmas.Bool.{cases_eq, lt-ltb}
use Rattle.zb_types.specs.declared.ids.LogId.{LogId}
use Rattle.zb_types.specs.Names.{last_number}
use Rattle.zb_types.specs.Tree.{first_tree}
use Rattle.zb_entries.specs.declared.entry.Entry.TheVariants.{Attach}
use Rattle.zb_tables.specs.Fold.{attached}
use Rattle.zb_tables.specs.Replay.{with_entry}
use Rattle.zb_tables.specs.Tables.{Contents, Tables, first_tables, last_value, risen}
use Rattle.zb_tables.specs.Taking.{CanTake, Sizes}
use Rattle.zb_recovery.specs.Missing.{Servers}
use Rattle.zb_sound.specs.LogsCurrent.{LogIsCurrent}
use Rattle.zb_sound.specs.Standing.{StandFor}
use Rattle.zb_sound.proofs.Beginning.{first_stands}
use Rattle.zb_sound.proofs.Changing.{attach_keeps, checkpoint_keeps}
use Rattle.zb_sound.proofs.Currents.{attach_current, new_current}
use Rattle.zb_client_laws.specs.Around.{at_rest}
use Rattle.zb_progress.specs.Fresh.{RoseBy}
use Rattle.zb_progress.proofs.Rising.{attach-rises}
use Rattle.zb_system.specs.First.{all_attached, attached_to, log}

-- ---- members and numbers

pub members_to : (k : ℕ) → (attached_to k).members ≡ first_tables.members
members_to zero = refl
members_to (suc k) = members_to k

one_on : (a k : ℕ) → a ≡ k + 1 → a + 1 ≡ suc k + 1
one_on a k e = omega (arith, e)

next_log_to : (k : ℕ) → (attached_to k).next_log ≡ k + 1
next_log_to zero = refl
next_log_to (suc k) = one_on (attached_to k).next_log k (next_log_to k)

risen_on : (a k : ℕ) → a ≡ k + 1 → k ≤ 8 → risen a ≡ suc k + 1
risen_on a k e low = ap (λ (b : Bool). if b then a + 1 else a) (lt-ltb a last_value (omega (arith, e, low))) ∙ one_on a k e

next_entry_to : (k : ℕ) → k ≤ 9 → (attached_to k).next_entry ≡ k + 1
next_entry_to zero le = refl
next_entry_to (suc k) le = risen_on (attached_to k).next_entry k (next_entry_to k (omega (arith, le))) (omega (arith, le))

rose_to : (k : ℕ) → RoseBy (k + 1) (attached_to k)
rose_to zero = record { versions = tt; batches = tt; entry = one } where
  one : 1 ≤ 1
  one = omega arith
rose_to (suc k) = let e : k + 1 + 1 ≡ suc k + 1 = omega arith in subst (λ (m : ℕ). RoseBy m (attached_to (suc k))) e (attach-rises (k + 1) (k + 1) (attached_to k) (log (k + 1)) (rose_to k))

pub all_rose : (k : ℕ) → k ≤ 8 → RoseBy (all_attached k).next_entry (all_attached k)
all_rose k le = subst (λ (m : ℕ). RoseBy m (all_attached k)) (there (attached_to k).next_entry (next_entry_to k (omega (arith, le)))) (attach-rises (k + 1) 0 (attached_to k) (log (k + 1)) (rose_to k)) where
  there : (a : ℕ) → a ≡ k + 1 → k + 1 + 1 ≡ risen a
  there a e = let on : risen a ≡ suc k + 1 = risen_on a k e le in omega (arith, on)

-- ---- logs

apart : (i k : ℕ) → i ≢ k → i + 1 ≢ k + 1
apart i k ne e = ne (omega (arith, e))

below : (i k : ℕ) → i < suc k → i ≢ k → i < k
below i k lt ne = omega (arith, lt, ne)

current_to : (k i : ℕ) → i < k → LogIsCurrent (attached_to k) (log (i + 1)) (i + 1) 0 None (attached_to k).members.generation 0 0
current_to zero i lt = absurd (omega (arith, lt))
current_to (suc k) i lt = by (λ ne. current_to k i (below i k lt ne)) (cases_eq i k) where
  by : (i ≢ k → LogIsCurrent (attached_to k) (log (i + 1)) (i + 1) 0 None (attached_to k).members.generation 0 0) → (i ≡ k) ⊎ (i ≢ k)
      → LogIsCurrent (attached_to (suc k)) (log (i + 1)) (i + 1) 0 None (attached_to (suc k)).members.generation 0 0
  by former (inl e) =
      subst (λ (j : ℕ). LogIsCurrent (attached_to (suc k)) (log (j + 1)) (j + 1) 0 None (attached_to (suc k)).members.generation 0 0) (sym e) (new_current (attached_to k) (k + 1) (log (k + 1)))
  by former (inr ne) =
      attach_current (attached_to k) (log (i + 1)) (i + 1) 0 None (attached_to k).members.generation 0 0 (former ne) (log (k + 1)) (k + 1) (apart i k ne) (apart i k ne)

pub all_current : (k i : ℕ) → i < k → LogIsCurrent (all_attached k) (log (i + 1)) (i + 1) 0 None (all_attached k).members.generation 0 0
all_current k i lt =
    attach_current (attached_to k) (log (i + 1)) (i + 1) 0 None (attached_to k).members.generation 0 0 (current_to k i lt) (log (k + 1)) 0
    (apart i k (λ e. absurd (omega (arith, e, lt)))) (λ e. absurd (omega (arith, e)))

-- ---- what they stand for

-- servers that keep nothing
abbrev pub bare : Servers
bare = record { maps = λ s id. None; blank = λ s. false }

module _ (z : Sizes) (contents : Contents) where
  attach_one : (t : Tables) (owner : ℕ) (l : LogId) → CanTake z (at_rest t) t (Attach owner l) → StandFor z contents (at_rest t) bare t first_tree
      → StandFor z contents (at_rest (attached t owner l)) bare (attached t owner l) first_tree
  attach_one t owner l can s =
      checkpoint_keeps z contents (with_entry (at_rest t) (Attach owner l)) bare (attached t owner l) first_tree (attach_keeps z contents (at_rest t) bare t first_tree s owner l can)

  room : (a k : ℕ) → a ≡ k + 1 → k ≤ 8 → a < last_number
  room a k e le = omega (arith, e, le)

  stand_to : (k : ℕ) → k ≤ z.clients → z.clients ≤ 8 → StandFor z contents (at_rest (attached_to k)) bare (attached_to k) first_tree
  stand_to zero le few = first_stands z contents
  stand_to (suc k) le few =
      attach_one (attached_to k) (k + 1) (log (k + 1))
      (sym (next_log_to k), room (attached_to k).next_log k (next_log_to k) (omega (arith, le, few)), omega (arith, le))
      (stand_to k (omega (arith, le)) few)

  pub all_stand : z.clients ≤ 8 → StandFor z contents (at_rest (all_attached z.clients)) bare (all_attached z.clients) first_tree
  all_stand few =
      attach_one (attached_to z.clients) 0 (log (z.clients + 1))
      (sym (next_log_to z.clients), room (attached_to z.clients).next_log z.clients (next_log_to z.clients) few, omega arith)
      (stand_to z.clients (omega arith) few)
