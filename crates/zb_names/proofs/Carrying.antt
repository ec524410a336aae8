-- Prepared changes: what is refused by nothing may be carried out.
use Rattle.std.proofs.Common.{◌≡◌, ℕ, suc, ◌+◌, ◌<◌, ◌≤◌, Bool, true, false, cond, not, ◌||◌, List, [], ◌∷◌, length, Some, None, refl, sym, ap, subst, inl, inr, arith}
use Rattle.std.specs.Prelude.{nat_le}
use Rattle.std.specs.List.{AllByRecursion, list_any, filter}
use Rattle.std.specs.List.Sorted.{IsStrictlySortedBy}
use Rattle.std.specs.declared.cmp.Ordering.TheVariants.{Less}
use Rattle.std.specs.Ordering.{nat_cmp, is_lt}
use Rattle.std.specs.Cmp.Lexicographic.{slice_cmp}
use Rattle.std.specs.Str.{bytes_eq}
use Rattle.std.specs.Map.{keys_of}
use Rattle.std.proofs.lemmas.Bool.{cases_Bool, or_parts, leb-false}
use Rattle.zb_types.specs.declared.calls.Refusal.{Refusal}
use Rattle.zb_types.specs.declared.calls.Refusal.TheVariants.{NoEntry, Exists, Full, NotEmpty}
use Rattle.zb_types.specs.declared.calls.Call.TheVariants.{Create, Mkdir, Remove}
use Rattle.zb_types.specs.Paths.{is_path}
use Rattle.zb_types.specs.Names.{Entry, Names, directory, numbered, has, is_below, is_within, walk, when, max_names, last_number, name_refusal, name_effect, others, with_entry, with_entries}
use Rattle.zb_names.specs.Sound.{IsTree, has_number}
use Rattle.zb_names.specs.Answers.{refusal_of_move}
use Rattle.zb_names.specs.Changing.{MayCarry, carried, relocated, staying, within}
use Rattle.zb_names.proofs.Fronts.{first_parts}
use Rattle.zb_names.proofs.Inserting.{sorted-with_entry, sorted-with_entries}
use Rattle.zb_names.proofs.Movable.{can_move}
use Rattle.zb_names.proofs.Renaming.{CanMove, fresh_new_rest, fresh_paths, IsTree-renamed}
use Rattle.zb_names.proofs.Trees.{IsTree-with_entry, IsTree-others, number_of_new}

abbrev Entries : Type 0
Entries = List (List ℕ × Entry)

when_none : (test : Bool) (why : Refusal) → when test why ≡ None → test ≡ false
when_none true why h = absurd cc
when_none false why h = refl

-- ---- fewer entries

all_less-filter : (path : List ℕ) (test : List ℕ × Entry → Bool) (es : Entries) → AllByRecursion (λ k. slice_cmp nat_cmp path k ≡ Less) (keys_of es) → AllByRecursion (λ k. slice_cmp nat_cmp path k ≡ Less) (keys_of (filter test es))
all_less-filter path test [] all = tt
all_less-filter path test (e ∷ es) all = elim (test e) as (λ b. AllByRecursion (λ k. slice_cmp nat_cmp path k ≡ Less) (keys_of (cond b (e ∷ filter test es) (filter test es)))) [
  | true ↦ (all.0, all_less-filter path test es all.1)
  | false ↦ all_less-filter path test es all.1
]

pub sorted-filter : (test : List ℕ × Entry → Bool) (es : Entries) → IsStrictlySortedBy (slice_cmp nat_cmp) (keys_of es) → IsStrictlySortedBy (slice_cmp nat_cmp) (keys_of (filter test es))
unfolding IsStrictlySortedBy
sorted-filter test [] sorted = tt
sorted-filter test (e ∷ es) sorted = elim (test e) as (λ b. IsStrictlySortedBy (slice_cmp nat_cmp) (keys_of (cond b (e ∷ filter test es) (filter test es)))) [
  | true ↦ (all_less-filter e.0 test es sorted.0, sorted-filter test es sorted.1)
  | false ↦ sorted-filter test es sorted.1
]

pub length-filter : (test : List ℕ × Entry → Bool) (es : Entries) → length (filter test es) ≤ length es
length-filter test [] = omega arith
length-filter test (e ∷ es) = elim (test e) as (λ b. length (cond b (e ∷ filter test es) (filter test es)) ≤ suc (length es)) [
  | true ↦ omega (arith, length-filter test es)
  | false ↦ omega (arith, length-filter test es)
]

-- what is moved and what stays are all
length-parted : (n : ℕ) (path to : List ℕ) (es : Entries) → length (relocated n to (within path es)) + length (filter (λ e. not (is_within path e.0)) es) ≡ length es
length-parted n path to [] = refl
length-parted n path to (e ∷ es) = elim (cases_Bool (is_within path e.0)) [
  | inl inside ↦ rw inside (omega (arith, length-parted n path to es))
  | inr outside ↦ rw outside (omega (arith, length-parted n path to es))
]

-- with nothing below, only the path goes
pub others-within : (path : List ℕ) (es : Entries) → list_any (λ e. is_below path e.0) es ≡ false → filter (λ e. not (is_within path e.0)) es ≡ others path es
others-within path [] none = refl
others-within path (e ∷ es) none =
    let parts = or_parts (is_below path e.0) (list_any (λ x. is_below path x.0) es) none in
    elim (cases_Bool (bytes_eq path e.0)) [
      | inl same ↦ rw same (others-within path es parts.1)
      | inr apart ↦ rw (apart, parts.0) (ap (λ more. e ∷ more) (others-within path es parts.1))
    ]

-- ---- entries put in one by one, the last first

pub length-with_entry : (path : List ℕ) (entry : Entry) (es : Entries) → length (with_entry path entry es) ≡ length es + 1
length-with_entry path entry [] = refl
length-with_entry path entry (e ∷ es) = elim (is_lt (slice_cmp nat_cmp e.0 path)) as (λ b. length (cond b (e ∷ with_entry path entry es) ((path, entry) ∷ e ∷ es)) ≡ suc (length es) + 1) [
  | true ↦ omega (arith, length-with_entry path entry es)
  | false ↦ omega arith
]

pub length-with_entries : (new es : Entries) → length (with_entries new es) ≡ length new + length es
length-with_entries [] es = omega arith
length-with_entries (n ∷ new) es = omega (arith, length-with_entry n.0 n.1 (with_entries new es), length-with_entries new es)

-- ---- what nothing refuses

module _ (names : Names) (tree : IsTree names.next names.entries) where
  -- an entry with a number comes in
  may_make : (path : List ℕ) (entry : Entry) (next : ℕ) → is_path path ≡ true → names.next ≤ next → has_number next entry ≡ true → walk names.entries path ≡ None → has path names.entries ≡ false → length names.entries < max_names
      → MayCarry (record { gone = None; fresh = (path, entry) ∷ []; next = next }) names
  may_make path entry next is le number walked absent room = record {
    new = (absent, tt);
    tree = IsTree-with_entry names.next next path entry names.entries le number tree is absent walked (sorted-with_entry path entry names.entries absent tree.rising);
    room = omega (arith, room);
  }

  pub may_create : (path : List ℕ) → is_path path ≡ true → name_refusal names (Create path) ≡ None → MayCarry (record { gone = None; fresh = (path, numbered names.next) ∷ []; next = names.next + 1 }) names
  may_create path is free =
      let a = first_parts (walk names.entries path) _ free in
      let b = first_parts (when (has path names.entries) Exists) _ a.1 in
      let c = first_parts (when (nat_le max_names (length names.entries) || nat_le last_number names.next) Full) [] b.1 in
      let room = or_parts (nat_le max_names (length names.entries)) (nat_le last_number names.next) (when_none _ Full c.0) in
      may_make path (numbered names.next) (names.next + 1) is (omega arith) (number_of_new names.next tree.numbered) a.0 (when_none _ Exists b.0) (leb-false max_names (length names.entries) room.0)

  pub may_mkdir : (path : List ℕ) → is_path path ≡ true → name_refusal names (Mkdir path) ≡ None → MayCarry (record { gone = None; fresh = (path, directory) ∷ []; next = names.next }) names
  may_mkdir path is free =
      let a = first_parts (walk names.entries path) _ free in
      let b = first_parts (when (has path names.entries) Exists) _ a.1 in
      let c = first_parts (when (nat_le max_names (length names.entries)) Full) [] b.1 in
      may_make path directory names.next is (omega arith) refl a.0 (when_none _ Exists b.0) (leb-false max_names (length names.entries) (when_none _ Full c.0))

  none_below : (path : List ℕ) → name_refusal names (Remove path) ≡ None → list_any (λ e. is_below path e.0) names.entries ≡ false
  none_below path free =
      let a = first_parts (walk names.entries path) _ free in
      let b = first_parts (when (not (has path names.entries)) NoEntry) _ a.1 in
      let c = first_parts (when (list_any (λ e. is_below path e.0) names.entries) NotEmpty) [] b.1 in
      when_none _ NotEmpty c.0

  pub may_remove : (path : List ℕ) → name_refusal names (Remove path) ≡ None → MayCarry (record { gone = Some path; fresh = []; next = names.next }) names
  may_remove path free =
      let none = none_below path free in
      let same = others-within path names.entries none in
      let sorted : IsStrictlySortedBy (slice_cmp nat_cmp) (keys_of (others path names.entries)) = sorted-filter (λ e. not (bytes_eq path e.0)) names.entries tree.rising in
      record {
        new = tt;
        tree = subst (IsTree names.next) (sym same) (IsTree-others names.next path names.entries tree none sorted);
        room = omega (arith, length-filter (λ e. not (is_within path e.0)) names.entries);
      }

  pub removed : (path : List ℕ) → name_refusal names (Remove path) ≡ None → carried (record { gone = Some path; fresh = []; next = names.next }) names ≡ name_effect names (Remove path)
  removed path free = ap (λ es. record { next = names.next; entries = es }) (others-within path names.entries (none_below path free))

  -- the new paths are paths
  pub moved_paths : (from to : List ℕ) → is_path to ≡ true → refusal_of_move names.entries from to ≡ None → AllByRecursion (λ e. is_path e.0 ≡ true) (relocated (length from) to (within from names.entries))
  moved_paths from to is_to free =
      let can : CanMove from to names.entries = can_move names.next from to names.entries tree is_to free in
      fresh_paths from to names.entries can names.entries can.paths can.short

  pub may_rename : (from to : List ℕ) → is_path from ≡ true → is_path to ≡ true → refusal_of_move names.entries from to ≡ None
      → MayCarry (record { gone = Some from; fresh = relocated (length from) to (within from names.entries); next = names.next }) names
  may_rename from to is_from is_to free =
      let can : CanMove from to names.entries = can_move names.next from to names.entries tree is_to free in
      let new = fresh_new_rest from to names.entries can in
      let sorted = sorted-with_entries (relocated (length from) to (within from names.entries)) (staying (Some from) names.entries) new (sorted-filter (λ e. not (is_within from e.0)) names.entries tree.rising) in
      record {
        new = new;
        tree = IsTree-renamed from to names.entries can names.next tree is_from sorted;
        room = omega (arith, length-parted (length from) from to names.entries);
      }
