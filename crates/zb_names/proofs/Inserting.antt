-- Entries inserted one after another.
use Rattle.std.proofs.Common.{◌≡◌, ℕ, Bool, true, false, cond, ◌||◌, List, [], ◌∷◌, Option, Some, None, refl, sym, ap, subst, ◌∙◌, inl, inr}
use Rattle.std.specs.List.{AllByRecursion}
use Rattle.std.specs.List.Sorted.{IsStrictlySortedBy}
use Rattle.std.specs.declared.cmp.Ordering.{Ordering}
use Rattle.std.specs.declared.cmp.Ordering.TheVariants.{Less, Equal, Greater}
use Rattle.std.specs.Ordering.{nat_cmp, is_lt, is_eq}
use Rattle.std.specs.Cmp.Lexicographic.{slice_cmp}
use Rattle.std.specs.Str.{bytes_eq}
use Rattle.std.specs.Map.{keys_of}
use Rattle.std.proofs.lemmas.Cmp.{nat_list_cmp_total}
use Rattle.std.proofs.lemmas.Bool.{cases_Bool, or_parts, false≢true}
use Rattle.std.proofs.lemmas.Slice.Eq.{bytes_eq-Decides}
use Rattle.zb_types.specs.Names.{Entry, find, has, with_entry, with_entries}
use Rattle.zb_names.specs.Changing.{AreNew}
use Rattle.zb_names.proofs.Below.{bytes_eq-cmp}
use Rattle.zb_names.proofs.Finding.{less_back}
use Rattle.zb_names.proofs.Trees.{find-with_entry_other}

-- the first of two, if it is there
abbrev pub or_else : Option Entry → Option Entry → Option Entry
or_else None other = other
or_else (Some entry) other = Some entry

pub bytes_eq_self : (path : List ℕ) → bytes_eq path path ≡ true
bytes_eq_self path = (bytes_eq-Decides path path).1 refl

-- ---- what is found

pub has-with_entry : (path new : List ℕ) (entry : Entry) (es : List (List ℕ × Entry)) → has path (with_entry new entry es) ≡ (bytes_eq path new || has path es)
has-with_entry path new entry [] = refl
has-with_entry path new entry (e ∷ es) = elim (is_lt (slice_cmp nat_cmp e.0 new)) as (λ b. has path (cond b (e ∷ with_entry new entry es) ((new, entry) ∷ e ∷ es)) ≡ (bytes_eq path new || (bytes_eq path e.0 || has path es))) [
  | true ↦ ap (λ t. bytes_eq path e.0 || t) (has-with_entry path new entry es) ∙ swap (bytes_eq path e.0) (bytes_eq path new) (has path es)
  | false ↦ refl
]
  where
    swap : (a b c : Bool) → (a || (b || c)) ≡ (b || (a || c))
    swap true true c = refl
    swap true false c = refl
    swap false b c = refl

pub has-with_entries : (path : List ℕ) (new es : List (List ℕ × Entry)) → has path (with_entries new es) ≡ (has path new || has path es)
has-with_entries path [] es = refl
has-with_entries path (n ∷ new) es =
    has-with_entry path n.0 n.1 (with_entries new es) ∙ ap (λ t. bytes_eq path n.0 || t) (has-with_entries path new es) ∙ group (bytes_eq path n.0) (has path new) (has path es)
  where
    group : (a b c : Bool) → (a || (b || c)) ≡ ((a || b) || c)
    group true b c = refl
    group false b c = refl

find-with_entry_same : (path : List ℕ) (entry : Entry) (es : List (List ℕ × Entry)) → has path es ≡ false → find path (with_entry path entry es) ≡ Some entry
find-with_entry_same path entry [] absent = rw bytes_eq_self refl
find-with_entry_same path entry (e ∷ es) absent =
    let parts = or_parts (bytes_eq path e.0) (has path es) absent in
    elim (cases_Bool (is_lt (slice_cmp nat_cmp e.0 path))) as (λ _. find path (with_entry path entry (e ∷ es)) ≡ Some entry) [
      | inl less ↦ rw (less, parts.0) (find-with_entry_same path entry es parts.1)
      | inr here ↦ rw (here, bytes_eq_self path) refl
    ]

-- what is found among new entries and old ones
pub find-with_entries : (path : List ℕ) (new es : List (List ℕ × Entry)) → AreNew new es → find path (with_entries new es) ≡ or_else (find path new) (find path es)
find-with_entries path [] es are_new = refl
find-with_entries path (n ∷ new) es are_new = elim (cases_Bool (bytes_eq path n.0)) [
  | inl same ↦
      let key : n.0 ≡ path = sym ((bytes_eq-Decides path n.0).0 same) in
      let absent : has path (with_entries new es) ≡ false = subst (λ p. has p (with_entries new es) ≡ false) key are_new.0 in
      ap (λ p. find path (with_entry p n.1 (with_entries new es))) key ∙ find-with_entry_same path n.1 (with_entries new es) absent ∙ ap (λ b. or_else (cond b (Some n.1) (find path new)) (find path es)) (sym same)
  | inr apart ↦ find-with_entry_other path n.0 n.1 (with_entries new es) apart ∙ find-with_entries path new es are_new.1 ∙ ap (λ b. or_else (cond b (Some n.1) (find path new)) (find path es)) (sym apart)
]

-- ---- the order

all_less-with_entry : (path new : List ℕ) (entry : Entry) (es : List (List ℕ × Entry)) → slice_cmp nat_cmp path new ≡ Less → AllByRecursion (λ k. slice_cmp nat_cmp path k ≡ Less) (keys_of es)
    → AllByRecursion (λ k. slice_cmp nat_cmp path k ≡ Less) (keys_of (with_entry new entry es))
all_less-with_entry path new entry [] less all = (less, tt)
all_less-with_entry path new entry (e ∷ es) less all = elim (is_lt (slice_cmp nat_cmp e.0 new)) as (λ b. AllByRecursion (λ k. slice_cmp nat_cmp path k ≡ Less) (keys_of (cond b (e ∷ with_entry new entry es) ((new, entry) ∷ e ∷ es)))) [
  | true ↦ (all.0, all_less-with_entry path new entry es less all.1)
  | false ↦ (less, all)
]

pub is_less : (o : Ordering) → is_lt o ≡ true → o ≡ Less
is_less Less h = refl
is_less Equal h = absurd (false≢true h)
is_less Greater h = absurd (false≢true h)

-- a path that is neither equal nor behind stands before
before_other : (p q : List ℕ) → is_lt (slice_cmp nat_cmp q p) ≡ false → bytes_eq p q ≡ false → slice_cmp nat_cmp p q ≡ Less
before_other p q not_less apart = by (slice_cmp nat_cmp p q) refl
  where
    by : (o : Ordering) → slice_cmp nat_cmp p q ≡ o → slice_cmp nat_cmp p q ≡ Less
    by Less o = o
    by Equal o = absurd (false≢true (sym apart ∙ bytes_eq-cmp p q ∙ ap is_eq o))
    by Greater o = absurd (false≢true (sym not_less ∙ ap is_lt (less_back p q Greater o)))

-- a path that stands before another stands before all behind that
pub all_behind : (path next : List ℕ) (ks : List (List ℕ)) → slice_cmp nat_cmp path next ≡ Less → AllByRecursion (λ k. slice_cmp nat_cmp next k ≡ Less) ks → AllByRecursion (λ k. slice_cmp nat_cmp path k ≡ Less) ks
all_behind path next [] less all = tt
all_behind path next (k ∷ ks) less all = (nat_list_cmp_total.trans path next k less all.0, all_behind path next ks less all.1)

pub sorted-with_entry : (new : List ℕ) (entry : Entry) (es : List (List ℕ × Entry)) → has new es ≡ false → IsStrictlySortedBy (slice_cmp nat_cmp) (keys_of es) → IsStrictlySortedBy (slice_cmp nat_cmp) (keys_of (with_entry new entry es))
unfolding IsStrictlySortedBy
sorted-with_entry new entry [] absent sorted = (tt, tt)
sorted-with_entry new entry (e ∷ es) absent sorted =
    let parts = or_parts (bytes_eq new e.0) (has new es) absent in
    elim (cases_Bool (is_lt (slice_cmp nat_cmp e.0 new))) as (λ _. IsStrictlySortedBy (slice_cmp nat_cmp) (keys_of (with_entry new entry (e ∷ es)))) [
      | inl less ↦ rw less (all_less-with_entry e.0 new entry es (is_less _ less) sorted.0, sorted-with_entry new entry es parts.1 sorted.1)
      | inr here ↦
          let first : slice_cmp nat_cmp new e.0 ≡ Less = before_other new e.0 here parts.0 in
          rw here ((first, all_behind new e.0 (keys_of es) first sorted.0), sorted)
    ]

pub sorted-with_entries : (new es : List (List ℕ × Entry)) → AreNew new es → IsStrictlySortedBy (slice_cmp nat_cmp) (keys_of es) → IsStrictlySortedBy (slice_cmp nat_cmp) (keys_of (with_entries new es))
sorted-with_entries [] es are_new sorted = sorted
sorted-with_entries (n ∷ new) es are_new sorted = sorted-with_entry n.0 n.1 (with_entries new es) are_new.0 (sorted-with_entries new es are_new.1 sorted)
