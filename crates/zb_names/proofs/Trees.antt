-- Trees of names, and changes that leave them trees.
use Rattle.std.proofs.Common.{◌≡◌, ℕ, ◌+◌, ◌<◌, ◌≤◌, leb, ltb, true, false, cond, not, List, [], ◌∷◌, length, Option, Some, None, is_some, refl, sym, ap, subst, ◌∙◌, inl, inr, arith}
use Rattle.std.specs.List.{AllByRecursion, list_any}
use Rattle.std.specs.List.Sorted.{IsStrictlySortedBy}
use Rattle.std.specs.Ordering.{nat_cmp, is_lt}
use Rattle.std.specs.Cmp.Lexicographic.{slice_cmp}
use Rattle.std.specs.Str.{bytes_eq}
use Rattle.std.specs.Map.{keys_of}
use Rattle.std.proofs.lemmas.Bool.{cases_Bool, or_parts, and_parts, and_from, ltb-true, lt-ltb, le-leb, false≢true}
use Rattle.std.proofs.lemmas.Slice.Eq.{bytes_eq-Decides}
use Rattle.zb_types.specs.Paths.{is_path}
use Rattle.zb_types.specs.Names.{Entry, directory, numbered, find, has, is_dir, is_below, walk, with_entry, others}
use Rattle.zb_names.specs.Sound.{IsTree, has_number}
use Rattle.zb_names.proofs.Finding.{has-find}
use Rattle.zb_names.proofs.Fronts.{hangs_from_walk, walk_from_hanging}

-- ---- what is found after a change

pub find-with_entry_other : (path new : List ℕ) (entry : Entry) (es : List (List ℕ × Entry)) → bytes_eq path new ≡ false → find path (with_entry new entry es) ≡ find path es
find-with_entry_other path new entry [] other = rw other refl
find-with_entry_other path new entry (e ∷ es) other = elim (cases_Bool (is_lt (slice_cmp nat_cmp e.0 new))) as (λ _. find path (with_entry new entry (e ∷ es)) ≡ find path (e ∷ es)) [
  | inl less ↦ rw less (ap (cond (bytes_eq path e.0) (Some e.1)) (find-with_entry_other path new entry es other))
  | inr here ↦ rw (here, other) refl
]

pub find-others_other : (path gone : List ℕ) (es : List (List ℕ × Entry)) → bytes_eq path gone ≡ false → find path (others gone es) ≡ find path es
find-others_other path gone [] other = refl
find-others_other path gone (e ∷ es) other = elim (cases_Bool (bytes_eq gone e.0)) as (λ _. find path (others gone (e ∷ es)) ≡ find path (e ∷ es)) [
  | inl same ↦
      let key : gone ≡ e.0 = (bytes_eq-Decides gone e.0).0 same in
      let apart : bytes_eq path e.0 ≡ false = subst (λ k. bytes_eq path k ≡ false) key other in
      rw (same, apart) (find-others_other path gone es other)
  | inr kept ↦ rw kept (ap (cond (bytes_eq path e.0) (Some e.1)) (find-others_other path gone es other))
]

-- two paths at which different things are found differ
pub apart_from_found : (path q : List ℕ) (es : List (List ℕ × Entry)) → is_dir (find path es) ≡ true → has q es ≡ false → bytes_eq path q ≡ false
apart_from_found path q es dir absent = elim (cases_Bool (bytes_eq path q)) [
  | inl same ↦
      let key : path ≡ q = (bytes_eq-Decides path q).0 same in
      let none : is_some (find path es) ≡ false = sym (ap (λ k. is_some (find k es)) (sym key)) ∙ sym (has-find q es) ∙ absent in
      absurd (some_dir (find path es) dir none)
  | inr other ↦ other
]
  where
    some_dir : (o : Option Entry) → is_dir o ≡ true → is_some o ≡ false → ⊥
    some_dir None a b = false≢true a
    some_dir (Some entry) a b = false≢true (sym b)

-- ---- a new entry

pub all-with_entry : (P : List ℕ × Entry → Type 0) (new : List ℕ) (entry : Entry) (es : List (List ℕ × Entry)) → P (new, entry) → AllByRecursion P es → AllByRecursion P (with_entry new entry es)
all-with_entry P new entry [] here all = (here, tt)
all-with_entry P new entry (e ∷ es) here all = elim (is_lt (slice_cmp nat_cmp e.0 new)) as (λ b. AllByRecursion P (cond b (e ∷ with_entry new entry es) ((new, entry) ∷ e ∷ es))) [
  | true ↦ (all.0, all-with_entry P new entry es here all.1)
  | false ↦ (here, all)
]

-- a path that hangs from directories still does
hangs-with_entry : (new : List ℕ) (entry : Entry) (es : List (List ℕ × Entry)) (path : List ℕ) → has new es ≡ false → walk es path ≡ None → walk (with_entry new entry es) path ≡ None
hangs-with_entry new entry es path absent hangs =
    walk_from_hanging (with_entry new entry es) path (λ front some below.
    let dir : is_dir (find front es) ≡ true = hangs_from_walk es path hangs front some below in
    ap is_dir (find-with_entry_other front new entry es (apart_from_found front new es dir absent)) ∙ dir)

all_hang-with_entry : (new : List ℕ) (entry : Entry) (all es : List (List ℕ × Entry)) → has new all ≡ false → AllByRecursion (λ e. walk all e.0 ≡ None) es → AllByRecursion (λ e. walk (with_entry new entry all) e.0 ≡ None) es
all_hang-with_entry new entry all [] absent hanging = tt
all_hang-with_entry new entry all (e ∷ es) absent hanging = (hangs-with_entry new entry all e.0 absent hanging.0, all_hang-with_entry new entry all es absent hanging.1)

-- numbers below the next are below a later one
number_on : (next later : ℕ) (entry : Entry) → next ≤ later → has_number next entry ≡ true → has_number later entry ≡ true
number_on next later directory le h = refl
number_on next later (numbered n) le h =
    let parts = and_parts (leb 1 n) (ltb n next) h in
    let below = ltb-true n next parts.1 in
    and_from (leb 1 n) (ltb n later) parts.0 (lt-ltb n later (omega arith))

numbers_on : (next later : ℕ) (es : List (List ℕ × Entry)) → next ≤ later → AllByRecursion (λ e. has_number next e.1 ≡ true) es → AllByRecursion (λ e. has_number later e.1 ≡ true) es
numbers_on next later [] le all = tt
numbers_on next later (e ∷ es) le all = (number_on next later e.1 le all.0, numbers_on next later es le all.1)

-- the number of a new file
pub number_of_new : (n : ℕ) → 1 ≤ n → has_number (n + 1) (numbered n) ≡ true
number_of_new n some = and_from (leb 1 n) (ltb n (n + 1)) (le-leb 1 n some) (lt-ltb n (n + 1) (omega arith))

pub IsTree-with_entry : (next later : ℕ) (new : List ℕ) (entry : Entry) (es : List (List ℕ × Entry)) → next ≤ later → has_number later entry ≡ true → IsTree next es → is_path new ≡ true → has new es ≡ false → walk es new ≡ None
    → IsStrictlySortedBy (slice_cmp nat_cmp) (keys_of (with_entry new entry es)) → IsTree later (with_entry new entry es)
IsTree-with_entry next later new entry es le number tree path absent walked rising = record {
  numbered = (let from = tree.numbered in omega arith);
  files = all-with_entry (λ e. has_number later e.1 ≡ true) new entry es number (numbers_on next later es le tree.files);
  rising = rising;
  paths = all-with_entry (λ e. is_path e.0 ≡ true) new entry es path tree.paths;
  hanging = all-with_entry (λ e. walk (with_entry new entry es) e.0 ≡ None) new entry es (hangs-with_entry new entry es new absent walked) (all_hang-with_entry new entry es es absent tree.hanging);
}

-- ---- an entry less

all-others : (P : List ℕ × Entry → Type 0) (gone : List ℕ) (es : List (List ℕ × Entry)) → AllByRecursion P es → AllByRecursion P (others gone es)
all-others P gone [] all = tt
all-others P gone (e ∷ es) all = elim (bytes_eq gone e.0) as (λ b. AllByRecursion P (cond (not b) (e ∷ others gone es) (others gone es))) [
  | true ↦ all-others P gone es all.1
  | false ↦ (all.0, all-others P gone es all.1)
]

-- a front of a path that isn't below another is no front that is that other
apart_from_below : (front gone path : List ℕ) → is_below front path ≡ true → is_below gone path ≡ false → bytes_eq front gone ≡ false
apart_from_below front gone path below outside = elim (cases_Bool (bytes_eq front gone)) [
  | inl same ↦
      let key : front ≡ gone = (bytes_eq-Decides front gone).0 same in
      absurd (false≢true (sym outside ∙ sym (ap (λ k. is_below k path) key) ∙ below))
  | inr other ↦ other
]

hangs-others : (gone : List ℕ) (es : List (List ℕ × Entry)) (path : List ℕ) → is_below gone path ≡ false → walk es path ≡ None → walk (others gone es) path ≡ None
hangs-others gone es path outside hangs =
    walk_from_hanging (others gone es) path (λ front some below.
    ap is_dir (find-others_other front gone es (apart_from_below front gone path below outside)) ∙ hangs_from_walk es path hangs front some below)

all_hang-others : (gone : List ℕ) (all es : List (List ℕ × Entry)) → list_any (λ e. is_below gone e.0) es ≡ false → AllByRecursion (λ e. walk all e.0 ≡ None) es → AllByRecursion (λ e. walk (others gone all) e.0 ≡ None) es
all_hang-others gone all [] outside hanging = tt
all_hang-others gone all (e ∷ es) outside hanging =
    let parts = or_parts (is_below gone e.0) (list_any (λ x. is_below gone x.0) es) outside in
    (hangs-others gone all e.0 parts.0 hanging.0, all_hang-others gone all es parts.1 hanging.1)

pub IsTree-others : (next : ℕ) (gone : List ℕ) (es : List (List ℕ × Entry)) → IsTree next es → list_any (λ e. is_below gone e.0) es ≡ false
    → IsStrictlySortedBy (slice_cmp nat_cmp) (keys_of (others gone es)) → IsTree next (others gone es)
IsTree-others next gone es tree outside rising = record {
  numbered = tree.numbered;
  files = all-others (λ e. has_number next e.1 ≡ true) gone es tree.files;
  rising = rising;
  paths = all-others (λ e. is_path e.0 ≡ true) gone es tree.paths;
  hanging = all-others (λ e. walk (others gone es) e.0 ≡ None) gone es (all_hang-others gone es es outside tree.hanging);
}

-- ---- files

pub path_has_bytes : (path : List ℕ) → is_path path ≡ true → 0 < length path
path_has_bytes [] path = absurd (false≢true path)
path_has_bytes (b ∷ rest) path = omega arith
