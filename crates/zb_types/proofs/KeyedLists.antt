-- What is found in a list under numbers after a change of it, and how such a list stands to a map with numbers as keys.
use Rattle.std.proofs.Common.{◌≡◌, ℕ, zero, suc, ◌<◌, ◌≤◌, ◌+◌, true, cond, List, [], ◌∷◌, length, Option, Some, None, refl, sym, ap, ◌∙◌, inl, inr, arith}
use Rattle.std.specs.Prelude.{if◌then◌else◌, ◌==◌, is_some}
use Rattle.std.specs.Ordering.{nat_cmp}
use Rattle.std.specs.declared.cmp.Ordering.TheVariants.{Less}
use Rattle.std.specs.List.{AllByRecursion, slice_get}
use Rattle.std.specs.List.Sorted.{IsStrictlySortedBy}
use Rattle.std.specs.Map.{keys_of, lookup, remove_entry, set_value}
use Rattle.std.specs.BTreeMap.{is_at, insert_entry}
use Rattle.std.proofs.lemmas.Option.{same_Some}
use Rattle.std.proofs.lemmas.Bool.{cases_eq, cases_order, eq-eqb, ne_eqb, lt-ltb, le-ltb}
use Rattle.std.proofs.lemmas.Bool.Decides.{nat_tests}
use Rattle.zb_types.specs.Keyed.{look, put, replaced, without, changed}

-- ---- the order of the keys

-- each key is above k
abbrev pub KeysAbove : {A : Type 0} → ℕ → List (ℕ × A) → Type 0
KeysAbove k [] = Unit {0}
KeysAbove k (e ∷ es) = (k < e.0) × KeysAbove k es

-- each key is above those before it
abbrev pub IsRising : {A : Type 0} → List (ℕ × A) → Type 0
IsRising [] = Unit {0}
IsRising (e ∷ es) = KeysAbove e.0 es × IsRising es

pub KeysAbove-lower : {A : Type 0} (j k : ℕ) (es : List (ℕ × A)) → j ≤ k → KeysAbove k es → KeysAbove j es
KeysAbove-lower j k [] le above = tt
KeysAbove-lower j k (e ∷ es) le above = (omega (arith, above.0), KeysAbove-lower j k es le above.1)

-- ---- what is found

-- nothing stands under a number that no key reaches down to
pub look-below : {A : Type 0} (q k : ℕ) (es : List (ℕ × A)) → q ≤ k → KeysAbove k es → look q es ≡ None
look-below q k [] le above = refl
look-below q k (e ∷ es) le above = grind (arith, nat_tests, above.0, look-below q k es le above.1)

pub look-put : {A : Type 0} (q k : ℕ) (a : A) (es : List (ℕ × A)) → look q (put k a es) ≡ (if k == q then Some a else look q es)
look-put q k a [] = refl
look-put q k a (e ∷ es) = grind (arith, nat_tests, look-put q k a es)

pub look-put_same : {A : Type 0} (k : ℕ) (a : A) (es : List (ℕ × A)) → look k (put k a es) ≡ Some a
look-put_same k a es = grind (arith, nat_tests, look-put k k a es)

pub look-put_other : {A : Type 0} (q k : ℕ) (a : A) (es : List (ℕ × A)) → (k ≡ q → ⊥) → look q (put k a es) ≡ look q es
look-put_other q k a es other = grind (arith, nat_tests, look-put q k a es)

pub look-replaced_same : {A : Type 0} (k : ℕ) (a : A) (es : List (ℕ × A)) → is_some (look k es) ≡ true → look k (replaced k a es) ≡ Some a
look-replaced_same k a [] found = absurd cc
look-replaced_same k a (e ∷ es) found = grind (arith, nat_tests, look-replaced_same k a es)

pub look-replaced_other : {A : Type 0} (q k : ℕ) (a : A) (es : List (ℕ × A)) → (k ≡ q → ⊥) → look q (replaced k a es) ≡ look q es
look-replaced_other q k a [] other = refl
look-replaced_other q k a (e ∷ es) other = grind (arith, nat_tests, look-replaced_other q k a es other)

pub look-without : {A : Type 0} (q k : ℕ) (es : List (ℕ × A)) → look q (without k es) ≡ (if k == q then None else look q es)
look-without q k [] = grind (arith, nat_tests)
look-without q k (e ∷ es) = grind (arith, nat_tests, look-without q k es)

pub look-without_same : {A : Type 0} (k : ℕ) (es : List (ℕ × A)) → look k (without k es) ≡ None
look-without_same k es = grind (arith, nat_tests, look-without k k es)

pub look-without_other : {A : Type 0} (q k : ℕ) (es : List (ℕ × A)) → (k ≡ q → ⊥) → look q (without k es) ≡ look q es
look-without_other q k es other = grind (arith, nat_tests, look-without q k es)

-- f of what there is
abbrev pub over : {A B : Type 0} → (A → B) → Option A → Option B
over f None = None
over f (Some a) = Some (f a)

pub look-changed : {A B : Type 0} (f : A → B) (q : ℕ) (es : List (ℕ × A)) → look q (changed f es) ≡ over f (look q es)
look-changed f q [] = refl
look-changed f q (e ∷ es) = grind (arith, look-changed f q es)

-- ---- one change and another

pub changed-put : {A B : Type 0} (f : A → B) (k : ℕ) (a : A) (es : List (ℕ × A)) → changed f (put k a es) ≡ put k (f a) (changed f es)
changed-put f k a [] = refl
changed-put f k a (e ∷ es) = grind (arith, changed-put f k a es)

pub changed-replaced : {A B : Type 0} (f : A → B) (k : ℕ) (a : A) (es : List (ℕ × A)) → changed f (replaced k a es) ≡ replaced k (f a) (changed f es)
changed-replaced f k a [] = refl
changed-replaced f k a (e ∷ es) = grind (arith, changed-replaced f k a es)

pub changed-without : {A B : Type 0} (f : A → B) (k : ℕ) (es : List (ℕ × A)) → changed f (without k es) ≡ without k (changed f es)
changed-without f k [] = refl
changed-without f k (e ∷ es) = grind (arith, changed-without f k es)

pub replaced-replaced : {A : Type 0} (k : ℕ) (a b : A) (es : List (ℕ × A)) → replaced k b (replaced k a es) ≡ replaced k b es
replaced-replaced k a b [] = refl
replaced-replaced k a b (e ∷ es) = grind (arith, nat_tests, replaced-replaced k a b es)

-- a value in the place of itself
pub replaced_same : {A : Type 0} (k : ℕ) (a : A) (es : List (ℕ × A)) → look k es ≡ Some a → replaced k a es ≡ es
replaced_same k a [] found = refl
replaced_same k a (e ∷ es) found = elim (cases_eq e.0 k) as (λ _. replaced k a (e ∷ es) ≡ e ∷ es) [
  | inl here ↦
      let value : e.1 ≡ a = grind (arith, nat_tests, same_Some e.1 a) in
      ap (λ b. cond b ((k, a) ∷ es) (e ∷ replaced k a es)) (eq-eqb e.0 k here) ∙ ap (λ n. (n, a) ∷ es) (sym here) ∙ ap (λ v. (e.0, v) ∷ es) (sym value)
  | inr other ↦ grind (arith, nat_tests, replaced_same k a es)
]

pub replaced_absent : {A : Type 0} (k : ℕ) (a : A) (es : List (ℕ × A)) → look k es ≡ None → replaced k a es ≡ es
replaced_absent k a [] none = refl
replaced_absent k a (e ∷ es) none = elim (cases_eq e.0 k) as (λ _. replaced k a (e ∷ es) ≡ e ∷ es) [
  | inl here ↦ absurd (grind (arith, nat_tests))
  | inr other ↦ grind (arith, nat_tests, replaced_absent k a es)
]

pub without_absent : {A : Type 0} (k : ℕ) (es : List (ℕ × A)) → look k es ≡ None → without k es ≡ es
without_absent k [] none = refl
without_absent k (e ∷ es) none = elim (cases_eq e.0 k) as (λ _. without k (e ∷ es) ≡ e ∷ es) [
  | inl here ↦ absurd (grind (arith, nat_tests))
  | inr other ↦ grind (arith, nat_tests, without_absent k es)
]

-- what has a number already is replaced
pub put_present : {A : Type 0} (k : ℕ) (a : A) (es : List (ℕ × A)) → IsRising es → is_some (look k es) ≡ true → put k a es ≡ replaced k a es
put_present k a [] rising found = absurd cc
put_present k a (e ∷ es) rising found = elim (cases_order e.0 k) as (λ _. put k a (e ∷ es) ≡ replaced k a (e ∷ es)) [
  | inl here ↦ grind (arith, nat_tests)
  | inr apart ↦ elim apart as (λ _. put k a (e ∷ es) ≡ replaced k a (e ∷ es)) [
    | inl before ↦ grind (arith, nat_tests, put_present k a es rising.1)
    | inr past ↦ absurd (grind (arith, nat_tests, look-below k e.0 es (omega arith) rising.0))
  ]
]

-- ---- how many

pub length-put_absent : {A : Type 0} (k : ℕ) (a : A) (es : List (ℕ × A)) → look k es ≡ None → length (put k a es) ≡ length es + 1
length-put_absent k a [] none = refl
length-put_absent k a (e ∷ es) none = grind (arith, nat_tests, length-put_absent k a es)

pub length-replaced : {A : Type 0} (k : ℕ) (a : A) (es : List (ℕ × A)) → length (replaced k a es) ≡ length es
length-replaced k a [] = refl
length-replaced k a (e ∷ es) = grind (arith, nat_tests, length-replaced k a es)

pub length-changed : {A B : Type 0} (f : A → B) (es : List (ℕ × A)) → length (changed f es) ≡ length es
length-changed f [] = refl
length-changed f (e ∷ es) = grind (arith, length-changed f es)

-- ---- the order of the keys, kept

pub KeysAbove-put : {A : Type 0} (j k : ℕ) (a : A) (es : List (ℕ × A)) → j < k → KeysAbove j es → KeysAbove j (put k a es)
KeysAbove-put j k a [] lt above = (lt, tt)
KeysAbove-put j k a (e ∷ es) lt above = elim (cases_order e.0 k) as (λ _. KeysAbove j (put k a (e ∷ es))) [
  | inl here ↦ rw (eq-eqb e.0 k here) (lt, above.1)
  | inr apart ↦ elim apart as (λ _. KeysAbove j (put k a (e ∷ es))) [
    | inl before ↦ rw (ne_eqb e.0 k (λ same. omega arith), le-ltb k e.0 (omega arith)) (above.0, KeysAbove-put j k a es lt above.1)
    | inr past ↦ rw (ne_eqb e.0 k (λ same. omega arith), lt-ltb k e.0 past) (lt, above)
  ]
]

pub IsRising-put : {A : Type 0} (k : ℕ) (a : A) (es : List (ℕ × A)) → IsRising es → IsRising (put k a es)
IsRising-put k a [] rising = (tt, tt)
IsRising-put k a (e ∷ es) rising = elim (cases_order e.0 k) as (λ _. IsRising (put k a (e ∷ es))) [
  | inl here ↦ rw (eq-eqb e.0 k here) (KeysAbove-lower k e.0 es (omega arith) rising.0, rising.1)
  | inr apart ↦ elim apart as (λ _. IsRising (put k a (e ∷ es))) [
    | inl before ↦ rw (ne_eqb e.0 k (λ same. omega arith), le-ltb k e.0 (omega arith)) (KeysAbove-put e.0 k a es before rising.0, IsRising-put k a es rising.1)
    | inr past ↦ rw (ne_eqb e.0 k (λ same. omega arith), lt-ltb k e.0 past) ((past, KeysAbove-lower k e.0 es (omega arith) rising.0), rising)
  ]
]

pub KeysAbove-replaced : {A : Type 0} (j k : ℕ) (a : A) (es : List (ℕ × A)) → KeysAbove j es → KeysAbove j (replaced k a es)
KeysAbove-replaced j k a [] above = tt
KeysAbove-replaced j k a (e ∷ es) above = elim (cases_eq e.0 k) as (λ _. KeysAbove j (replaced k a (e ∷ es))) [
  | inl here ↦ rw (eq-eqb e.0 k here) (omega (arith, above.0), above.1)
  | inr other ↦ rw (ne_eqb e.0 k other) (above.0, KeysAbove-replaced j k a es above.1)
]

pub IsRising-replaced : {A : Type 0} (k : ℕ) (a : A) (es : List (ℕ × A)) → IsRising es → IsRising (replaced k a es)
IsRising-replaced k a [] rising = tt
IsRising-replaced k a (e ∷ es) rising = elim (cases_eq e.0 k) as (λ _. IsRising (replaced k a (e ∷ es))) [
  | inl here ↦ rw (eq-eqb e.0 k here) (KeysAbove-lower k e.0 es (omega arith) rising.0, rising.1)
  | inr other ↦ rw (ne_eqb e.0 k other) (KeysAbove-replaced e.0 k a es rising.0, IsRising-replaced k a es rising.1)
]

pub KeysAbove-without : {A : Type 0} (j k : ℕ) (es : List (ℕ × A)) → KeysAbove j es → KeysAbove j (without k es)
KeysAbove-without j k [] above = tt
KeysAbove-without j k (e ∷ es) above = elim (cases_eq e.0 k) as (λ _. KeysAbove j (without k (e ∷ es))) [
  | inl here ↦ rw (eq-eqb e.0 k here) (KeysAbove-without j k es above.1)
  | inr other ↦ rw (ne_eqb e.0 k other) (above.0, KeysAbove-without j k es above.1)
]

pub IsRising-without : {A : Type 0} (k : ℕ) (es : List (ℕ × A)) → IsRising es → IsRising (without k es)
IsRising-without k [] rising = tt
IsRising-without k (e ∷ es) rising = elim (cases_eq e.0 k) as (λ _. IsRising (without k (e ∷ es))) [
  | inl here ↦ rw (eq-eqb e.0 k here) (IsRising-without k es rising.1)
  | inr other ↦ rw (ne_eqb e.0 k other) (KeysAbove-without e.0 k es rising.0, IsRising-without k es rising.1)
]

pub KeysAbove-changed : {A B : Type 0} (f : A → B) (j : ℕ) (es : List (ℕ × A)) → KeysAbove j es → KeysAbove j (changed f es)
KeysAbove-changed f j [] above = tt
KeysAbove-changed f j (e ∷ es) above = (above.0, KeysAbove-changed f j es above.1)

pub IsRising-changed : {A B : Type 0} (f : A → B) (es : List (ℕ × A)) → IsRising es → IsRising (changed f es)
IsRising-changed f [] rising = tt
IsRising-changed f (e ∷ es) rising = (KeysAbove-changed f e.0 es rising.0, IsRising-changed f es rising.1)

-- ---- two lists with the same under each number

-- the value that both lists have first, under the number that both have first
same_first : {A : Type 0} (d e : ℕ × A) → d.0 ≡ e.0 → Some d.1 ≡ Some e.1 → d ≡ e
same_first d e key value = ap (λ n. (n, d.1)) key ∙ ap (λ v. (e.0, v)) (same_Some d.1 e.1 value)

look-first : {A : Type 0} (e : ℕ × A) (es : List (ℕ × A)) → look e.0 (e ∷ es) ≡ Some e.1
look-first e es = grind (arith, nat_tests)

look-rest : {A : Type 0} (q : ℕ) (e : ℕ × A) (es : List (ℕ × A)) → (e.0 ≡ q → ⊥) → look q (e ∷ es) ≡ look q es
look-rest q e es other = grind (arith, nat_tests)

-- no list has first what the other has nothing under
same_first_key : {A : Type 0} (d e : ℕ × A) (ds es : List (ℕ × A)) → IsRising (d ∷ ds) → IsRising (e ∷ es) → ((q : ℕ) → look q (d ∷ ds) ≡ look q (e ∷ es)) → d.0 ≡ e.0
same_first_key d e ds es dr er same = elim (cases_order d.0 e.0) [
  | inl key ↦ key
  | inr apart ↦ elim apart [
    | inl low ↦ absurd (grind (arith, same d.0, look-first d ds, look-below d.0 d.0 (e ∷ es) (omega arith) (low, KeysAbove-lower d.0 e.0 es (omega arith) er.0)))
    | inr high ↦ absurd (grind (arith, same e.0, look-first e es, look-below e.0 e.0 (d ∷ ds) (omega arith) (high, KeysAbove-lower e.0 d.0 ds (omega arith) dr.0)))
  ]
]

-- a list with rising keys is known by what stands under each number
pub same_keyed : {A : Type 0} (ds es : List (ℕ × A)) → IsRising ds → IsRising es → ((q : ℕ) → look q ds ≡ look q es) → ds ≡ es
same_keyed [] [] dr er same = refl
same_keyed [] (e ∷ es) dr er same = absurd (grind (arith, same e.0, look-first e es))
same_keyed (d ∷ ds) [] dr er same = absurd (grind (arith, same d.0, look-first d ds))
same_keyed (d ∷ ds) (e ∷ es) dr er same =
    let key : d.0 ≡ e.0 = same_first_key d e ds es dr er same in
    let value : Some d.1 ≡ Some e.1 = sym (look-first d ds) ∙ same d.0 ∙ ap (λ q. look q (e ∷ es)) key ∙ look-first e es in
    let others : (q : ℕ) → look q ds ≡ look q es = λ q. elim (cases_eq d.0 q) [
      | inl here ↦ look-below q d.0 ds (omega arith) dr.0 ∙ sym (look-below q e.0 es (omega arith) er.0)
      | inr other ↦ sym (look-rest q d ds other) ∙ same q ∙ look-rest q e es (λ at. other (key ∙ at))
    ] in
    ap (λ first. first ∷ ds) (same_first d e key value) ∙ ap (λ rest. e ∷ rest) (same_keyed ds es dr.1 er.1 others)

-- ---- by places

-- each pair of the list is found under its number
pub look-place : {A : Type 0} (i k : ℕ) (a : A) (es : List (ℕ × A)) → IsRising es → slice_get es i ≡ Some (k, a) → look k es ≡ Some a
look-place i k a [] rising at = absurd cc
look-place zero k a (e ∷ es) rising at = grind (arith, nat_tests, look-first e es)
look-place (suc i) k a (e ∷ es) rising at = elim (cases_eq e.0 k) [
  | inl here ↦ absurd (grind (arith, look-place i k a es rising.1 at, look-below k e.0 es (omega arith) rising.0))
  | inr other ↦ look-rest k e es other ∙ look-place i k a es rising.1 at
]

-- ---- a map with numbers as keys

all_above : {A : Type 0} (k : ℕ) (es : List (ℕ × A)) → AllByRecursion (λ q. nat_cmp k q ≡ Less) (keys_of es) → KeysAbove k es
all_above k [] all = tt
all_above k (e ∷ es) all = (grind (arith, nat_tests, all.0), all_above k es all.1)

-- a map's entries have rising keys
pub IsRising-from_ordered : {A : Type 0} (es : List (ℕ × A)) → IsStrictlySortedBy nat_cmp (keys_of es) → IsRising es
unfolding IsStrictlySortedBy
IsRising-from_ordered [] ordered = tt
IsRising-from_ordered (e ∷ es) ordered = (all_above e.0 es ordered.0, IsRising-from_ordered es ordered.1)

all_less : {A : Type 0} (k : ℕ) (es : List (ℕ × A)) → KeysAbove k es → AllByRecursion (λ q. nat_cmp k q ≡ Less) (keys_of es)
all_less k [] above = tt
all_less k (e ∷ es) above = (grind (arith, nat_tests, above.0), all_less k es above.1)

-- rising keys are those of an ordered map
pub ordered-from_IsRising : {A : Type 0} (es : List (ℕ × A)) → IsRising es → IsStrictlySortedBy nat_cmp (keys_of es)
unfolding IsStrictlySortedBy
ordered-from_IsRising [] rising = tt
ordered-from_IsRising (e ∷ es) rising = (all_less e.0 es rising.0, ordered-from_IsRising es rising.1)

pub lookup-numbers : {A : Type 0} (k : ℕ) (es : List (ℕ × A)) → lookup (is_at (nat_cmp k)) es ≡ look k es
lookup-numbers k [] = refl
lookup-numbers k (e ∷ es) = grind (arith, nat_tests, lookup-numbers k es)

-- `insert` puts
pub insert_entry-numbers : {A : Type 0} (k : ℕ) (a : A) (es : List (ℕ × A)) → insert_entry nat_cmp es k a ≡ put k a es
insert_entry-numbers k a [] = refl
insert_entry-numbers k a (e ∷ es) = elim (cases_order e.0 k) as (λ _. insert_entry nat_cmp (e ∷ es) k a ≡ put k a (e ∷ es)) [
  | inl here ↦ rw (eq-eqb e.0 k here, here, le-ltb k k (omega arith), eq-eqb k k refl) refl
  | inr apart ↦ elim apart as (λ _. insert_entry nat_cmp (e ∷ es) k a ≡ put k a (e ∷ es)) [
    | inl before ↦ rw (ne_eqb e.0 k (λ same. omega arith), le-ltb k e.0 (omega arith), ne_eqb k e.0 (λ same. omega arith)) (ap (λ rest. e ∷ rest) (insert_entry-numbers k a es))
    | inr past ↦ rw (ne_eqb e.0 k (λ same. omega arith), lt-ltb k e.0 past) refl
  ]
]

-- a value written through `get_mut` replaces
pub set_value-numbers : {A : Type 0} (k : ℕ) (a : A) (es : List (ℕ × A)) → set_value (is_at (nat_cmp k)) es a ≡ replaced k a es
set_value-numbers k a [] = refl
set_value-numbers k a (e ∷ es) = elim (cases_order e.0 k) as (λ _. set_value (is_at (nat_cmp k)) (e ∷ es) a ≡ replaced k a (e ∷ es)) [
  | inl here ↦ rw (eq-eqb e.0 k here, here, le-ltb k k (omega arith), eq-eqb k k refl) refl
  | inr apart ↦ elim apart as (λ _. set_value (is_at (nat_cmp k)) (e ∷ es) a ≡ replaced k a (e ∷ es)) [
    | inl before ↦ rw (ne_eqb e.0 k (λ same. omega arith), le-ltb k e.0 (omega arith), ne_eqb k e.0 (λ same. omega arith)) (ap (λ rest. e ∷ rest) (set_value-numbers k a es))
    | inr past ↦ rw (ne_eqb e.0 k (λ same. omega arith), lt-ltb k e.0 past) (ap (λ rest. e ∷ rest) (set_value-numbers k a es))
  ]
]

-- `remove` takes out
pub remove_entry-numbers : {A : Type 0} (k : ℕ) (es : List (ℕ × A)) → IsRising es → remove_entry (is_at (nat_cmp k)) es ≡ without k es
remove_entry-numbers k [] rising = refl
remove_entry-numbers k (e ∷ es) rising = elim (cases_order e.0 k) as (λ _. remove_entry (is_at (nat_cmp k)) (e ∷ es) ≡ without k (e ∷ es)) [
  | inl here ↦ rw (eq-eqb e.0 k here, here, le-ltb k k (omega arith), eq-eqb k k refl) (sym (without_absent k es (look-below k e.0 es (omega arith) rising.0)))
  | inr apart ↦ elim apart as (λ _. remove_entry (is_at (nat_cmp k)) (e ∷ es) ≡ without k (e ∷ es)) [
    | inl before ↦ rw (ne_eqb e.0 k (λ same. omega arith), le-ltb k e.0 (omega arith), ne_eqb k e.0 (λ same. omega arith)) (ap (λ rest. e ∷ rest) (remove_entry-numbers k es rising.1))
    | inr past ↦ rw (ne_eqb e.0 k (λ same. omega arith), lt-ltb k e.0 past) (ap (λ rest. e ∷ rest) (remove_entry-numbers k es rising.1))
  ]
]
