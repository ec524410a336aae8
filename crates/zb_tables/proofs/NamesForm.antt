-- The numbers of names and files stay the same at each operation on names.
use Rattle.std.proofs.Common.{◌≡◌, ℕ, ◌+◌, ◌<◌, Bool, true, false, not, eqb, List, [], ◌∷◌, ◌++◌, Some, None, refl, sym, ap, ◌∙◌, inl, inr, arith}
use Rattle.std.specs.Prelude.{filter, nat_lt, drop, if◌then◌else◌, is_some, IsSome}
use Rattle.std.specs.List.{AllByRecursion, flat_map, list_any}
use Rattle.std.specs.Map.{keys_of}
use Rattle.std.specs.Ordering.{nat_cmp, is_lt}
use Rattle.std.specs.Cmp.Lexicographic.{slice_cmp}
use Rattle.std.proofs.lemmas.Bool.{cases_Bool, cond_both, eqb-true, or_parts}
use Rattle.std.proofs.lemmas.Option.{none-some}
use Rattle.zb_types.specs.Keyed.{look, put, replaced, without}
use Rattle.zb_types.specs.Names.{Entry, with_entry, with_entries, find, is_below}
use Rattle.zb_types.proofs.KeyedLists.{IsRising, look-below, without_absent}
use Rattle.zb_names.specs.Changing.{below, relocated, within}
use Rattle.zb_names.specs.Sound.{IsTree}
use Rattle.zb_names.proofs.Within.{within-found}
use Rattle.zb_tables.specs.Checkpoint.{number_of}
use Rattle.zb_tables.proofs.Counted.{one, times, times-append}

abbrev pub Entries : Type 0
Entries = List (List ℕ × Entry)

-- the numbers of the files among entries
abbrev pub numbers : Entries → List ℕ
numbers es = flat_map (λ e. number_of e.1) es

-- how often a number is a file's
abbrev pub among_names : ℕ → Entries → ℕ
among_names k es = times k (numbers es)

with_cons : (k : ℕ) (e : List ℕ × Entry) (es : Entries) → among_names k (e ∷ es) ≡ times k (number_of e.1) + among_names k es
with_cons k e es = times-append k (number_of e.1) (numbers es)

with_one : (k : ℕ) (path : List ℕ) (entry : Entry) (es : Entries) → among_names k (with_entry path entry es) ≡ times k (number_of entry) + among_names k es
with_one k path entry [] = with_cons k (path, entry) []
with_one k path entry (e ∷ es) =
    cond_both (is_lt (slice_cmp nat_cmp e.0 path)) (e ∷ with_entry path entry es) ((path, entry) ∷ e ∷ es) (λ xs. among_names k xs ≡ times k (number_of entry) + among_names k (e ∷ es))
    (λ _. let a = with_cons k e (with_entry path entry es) in let b = with_cons k e es in let rest = with_one k path entry es in omega arith)
    (λ _. with_cons k (path, entry) (e ∷ es))

pub with_more : (k : ℕ) (new es : Entries) → among_names k (with_entries new es) ≡ among_names k new + among_names k es
with_more k [] es = omega arith
with_more k (n ∷ new) es = let a = with_one k n.0 n.1 (with_entries new es) in let b = with_cons k n new in let rest = with_more k new es in omega arith

-- each entry is kept or not
pub kept_or_not : (k : ℕ) (test : List ℕ × Entry → Bool) (es : Entries) → among_names k (filter test es) + among_names k (filter (λ e. not (test e)) es) ≡ among_names k es
kept_or_not k test [] = omega arith
kept_or_not k test (e ∷ es) =
    let kept = filter test es in
    let rest = filter (λ d. not (test d)) es in
    let both = kept_or_not k test es in
    let whole = with_cons k e es in
    elim (test e) as (λ b. among_names k (if b then e ∷ kept else kept) + among_names k (if not b then e ∷ rest else rest) ≡ among_names k (e ∷ es)) [
      | true ↦ let a = with_cons k e kept in omega arith
      | false ↦ let a = with_cons k e rest in omega arith
    ]

-- moved entries keep their numbers
pub moved_same : (k cut : ℕ) (to : List ℕ) (es : Entries) → among_names k (relocated cut to es) ≡ among_names k es
moved_same k cut to [] = refl
moved_same k cut to (e ∷ es) =
    let a = with_cons k (to ++ drop cut e.0, e.1) (relocated cut to es) in
    let b = with_cons k e es in
    let rest = moved_same k cut to es in
    omega arith

-- below a path below which nothing is there are no entries
below-none : (path : List ℕ) (es : Entries) → list_any (λ e. is_below path e.0) es ≡ false → below path es ≡ []
below-none path [] none = refl
below-none path (e ∷ es) none =
    let parts = or_parts (is_below path e.0) (list_any (λ x. is_below path x.0) es) none in
    rw parts.0 (below-none path es parts.1)

-- the entries at and below a path below which there is none
pub only_found : (next k : ℕ) (path : List ℕ) (entry : Entry) (es : Entries) → IsTree next es → find path es ≡ Some entry → list_any (λ e. is_below path e.0) es ≡ false
    → among_names k (within path es) ≡ times k (number_of entry)
only_found next k path entry es tree found none =
    let a = ap (among_names k) (within-found path entry es tree.rising found ∙ ap (λ (rest : Entries). (path, entry) ∷ rest) (below-none path es none)) in
    let b = with_cons k (path, entry) [] in
    omega (arith, a, b)

-- ---- files

module _ {A : Type 0} where
  -- how often a number is a key
  abbrev pub among_keys : ℕ → List (ℕ × A) → ℕ
  among_keys k es = times k (keys_of es)

  pub put_new : (k n : ℕ) (a : A) (es : List (ℕ × A)) → look n es ≡ None → among_keys k (put n a es) ≡ one k n + among_keys k es
  put_new k n a [] none = refl
  put_new k n a (e ∷ es) none =
      cond_both (eqb e.0 n) ((n, a) ∷ es) (if nat_lt n e.0 then (n, a) ∷ e ∷ es else e ∷ put n a es) (λ xs. among_keys k xs ≡ one k n + among_keys k (e ∷ es))
      (λ t. absurd (none-some e.1 (sym none ∙ ap (λ (b : Bool). if b then Some e.1 else look n es) t)))
      (λ f. cond_both (nat_lt n e.0) ((n, a) ∷ e ∷ es) (e ∷ put n a es) (λ xs. among_keys k xs ≡ one k n + among_keys k (e ∷ es)) (λ _. refl)
      (λ _. let rest = put_new k n a es (sym (ap (λ (b : Bool). if b then Some e.1 else look n es) f) ∙ none) in omega (arith, rest)))

  pub replaced_same : (k n : ℕ) (a : A) (es : List (ℕ × A)) → among_keys k (replaced n a es) ≡ among_keys k es
  replaced_same k n a [] = refl
  replaced_same k n a (e ∷ es) =
      cond_both (eqb e.0 n) ((n, a) ∷ es) (e ∷ replaced n a es) (λ xs. among_keys k xs ≡ among_keys k (e ∷ es))
      (λ t. ap (λ (j : ℕ). one k j + among_keys k es) (sym (eqb-true e.0 n t)))
      (λ _. ap (λ (j : ℕ). one k e.0 + j) (replaced_same k n a es))

  pub dropped_one : (k n : ℕ) (a : A) (es : List (ℕ × A)) → IsRising es → look n es ≡ Some a → one k n + among_keys k (without n es) ≡ among_keys k es
  dropped_one k n a [] rising at = absurd (none-some a at)
  dropped_one k n a (e ∷ es) rising at = elim (cases_Bool (eqb e.0 n)) as (λ _. one k n + among_keys k (without n (e ∷ es)) ≡ among_keys k (e ∷ es)) [
    | inl t ↦
        let same = eqb-true e.0 n t in
        let none : look n es ≡ None = look-below n e.0 es (omega arith) rising.0 in
        let less : without n (e ∷ es) ≡ es = ap (λ (b : Bool). if b then without n es else e ∷ without n es) t ∙ without_absent n es none in
        let count = ap (among_keys k) less in
        let head = ap (one k) same in
        omega (arith, count, head)
    | inr f ↦
        let less : without n (e ∷ es) ≡ e ∷ without n es = ap (λ (b : Bool). if b then without n es else e ∷ without n es) f in
        let count = ap (among_keys k) less in
        let rest = dropped_one k n a es rising.1 (sym (ap (λ (b : Bool). if b then Some e.1 else look n es) f) ∙ at) in
        omega (arith, count, rest)
  ]

  -- a number that is a key is found
  pub key_found : (n : ℕ) (es : List (ℕ × A)) → 0 < among_keys n es → IsSome (look n es)
  key_found n [] some = absurd (omega (arith, some))
  key_found n (e ∷ es) some = elim (cases_Bool (eqb e.0 n)) as (λ _. IsSome (look n (e ∷ es))) [
    | inl t ↦ ap (λ (b : Bool). is_some (if b then Some e.1 else look n es)) t
    | inr f ↦
        let none : one n e.0 ≡ 0 = ap (λ (b : Bool). if b then 1 else 0) f in
        ap (λ (b : Bool). is_some (if b then Some e.1 else look n es)) f ∙ key_found n es (omega (arith, some, none))
  ]

  -- a number above all keys is none of them
  pub above_none : (n : ℕ) (es : List (ℕ × A)) → AllByRecursion (λ (e : ℕ × A). e.0 < n) es → look n es ≡ None
  above_none n [] all = refl
  above_none n (e ∷ es) all = elim (cases_Bool (eqb e.0 n)) as (λ _. look n (e ∷ es) ≡ None) [
    | inl t ↦ let same = eqb-true e.0 n t in let lt = all.0 in absurd (omega (arith, same, lt))
    | inr f ↦ ap (λ (b : Bool). if b then Some e.1 else look n es) f ∙ above_none n es all.1
  ]
