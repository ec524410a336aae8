-- Names in order: which of them a range of an ordered map lists, and that the first of these are the least.
use Rattle.std.proofs.Common.{◌≡◌, ℕ, zero, suc, ◌<◌, ◌≤◌, ◌&&◌, ◌||◌, Bool, true, false, cond, List, [], ◌∷◌, ◌++◌, length, take, Some, None, Option, refl, sym, ap, ◌∙◌, subst, inl, inr, arith}
use Rattle.std.specs.Prelude.{filter, is_some, All}
use Rattle.std.specs.List.{AllByRecursion, list_any}
use Rattle.std.specs.List.Sorted.{IsStrictlySortedBy}
use Rattle.std.specs.declared.cmp.Ordering.TheVariants.{Less}
use Rattle.std.proofs.lemmas.Bool.{cases_Bool, cond_both, cond-true, cond-false, and_left, and_right, or_left, or_parts}
use Rattle.std.specs.Map.{lookup, keys_of}
use Rattle.std.specs.BTreeMap.Range.{range_contains, entries_between}
use Rattle.std.specs.declared.ops.Bound.TheVariants.{Unbounded}
use Rattle.std.specs.Ordering.{is_lt}
use Rattle.std.proofs.lemmas.List.{length-take}
use Rattle.std.proofs.lemmas.List.Elements.{All-nil, All-cons}
use Rattle.zb_types.specs.declared.ids.FragId.{FragId}
use Rattle.zb_types.specs.Order.{frag_cmp}
use Rattle.zb_holding.specs.Carrying.{same_frag}
use Rattle.zb_holding.specs.Listing.{start_above, is_above, names_above, most_names, is_listed, IsBehind, AreLeastAbove}
use Rattle.zb_holding.proofs.Keys.{same_frag-is}

and_true : (b : Bool) → (b && true) ≡ b
and_true true = refl
and_true false = refl

contains-above : (after : Option FragId) (id : FragId) → range_contains frag_cmp (start_above after) Unbounded id ≡ is_above after id
contains-above None id = refl
contains-above (Some after) id = and_true (is_lt (frag_cmp after id))

module _ {A : Type 0} where
  -- a range of an ordered map lists the names above another
  pub names-between : (after : Option FragId) (entries : List (FragId × A)) → keys_of (entries_between frag_cmp (start_above after) Unbounded entries) ≡ names_above after entries
  names-between after entries = ap (λ test. keys_of (filter test entries)) (λ i e. contains-above after e.0 i)

  all_kept : (P : FragId → Type 0) (test : FragId → Bool) (entries : List (FragId × A)) → AllByRecursion P (keys_of entries) → AllByRecursion P (keys_of (filter (λ e. test e.0) entries))
  all_kept P test [] all = tt
  all_kept P test (e ∷ es) all =
      cond_both (test e.0) (e ∷ filter (λ x. test x.0) es) (filter (λ x. test x.0) es) (λ (xs : List (FragId × A)). AllByRecursion P (keys_of xs))
      (λ _. (all.0, all_kept P test es all.1)) (λ _. all_kept P test es all.1)

  -- the names that pass a test are in order
  kept_in_order : (test : FragId → Bool) (entries : List (FragId × A)) → IsStrictlySortedBy frag_cmp (keys_of entries) → IsStrictlySortedBy frag_cmp (keys_of (filter (λ e. test e.0) entries))
  unfolding IsStrictlySortedBy
  kept_in_order test [] order = tt
  kept_in_order test (e ∷ es) order =
      cond_both (test e.0) (e ∷ filter (λ x. test x.0) es) (filter (λ x. test x.0) es) (λ (xs : List (FragId × A)). IsStrictlySortedBy frag_cmp (keys_of xs))
      (λ _. (all_kept (λ y. frag_cmp e.0 y ≡ Less) test es order.0, kept_in_order test es order.1)) (λ _. kept_in_order test es order.1)

  -- a name is kept exactly where it passes the test and is there
  pub listed_by : (test : FragId → Bool) (id : FragId) (entries : List (FragId × A)) → list_any (same_frag id) (keys_of (filter (λ e. test e.0) entries)) ≡ (test id && is_some (lookup (same_frag id) entries))
  listed_by test id [] = sym (and_right (test id) false refl)
  listed_by test id (e ∷ es) =
      let rest = listed_by test id es in
      let kept : List (FragId × A) = filter (λ x. test x.0) es in
      let found = lookup (same_frag id) es in
      elim (cases_Bool (same_frag id e.0)) [
        | inl same ↦
            let some : is_some (cond (same_frag id e.0) (Some e.1) found) ≡ true = ap is_some (cond-true (same_frag id e.0) (Some e.1) found same) in
            let right : (test id && is_some (cond (same_frag id e.0) (Some e.1) found)) ≡ test id = ap (λ b. test id && b) some ∙ and_true (test id) in
            elim (cases_Bool (test e.0)) [
              | inl pass ↦
                  ap (λ (xs : List (FragId × A)). list_any (same_frag id) (keys_of xs)) (cond-true (test e.0) (e ∷ kept) kept pass)
                  ∙ or_left (same_frag id e.0) (list_any (same_frag id) (keys_of kept)) same
                  ∙ sym (right ∙ ap test (same_frag-is id e.0 same) ∙ pass)
              | inr fail ↦
                  let fails : test id ≡ false = ap test (same_frag-is id e.0 same) ∙ fail in
                  ap (λ (xs : List (FragId × A)). list_any (same_frag id) (keys_of xs)) (cond-false (test e.0) (e ∷ kept) kept fail)
                  ∙ rest ∙ and_left (test id) (is_some found) fails
                  ∙ sym (right ∙ fails)
            ]
        | inr other ↦
            let right : (test id && is_some (cond (same_frag id e.0) (Some e.1) found)) ≡ (test id && is_some found) =
            ap (λ o. test id && is_some o) (cond-false (same_frag id e.0) (Some e.1) found other) in
            elim (cases_Bool (test e.0)) [
              | inl pass ↦
                  ap (λ (xs : List (FragId × A)). list_any (same_frag id) (keys_of xs)) (cond-true (test e.0) (e ∷ kept) kept pass)
                  ∙ ap (λ b. b || list_any (same_frag id) (keys_of kept)) other ∙ rest ∙ sym right
              | inr fail ↦
                  ap (λ (xs : List (FragId × A)). list_any (same_frag id) (keys_of xs)) (cond-false (test e.0) (e ∷ kept) kept fail)
                  ∙ rest ∙ sym right
            ]
      ]

-- ---- the first of some names

all_taken : (P : FragId → Type 0) (n : ℕ) (names : List FragId) → AllByRecursion P names → AllByRecursion P (take n names)
all_taken P zero names all = tt
all_taken P (suc n) [] all = tt
all_taken P (suc n) (x ∷ xs) all = (all.0, all_taken P n xs all.1)

taken_in_order : (n : ℕ) (names : List FragId) → IsStrictlySortedBy frag_cmp names → IsStrictlySortedBy frag_cmp (take n names)
unfolding IsStrictlySortedBy
taken_in_order zero names order = tt
taken_in_order (suc n) [] order = tt
taken_in_order (suc n) (x ∷ xs) order = (all_taken (λ y. frag_cmp x y ≡ Less) n xs order.0, taken_in_order n xs order.1)

-- what is listed by the first is listed
taken_listed : (n : ℕ) (id : FragId) (names : List FragId) → is_listed id (take n names) ≡ true → is_listed id names ≡ true
taken_listed zero id names h = absurd cc
taken_listed (suc n) id [] h = h
taken_listed (suc n) id (x ∷ xs) h =
    elim (cases_Bool (same_frag id x)) [
      | inl same ↦ or_left (same_frag id x) (is_listed id xs) same
      | inr other ↦
          ap (λ b. b || is_listed id xs) other ∙ taken_listed n id xs (sym (ap (λ b. b || is_listed id (take n xs)) other) ∙ h)
    ]

-- what holds of each name holds of one that is listed
listed_has : (P : FragId → Type 0) (id : FragId) (names : List FragId) → AllByRecursion P names → is_listed id names ≡ true → P id
listed_has P id [] all h = absurd cc
listed_has P id (x ∷ xs) all h =
    elim (cases_Bool (same_frag id x)) [
      | inl same ↦ subst P (sym (same_frag-is id x same)) all.0
      | inr other ↦ listed_has P id xs all.1 (sym (ap (λ b. b || is_listed id xs) other) ∙ h)
    ]

-- a name that isn't among the first n stands behind them
pub record IsLater (n : ℕ) (id : FragId) (names : List FragId) : Type 0 where
  pub many : length (take n names) ≡ n
  pub above : All (λ other. is_lt (frag_cmp other id) ≡ true) (take n names)

later : (n : ℕ) (id : FragId) (names : List FragId) → IsStrictlySortedBy frag_cmp names → is_listed id names ≡ true → is_listed id (take n names) ≡ false → IsLater n id names
unfolding IsStrictlySortedBy
later zero id names order h left = record { many = refl; above = All-nil (λ other. is_lt (frag_cmp other id) ≡ true) }
later (suc n) id [] order h left = absurd cc
later (suc n) id (x ∷ xs) order h left =
    let parts = or_parts (same_frag id x) (is_listed id (take n xs)) left in
    let listed : is_listed id xs ≡ true = sym (ap (λ b. b || is_listed id xs) parts.0) ∙ h in
    let rest = later n id xs order.1 listed parts.1 in
    record {
      many = ap suc rest.many;
      above = All-cons (λ other. is_lt (frag_cmp other id) ≡ true) x (take n xs)
          (ap is_lt (listed_has (λ y. frag_cmp x y ≡ Less) id xs order.0 listed)) rest.above;
    }

-- the first of the names above another are the least of them
pub least_above : {A : Type 0} (after : Option FragId) (entries : List (FragId × A)) → IsStrictlySortedBy frag_cmp (keys_of entries)
    → AreLeastAbove (λ id. is_some (lookup (same_frag id) entries)) after (take most_names (names_above after entries))
least_above after entries order =
    let all = names_above after entries in
    let sorted = kept_in_order (is_above after) entries order in
    record {
      order = taken_in_order most_names all sorted;
      count = omega (arith, length-take most_names all);
      held = λ id listed. sym (listed_by (is_above after) id entries) ∙ taken_listed most_names id all listed;
      left_out = λ id there left.
          let behind = later most_names id all sorted (listed_by (is_above after) id entries ∙ there) left in
          record { many = behind.many; above = behind.above };
    }
