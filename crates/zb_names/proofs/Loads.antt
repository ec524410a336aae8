-- Entries that are given: when they are a tree, and how they are gathered.
use Rattle.std.proofs.Common.{◌≡◌, ℕ, ◌≤◌, Bool, true, List, [], ◌∷◌, ◌++◌, Option, Some, None, refl, ap}
use Rattle.std.specs.Prelude.{is_none}
use Rattle.std.specs.List.{AllByRecursion, list_all}
use Rattle.std.specs.List.Sorted.{IsStrictlySortedBy}
use Rattle.std.specs.declared.cmp.Ordering.TheVariants.{Less}
use Rattle.std.specs.Ordering.{nat_cmp, is_lt}
use Rattle.std.specs.Cmp.Lexicographic.{slice_cmp}
use Rattle.std.specs.Map.{keys_of}
use Rattle.std.proofs.lemmas.Bool.{and_parts, and_from, false≢true}
use Rattle.zb_types.specs.declared.calls.Refusal.{Refusal}
use Rattle.zb_types.specs.Paths.{is_path}
use Rattle.zb_types.specs.Names.{Entry, walk}
use Rattle.zb_names.specs.declared.entries.Entry.{Entry as Given}
use Rattle.zb_names.specs.Shown.{seen, listed}
use Rattle.zb_names.specs.Sound.{IsTree, has_number}
use Rattle.zb_names.specs.Loading.{paths_of, rise}
use Rattle.zb_names.proofs.Inserting.{is_less, all_behind}

pub sorted_from_rise : (paths : List (List ℕ)) → rise paths ≡ true → IsStrictlySortedBy (slice_cmp nat_cmp) paths
unfolding IsStrictlySortedBy
sorted_from_rise [] h = tt
sorted_from_rise (path ∷ []) h = (tt, tt)
sorted_from_rise (path ∷ (next ∷ more)) h =
    let parts = and_parts (is_lt (slice_cmp nat_cmp path next)) (rise (next ∷ more)) h in
    let less : slice_cmp nat_cmp path next ≡ Less = is_less (slice_cmp nat_cmp path next) parts.0 in
    let rest = sorted_from_rise (next ∷ more) parts.1 in
    ((less, all_behind path next more less rest.0), rest)

pub rise_from_sorted : (paths : List (List ℕ)) → IsStrictlySortedBy (slice_cmp nat_cmp) paths → rise paths ≡ true
unfolding IsStrictlySortedBy
rise_from_sorted [] sorted = refl
rise_from_sorted (path ∷ []) sorted = refl
rise_from_sorted (path ∷ (next ∷ more)) sorted = and_from (is_lt (slice_cmp nat_cmp path next)) (rise (next ∷ more)) (ap is_lt sorted.0.0) (rise_from_sorted (next ∷ more) sorted.1)

pub keys-listed : (list : List (List ℕ × Given)) → keys_of (listed list) ≡ paths_of list
keys-listed [] = refl
keys-listed (e ∷ list) = ap (λ paths. e.0 ∷ paths) (keys-listed list)

-- each walk refuses nothing
is_none-none : (o : Option Refusal) → is_none o ≡ true → o ≡ None
is_none-none None h = refl
is_none-none (Some why) h = absurd (false≢true h)

pub hanging_from_test : (entries : List (List ℕ × Entry)) (list : List (List ℕ × Given)) → list_all (λ e. is_none (walk entries e.0)) list ≡ true → AllByRecursion (λ e. walk entries e.0 ≡ None) (listed list)
hanging_from_test entries [] h = tt
hanging_from_test entries (e ∷ list) h =
    let parts = and_parts (is_none (walk entries e.0)) (list_all (λ x. is_none (walk entries x.0)) list) h in
    (is_none-none (walk entries e.0) parts.0, hanging_from_test entries list parts.1)

pub test_from_hanging : (entries : List (List ℕ × Entry)) (list : List (List ℕ × Given)) → AllByRecursion (λ e. walk entries e.0 ≡ None) (listed list) → list_all (λ e. is_none (walk entries e.0)) list ≡ true
test_from_hanging entries [] h = refl
test_from_hanging entries (e ∷ list) h = and_from (is_none (walk entries e.0)) (list_all (λ x. is_none (walk entries x.0)) list) (ap is_none h.0) (test_from_hanging entries list h.1)

files_from_test : (next : ℕ) (list : List (List ℕ × Given)) → list_all (λ e. has_number next (seen e.1)) list ≡ true → AllByRecursion (λ e. has_number next e.1 ≡ true) (listed list)
files_from_test next [] h = tt
files_from_test next (e ∷ list) h =
    let parts = and_parts (has_number next (seen e.1)) (list_all (λ x. has_number next (seen x.1)) list) h in
    (parts.0, files_from_test next list parts.1)

test_from_files : (next : ℕ) (list : List (List ℕ × Given)) → AllByRecursion (λ e. has_number next e.1 ≡ true) (listed list) → list_all (λ e. has_number next (seen e.1)) list ≡ true
test_from_files next [] h = refl
test_from_files next (e ∷ list) h = and_from (has_number next (seen e.1)) (list_all (λ x. has_number next (seen x.1)) list) h.0 (test_from_files next list h.1)

-- ---- the first of what is given

pub listed-append : (xs ys : List (List ℕ × Given)) → listed (xs ++ ys) ≡ listed xs ++ listed ys
listed-append [] ys = refl
listed-append (x ∷ xs) ys = ap (λ more. (x.0, seen x.1) ∷ more) (listed-append xs ys)

-- ---- what is given as a tree

module _ (next : ℕ) (list : List (List ℕ × Given)) where
  -- no path lacks a directory before it
  abbrev pub hang_test : Bool
  hang_test = list_all (λ e. is_none (walk (listed list) e.0)) list

  -- each file has a number
  abbrev pub number_test : Bool
  number_test = list_all (λ e. has_number next (seen e.1)) list

  pub tree_given : 1 ≤ next → rise (paths_of list) ≡ true → AllByRecursion (λ e. is_path e.0 ≡ true) (listed list) → hang_test ≡ true → number_test ≡ true → IsTree next (listed list)
  tree_given from rises paths hang number = record {
    numbered = from;
    files = files_from_test next list number;
    rising = rw keys-listed (sorted_from_rise (paths_of list) rises);
    paths = paths;
    hanging = hanging_from_test (listed list) list hang;
  }

  pub given_rises : IsTree next (listed list) → rise (paths_of list) ≡ true
  given_rises tree = rise_from_sorted (paths_of list) (rw keys-listed at tree.rising)

  pub given_numbers : IsTree next (listed list) → number_test ≡ true
  given_numbers tree = test_from_files next list tree.files

  pub given_hangs : IsTree next (listed list) → hang_test ≡ true
  given_hangs tree = test_from_hanging (listed list) list tree.hanging
