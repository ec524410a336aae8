-- Changes of the files that are kept.
use Rattle.std.proofs.Common.{◌≡◌, ℕ, ◌+◌, ◌≤◌, true, false, cond, eqb, List, [], ◌∷◌, length, Option, Some, None, is_some, Bor, IfSome, sym, subst, ◌∙◌, inl, inr}
use Rattle.std.specs.Prelude.{nat_lt, max, slice_index}
use Rattle.std.specs.Option.{option_copied}
use Rattle.std.specs.List.{AllByRecursion}
use Rattle.std.proofs.lemmas.List.FromFn.{length-map-range_with_len}
use Rattle.zb_types.specs.Bytes.{first_bytes, byte_over, written, resized}
use Rattle.std.specs.List.Sorted.{IsStrictlySortedBy}
use Rattle.std.specs.Map.{keys_of, remove_entry}
use Rattle.std.specs.BTreeMap.{is_at, insert_entry}
use Rattle.std.specs.Ordering.{nat_cmp}
use Rattle.std.proofs.lemmas.Option.{same_Some}
use Rattle.std.proofs.lemmas.Bool.{cases_Bool}
use Rattle.zb_types.specs.Apply.{max_file}
use Rattle.zb_types.specs.Keyed.{look, put, replaced, without}
use Rattle.zb_types.proofs.KeyedLists.{IsRising-from_ordered, insert_entry-numbers, remove_entry-numbers, put_present}
use Rattle.zb_history.specs.Files.{AreFiles}

abbrev Short : List (ℕ × List ℕ) → Type 0
Short files = AllByRecursion (λ e. length e.1 ≤ max_file) files

short-put : (number : ℕ) (bytes : List ℕ) (files : List (ℕ × List ℕ)) → length bytes ≤ max_file → Short files → Short (put number bytes files)
short-put number bytes [] fits short = (fits, tt)
short-put number bytes (e ∷ files) fits short = elim (eqb e.0 number) as (λ b. Short (cond b ((number, bytes) ∷ files) (cond (nat_lt number e.0) ((number, bytes) ∷ e ∷ files) (e ∷ put number bytes files)))) [
  | true ↦ (fits, short.1)
  | false ↦ elim (nat_lt number e.0) as (λ b. Short (cond b ((number, bytes) ∷ e ∷ files) (e ∷ put number bytes files))) [
    | true ↦ (fits, short)
    | false ↦ (short.0, short-put number bytes files fits short.1)
  ]
]

short-without : (number : ℕ) (files : List (ℕ × List ℕ)) → Short files → Short (without number files)
short-without number [] short = tt
short-without number (e ∷ files) short = elim (eqb e.0 number) as (λ b. Short (cond b (without number files) (e ∷ without number files))) [
  | true ↦ short-without number files short.1
  | false ↦ (short.0, short-without number files short.1)
]

-- a file that is found has no more bytes than it may
pub short-look : (number : ℕ) (bytes : List ℕ) (files : List (ℕ × List ℕ)) → AllByRecursion (λ e. length e.1 ≤ max_file) files → look number files ≡ Some bytes → length bytes ≤ max_file
short-look number bytes [] short found = absurd cc
short-look number bytes (e ∷ files) short found = elim (cases_Bool (eqb e.0 number)) [
  | inl here ↦ subst (λ b. length b ≤ max_file) (same_Some e.1 bytes (rw here at found)) short.0
  | inr other ↦ short-look number bytes files short.1 (rw other at found)
]

-- the files after an insert
pub AreFiles-inserted : (number : ℕ) (bytes : List ℕ) (files new : List (ℕ × List ℕ)) → AreFiles files → length bytes ≤ max_file → new ≡ insert_entry nat_cmp files number bytes → IsStrictlySortedBy nat_cmp (keys_of new) → AreFiles new
AreFiles-inserted number bytes files new are fits made rising = record {
  rising = rising;
  short = subst (λ s. AllByRecursion (λ e. length e.1 ≤ max_file) s) (sym (made ∙ insert_entry-numbers number bytes files)) (short-put number bytes files fits are.short);
}

-- a file that is there is replaced
pub inserted-replaced : (number : ℕ) (bytes : List ℕ) (files new : List (ℕ × List ℕ)) → AreFiles files → is_some (look number files) ≡ true → new ≡ insert_entry nat_cmp files number bytes → new ≡ replaced number bytes files
inserted-replaced number bytes files new are found made = made ∙ insert_entry-numbers number bytes files ∙ put_present number bytes files (IsRising-from_ordered files are.rising) found

-- the files after a removal
pub removed-without : (number : ℕ) (files new : List (ℕ × List ℕ)) → AreFiles files → new ≡ remove_entry (is_at (nat_cmp number)) files → new ≡ without number files
removed-without number files new are made = made ∙ remove_entry-numbers number files (IsRising-from_ordered files are.rising)

pub AreFiles-removed : (number : ℕ) (files new : List (ℕ × List ℕ)) → AreFiles files → new ≡ remove_entry (is_at (nat_cmp number)) files → IsStrictlySortedBy nat_cmp (keys_of new) → AreFiles new
AreFiles-removed number files new are made rising = record {
  rising = rising;
  short = subst (λ s. AllByRecursion (λ e. length e.1 ≤ max_file) s) (sym (removed-without number files new are made)) (short-without number files are.short);
}

-- so a file that is lent has no more
pub short-lent : (number : ℕ) (found : Option (Bor (List ℕ))) (files : List (ℕ × List ℕ)) → AreFiles files → option_copied found ≡ look number files → IfSome found (λ bytes. length bytes.now ≤ max_file)
short-lent number None files are same = tt
short-lent number (Some bytes) files are same = short-look number bytes.now files are.short (sym same)

-- ---- how many bytes there are after a write, or after a change of length

length-first_bytes : (n : ℕ) (byte : ℕ → ℕ) → length (first_bytes n byte) ≡ n
length-first_bytes n byte = length-map-range_with_len byte 0 n

pub length-written : (old : List ℕ) (offset : ℕ) (bytes : List ℕ) → length (written old offset bytes) ≡ max (length old) (offset + length bytes)
length-written old offset bytes = length-first_bytes (max (length old) (offset + length bytes)) (byte_over old offset bytes)

pub length-resized : (old : List ℕ) (n : ℕ) → length (resized old n) ≡ n
length-resized old n = length-first_bytes n (slice_index old)
