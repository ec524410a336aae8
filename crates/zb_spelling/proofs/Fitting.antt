-- What is tested of rows is so of what they show.
use Rattle.std.proofs.Common.{◌≡◌, ℕ, Bool, false, List, [], ◌∷◌, ◌++◌, ◌<◌, length, refl, sym, ap, ◌∙◌, subst, arith}
use Rattle.std.specs.Prelude.{map, IsTrue, nat_lt, if◌then◌else◌}
use Rattle.std.specs.List.{AllByRecursion, flat_map}
use Rattle.std.specs.List.Sorted.{IsStrictlySortedBy}
use Rattle.std.specs.Map.{keys_of}
use Rattle.std.specs.Ordering.{nat_cmp}
use Rattle.std.proofs.lemmas.Bool.{false≢true, le-ltb, ne_eqb}
use Rattle.std.proofs.lemmas.List.{length-map}
use Rattle.zb_types.specs.Keyed.{put}
use Rattle.zb_types.proofs.KeyedLists.{IsRising, KeysAbove}
use Rattle.zb_log_tables.specs.declared.log.Log.{Log}
use Rattle.zb_log_tables.specs.Logs.{state_of}
use Rattle.zb_tables.specs.Tables.{FileState, LogState}
use Rattle.zb_numbers.specs.Numbers.{number_text}
use Rattle.zb_spelling.specs.Spelling.{list_text}
use Rattle.zb_spelling.proofs.InOrder.{keys-shown}

module _ {A B : Type 0} (show : A → B) (P : B → Type 0) where
  pub all_shown : (xs : List A) → AllByRecursion (λ x. P (show x)) xs → AllByRecursion P (map show xs)
  all_shown [] all = tt
  all_shown (x ∷ xs) all = (all.0, all_shown xs all.1)

  pub all_showing : (xs : List A) → AllByRecursion P (map show xs) → AllByRecursion (λ x. P (show x)) xs
  all_showing [] all = tt
  all_showing (x ∷ xs) all = (all.0, all_showing xs all.1)

-- the keys of what rows show rise where the rows do
pub rising_shown : {A B : Type 0} (show : A → ℕ × B) (xs : List A) → IsStrictlySortedBy nat_cmp (map (λ x. (show x).0) xs) → IsStrictlySortedBy nat_cmp (keys_of (map show xs))
rising_shown show xs sorted = subst (IsStrictlySortedBy nat_cmp) (sym (keys-shown show xs)) sorted

pub rising_showing : {A B : Type 0} (show : A → ℕ × B) (xs : List A) → IsStrictlySortedBy nat_cmp (keys_of (map show xs)) → IsStrictlySortedBy nat_cmp (map (λ x. (show x).0) xs)
rising_showing show xs sorted = subst (IsStrictlySortedBy nat_cmp) (keys-shown show xs) sorted

-- a test that failed
pub failed : {P : Type 0} (b : Bool) → b ≡ false → IsTrue b → P
failed b is told = absurd (false≢true (sym is ∙ told))

-- a log as the tables have it, under its number
abbrev pub shown_log : Log → ℕ × LogState
shown_log log = (log.number, state_of log)

-- what is written of rows is what is written of what they show
pub flat_map-shown : {A B : Type 0} (show : A → B) (text : B → List ℕ) (xs : List A) → flat_map (λ x. text (show x)) xs ≡ flat_map text (map show xs)
flat_map-shown show text [] = refl
flat_map-shown show text (x ∷ xs) = ap (λ (t : List ℕ). text (show x) ++ t) (flat_map-shown show text xs)

pub list_text-shown : {A B : Type 0} (show : A → B) (text : B → List ℕ) (xs : List A) → list_text (λ x. text (show x)) xs ≡ list_text text (map show xs)
list_text-shown show text xs = ap (λ (n : ℕ). number_text 4 n ++ flat_map (λ x. text (show x)) xs) (sym (length-map xs show)) ∙ ap (λ (t : List ℕ). number_text 4 (length (map show xs)) ++ t) (flat_map-shown show text xs)

-- a file whose number is above all others goes behind them
above_one : (j k : ℕ) (file : FileState) (files rest : List (ℕ × FileState)) → KeysAbove j (files ++ (k, file) ∷ rest) → j < k
above_one j k file [] rest above = above.0
above_one j k file (e ∷ es) rest above = above_one j k file es rest above.1

pub put_behind : (k : ℕ) (file : FileState) (files rest : List (ℕ × FileState)) → IsRising (files ++ (k, file) ∷ rest) → put k file files ≡ files ++ (k, file) ∷ []
put_behind k file [] rest rising = refl
put_behind k file (e ∷ es) rest rising =
    let lt = above_one e.0 k file es rest rising.0 in
    ap (λ (b : Bool). if b then (k, file) ∷ es else (if nat_lt k e.0 then (k, file) ∷ e ∷ es else e ∷ put k file es)) (ne_eqb e.0 k (λ same. omega (arith, lt, same)))
    ∙ ap (λ (b : Bool). if b then (k, file) ∷ e ∷ es else e ∷ put k file es) (le-ltb k e.0 (omega (arith, lt)))
    ∙ ap (λ (fs : List (ℕ × FileState)). e ∷ fs) (put_behind k file es rest rising.1)
