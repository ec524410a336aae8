-- Texts without a byte, and where two texts are cut at one.
use Rattle.std.proofs.Common.{◌≡◌, ℕ, ◌+◌, ◌%◌, ◌^◌, ◌≤◌, ◌<◌, Bool, true, false, not, cond, ◌&&◌, ◌||◌, eqb, List, [], ◌∷◌, ◌++◌, length, take, refl, sym, ap, subst, ◌∙◌, append_assoc, arith}
use Rattle.std.specs.Prelude.{nat_le, nat_lt}
use Rattle.std.specs.List.{list_all}
use Rattle.std.specs.Fmt.{decimal}
use Rattle.std.proofs.lemmas.Fmt.{decimal_by_steps}
use Rattle.std.proofs.lemmas.List.Folds.{list_all-append}
use Rattle.std.proofs.lemmas.Bool.Decides.{nat_tests}
use Rattle.zb_types.specs.Paths.{is_path, is_name, is_dots, is_name_byte, are_names}
use Rattle.zb_laws.proofs.Tests.{both, first_true, last_true}

-- without this byte
abbrev pub free : ℕ → List ℕ → Bool
free s bytes = list_all (λ b. not (eqb b s)) bytes

pub free-append : (s : ℕ) (xs ys : List ℕ) → free s (xs ++ ys) ≡ (free s xs && free s ys)
free-append s xs ys = list_all-append (λ b. not (eqb b s)) xs ys

pub free_both : (s : ℕ) (xs ys : List ℕ) → free s xs ≡ true → free s ys ≡ true → free s (xs ++ ys) ≡ true
free_both s xs ys p q = free-append s xs ys ∙ both (free s xs) (free s ys) p q

pub one_free : (s b : ℕ) → s < b → free s (b ∷ []) ≡ true
one_free s b lt = grind (arith, nat_tests)

all_weaker : (p q : ℕ → Bool) → ((b : ℕ) → p b ≡ true → q b ≡ true) → (xs : List ℕ) → list_all p xs ≡ true → list_all q xs ≡ true
all_weaker p q weak [] h = refl
all_weaker p q weak (x ∷ xs) h = both (q x) (list_all q xs) (weak x (first_true (p x) (list_all p xs) h)) (all_weaker p q weak xs (last_true (p x) (list_all p xs) h))

-- Two texts are cut at one byte that neither has.

not_free : (s : ℕ) (xs : List ℕ) → free s (s ∷ xs) ≡ true → ⊥
not_free s xs h = let e : eqb s s ≡ true = grind (arith, nat_tests) in let f : (not true && free s xs) ≡ true = subst (λ (b : Bool). (not b && free s xs) ≡ true) e h in absurd cc

free_tail : (s x : ℕ) (xs : List ℕ) → free s (x ∷ xs) ≡ true → free s xs ≡ true
free_tail s x xs h = last_true (not (eqb x s)) (free s xs) h

pub cut : (s : ℕ) (xs ys more rest : List ℕ) → free s xs ≡ true → free s ys ≡ true → xs ++ s ∷ more ≡ ys ++ s ∷ rest → (xs ≡ ys) × (more ≡ rest)
cut s [] [] more rest p q e = (refl, cc)
cut s [] (y ∷ ys) more rest p q e = let h : s ≡ y = cc in absurd (not_free s ys (subst (λ (b : ℕ). free s (b ∷ ys) ≡ true) (sym h) q))
cut s (x ∷ xs) [] more rest p q e = let h : x ≡ s = cc in absurd (not_free s xs (subst (λ (b : ℕ). free s (b ∷ xs) ≡ true) h p))
cut s (x ∷ xs) (y ∷ ys) more rest p q e =
    let tails : xs ++ s ∷ more ≡ ys ++ s ∷ rest = cc in
    let heads : x ≡ y = cc in
    let rests = cut s xs ys more rest (free_tail s x xs p) (free_tail s y ys q) tails in
    (ap (λ (b : ℕ). b ∷ xs) heads ∙ ap (λ (l : List ℕ). y ∷ l) rests.0, rests.1)

-- Numbers have digits alone.

pub decimal_free : (s n : ℕ) → s < 48 → n < 2 ^ 64 → free s (decimal n) ≡ true
decimal_free s n small lt =
    decimal_by_steps (λ _ ds. free s ds ≡ true) (λ d _. one_free s (48 + d) (omega (arith, small))) (λ m ds le h. free_both s ds ((48 + m % 10) ∷ []) h (one_free s (48 + m % 10) (omega (arith, small)))) n lt

-- below the letters
abbrev pub low : List ℕ → Bool
low bytes = list_all (λ b. nat_lt b 58) bytes

one_low : (d : ℕ) → d < 10 → low ((48 + d) ∷ []) ≡ true
one_low d h = grind (arith, nat_tests)

pub decimal_low : (n : ℕ) → n < 2 ^ 64 → low (decimal n) ≡ true
decimal_low n lt =
    decimal_by_steps (λ _ ds. low ds ≡ true) (λ d small. one_low d small)
    (λ m ds le h. list_all-append (λ b. nat_lt b 58) ds ((48 + m % 10) ∷ []) ∙ both (low ds) (low ((48 + m % 10) ∷ [])) h (one_low (m % 10) (omega arith))) n lt

take_one : (d : ℕ) (rest : List ℕ) → d < 10 → low (take 1 ((48 + d) ∷ rest)) ≡ true
take_one d rest h = one_low d h

pub first_low : (n : ℕ) → n < 2 ^ 64 → (rest : List ℕ) → low (take 1 (decimal n ++ rest)) ≡ true
first_low n lt =
    decimal_by_steps (λ _ ds. (rest : List ℕ) → low (take 1 (ds ++ rest)) ≡ true) (λ d small rest. take_one d rest small)
    (λ m ds le h rest. subst (λ (l : List ℕ). low (take 1 l) ≡ true) (sym (append_assoc ds ((48 + m % 10) ∷ []) rest)) (h (((48 + m % 10) ∷ []) ++ rest))) n lt

-- Names and paths have no space and no line end.

name_byte_free : (s b : ℕ) → s ≤ 32 → is_name_byte b ≡ true → not (eqb b s) ≡ true
name_byte_free s b le h = grind (arith, nat_tests)

pub name_free : (s : ℕ) (name : List ℕ) → s ≤ 32 → is_name name ≡ true → free s name ≡ true
name_free s name le h = all_weaker is_name_byte (λ c. not (eqb c s)) (λ b k. name_byte_free s b le k) name (last_true (not (is_dots name || eqb (length name) 0 || nat_lt 64 (length name))) (list_all is_name_byte name) h)

slash_free : (s b : ℕ) → s ≤ 32 → eqb b 47 ≡ true → free s (b ∷ []) ≡ true
slash_free s b le h = grind (arith, nat_tests)

names_free : (s : ℕ) (name rest : List ℕ) → s ≤ 32 → are_names name rest ≡ true → free s (name ++ rest) ≡ true
names_free s name [] le h = free_both s name [] (name_free s name le h) refl
names_free s name (b ∷ rest) le h =
    elim (eqb b 47) as (λ t. eqb b 47 ≡ t → cond t (is_name name && are_names [] rest) (are_names (name ++ b ∷ []) rest) ≡ true → free s (name ++ b ∷ rest) ≡ true) [
      | true ↦ λ e r. free_both s name (b ∷ rest) (name_free s name le (first_true (is_name name) (are_names [] rest) r))
          (free_both s (b ∷ []) rest (slash_free s b le e) (names_free s [] rest le (last_true (is_name name) (are_names [] rest) r)))
      | false ↦ λ e r. subst (λ (l : List ℕ). free s l ≡ true) (append_assoc name (b ∷ []) rest) (names_free s (name ++ b ∷ []) rest le r)
    ] refl h

pub path_free : (s : ℕ) (path : List ℕ) → s ≤ 32 → is_path path ≡ true → free s path ≡ true
path_free s [] le h = absurd cc
path_free s (b ∷ rest) le h =
    let p = first_true (eqb b 47 && are_names [] rest) (nat_le (length rest) 1023) h in
    free_both s (b ∷ []) rest (slash_free s b le (first_true (eqb b 47) (are_names [] rest) p)) (names_free s [] rest le (last_true (eqb b 47) (are_names [] rest) p))
