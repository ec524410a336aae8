-- Bytes without one byte: a space, or a line end.
use Rattle.std.proofs.Common.{◌≡◌, ℕ, ◌+◌, ◌%◌, ◌^◌, ◌<◌, Bool, true, not, ◌&&◌, eqb, List, [], ◌∷◌, ◌++◌, refl, sym, ap, ◌∙◌, inl, inr, append_assoc, arith}
use Rattle.std.specs.Fmt.{decimal}
use Rattle.std.specs.List.{list_all}
use Rattle.std.proofs.lemmas.Bool.{and_parts, and_from, cases_Bool, eqb-true, cond-true, cond-false}
use Rattle.std.proofs.lemmas.Bool.Decides.{nat_tests}
use Rattle.std.proofs.lemmas.Fmt.{decimal_by_steps}
use Rattle.std.proofs.lemmas.List.Folds.{list_all-append}
use Rattle.zb_types.specs.Paths.{is_name_byte, is_name, are_names, is_path}

abbrev pub without : ℕ → List ℕ → Bool
without c bytes = list_all (λ b. not (eqb b c)) bytes

pub without-append : (c : ℕ) (xs ys : List ℕ) → without c xs ≡ true → without c ys ≡ true → without c (xs ++ ys) ≡ true
without-append c xs ys u w = list_all-append (λ b. not (eqb b c)) xs ys ∙ and_from _ _ u w

-- Digits.

other_digit : (c n : ℕ) → c < 48 → without c ((48 + n) ∷ []) ≡ true
other_digit c n h = grind (arith, nat_tests)

pub without-decimal : (c : ℕ) → c < 48 → (n : ℕ) → n < 2 ^ 64 → without c (decimal n) ≡ true
without-decimal c h = decimal_by_steps (λ _ bytes. without c bytes ≡ true) (λ n low. other_digit c n h) (λ n ds high w. without-append c ds ((48 + n % 10) ∷ []) w (other_digit c (n % 10) h))

-- Paths.

module _ (c : ℕ) (low : c < 33) where
  other_byte : (b : ℕ) → is_name_byte b ≡ true → not (eqb b c) ≡ true
  other_byte b h = grind (arith, nat_tests)

  other_slash : (b : ℕ) → b ≡ 47 → not (eqb b c) ≡ true
  other_slash b e = grind (arith, nat_tests)

  without-bytes : (name : List ℕ) → list_all is_name_byte name ≡ true → without c name ≡ true
  without-bytes [] h = refl
  without-bytes (b ∷ name) h = let p = and_parts _ _ h in and_from _ _ (other_byte b p.0) (without-bytes name p.1)

  -- the name so far, and what follows
  without-names : (name rest : List ℕ) → are_names name rest ≡ true → without c (name ++ rest) ≡ true
  without-names name [] h = without-append c name [] (without-bytes name (and_parts _ _ h).1) refl
  without-names name (b ∷ rest) h = elim (cases_Bool (eqb b 47)) [
    | inl is_slash ↦
        let p = and_parts _ _ (sym (cond-true (eqb b 47) (is_name name && are_names [] rest) (are_names (name ++ b ∷ []) rest) is_slash) ∙ h) in
        without-append c name (b ∷ rest) (without-bytes name (and_parts _ _ p.0).1) (and_from _ _ (other_slash b (eqb-true b 47 is_slash)) (without-names [] rest p.1))
    | inr not_slash ↦
        let p = sym (cond-false (eqb b 47) (is_name name && are_names [] rest) (are_names (name ++ b ∷ []) rest) not_slash) ∙ h in
        ap (without c) (sym (append_assoc name (b ∷ []) rest)) ∙ without-names (name ++ b ∷ []) rest p
  ]

  pub without-path : (path : List ℕ) → is_path path ≡ true → without c path ≡ true
  without-path [] h = absurd cc
  without-path (b ∷ rest) h =
      let p = and_parts _ _ h in
      let q = and_parts _ _ p.0 in
      and_from _ _ (other_slash b (eqb-true b 47 q.0)) (without-names [] rest q.1)
