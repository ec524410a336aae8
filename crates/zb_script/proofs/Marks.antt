-- The first line end of some bytes.
use Rattle.std.proofs.Common.{◌≡◌, ℕ, zero, suc, ◌+◌, ◌<◌, ◌≤◌, Bool, true, false, not, cond, ◌&&◌, eqb, List, [], ◌∷◌, ◌++◌, length, take, drop, Some, None, refl, sym, ap, subst, ◌∙◌, arith}
use Rattle.std.specs.Prelude.{position, nat_lt}
use Rattle.std.specs.List.{position_or_len}
use Rattle.std.proofs.lemmas.Bool.Decides.{nat_tests}
use Rattle.zb_laws.proofs.Clean.{clean}

abbrev pub is_end : ℕ → Bool
is_end b = eqb b 10

-- how many bytes stand before the first line end
abbrev mark : List ℕ → ℕ
mark [] = 0
mark (x ∷ xs) = cond (eqb x 10) 0 (suc (mark xs))

position_or_len-mark : (xs : List ℕ) → position_or_len is_end xs ≡ mark xs
position_or_len-mark [] = refl
position_or_len-mark (x ∷ xs) =
    elim (eqb x 10) as (λ b. cond (not b) (1 + position_or_len is_end xs) 0 ≡ cond b 0 (suc (mark xs))) [
      | true ↦ refl
      | false ↦ omega (arith, position_or_len-mark xs)
    ]

position_mark : (xs : List ℕ) → position is_end xs ≡ cond (nat_lt (mark xs) (length xs)) (Some (mark xs)) None
position_mark xs = ap (λ n. cond (nat_lt n (length xs)) (Some n) None) (position_or_len-mark xs)

mark_clean : (xs : List ℕ) → clean (take (mark xs) xs) ≡ true
mark_clean [] = refl
mark_clean (x ∷ xs) =
    elim (eqb x 10) as (λ b. eqb x 10 ≡ b → clean (take (cond b 0 (suc (mark xs))) (x ∷ xs)) ≡ true) [
      | true ↦ λ e. refl
      | false ↦ λ e. ap (λ (b : Bool). not b && clean (take (mark xs) xs)) e ∙ mark_clean xs
    ] refl

mark_splits : (xs : List ℕ) → mark xs < length xs → xs ≡ take (mark xs) xs ++ 10 ∷ drop (suc (mark xs)) xs
mark_splits [] lt = absurd (omega (arith, lt))
mark_splits (x ∷ xs) lt =
    elim (eqb x 10) as (λ b. eqb x 10 ≡ b → cond b 0 (suc (mark xs)) < suc (length xs)
    → x ∷ xs ≡ take (cond b 0 (suc (mark xs))) (x ∷ xs) ++ 10 ∷ drop (suc (cond b 0 (suc (mark xs)))) (x ∷ xs)) [
      | true ↦ λ e l. let same : x ≡ 10 = grind (arith, nat_tests) in ap (λ (b : ℕ). b ∷ xs) same
      | false ↦ λ e l. ap (λ (l : List ℕ). x ∷ l) (mark_splits xs (omega (arith, l)))
    ] refl lt

mark_within : (xs : List ℕ) → mark xs ≤ length xs
mark_within [] = omega arith
mark_within (x ∷ xs) =
    elim (eqb x 10) as (λ b. cond b 0 (suc (mark xs)) ≤ suc (length xs)) [
      | true ↦ omega arith
      | false ↦ omega (arith, mark_within xs)
    ]

take_whole : (xs : List ℕ) (n : ℕ) → n ≡ length xs → take n xs ≡ xs
take_whole [] zero e = refl
take_whole [] (suc n) e = refl
take_whole (x ∷ xs) zero e = absurd (omega (arith, e))
take_whole (x ∷ xs) (suc n) e = ap (λ (l : List ℕ). x ∷ l) (take_whole xs n (omega (arith, e)))

-- the first line and what follows its end
pub record IsMark (bytes : List ℕ) (n : ℕ) : Type 0 where
  pub within : n < length bytes
  pub line : clean (take n bytes) ≡ true
  pub splits : bytes ≡ take n bytes ++ 10 ∷ drop (suc n) bytes

pub marked : (bytes : List ℕ) (n : ℕ) → position is_end bytes ≡ Some n → IsMark bytes n
marked bytes n is =
    elim (nat_lt (mark bytes) (length bytes)) as (λ b. nat_lt (mark bytes) (length bytes) ≡ b → cond b (Some (mark bytes)) None ≡ Some n → IsMark bytes n) [
      | true ↦ λ e h. let lt : mark bytes < length bytes = grind (arith, nat_tests) in
          let same : mark bytes ≡ n = cc in
          subst (IsMark bytes) same (record { within = lt; line = mark_clean bytes; splits = mark_splits bytes lt })
      | false ↦ λ e h. absurd cc
    ] refl (sym (position_mark bytes) ∙ is)

pub unmarked : (bytes : List ℕ) → position is_end bytes ≡ None → clean bytes ≡ true
unmarked bytes is =
    elim (nat_lt (mark bytes) (length bytes)) as (λ b. nat_lt (mark bytes) (length bytes) ≡ b → cond b (Some (mark bytes)) None ≡ None → clean bytes ≡ true) [
      | true ↦ λ e h. absurd cc
      | false ↦ λ e h. let le : length bytes ≤ mark bytes = grind (arith, nat_tests) in
          ap clean (sym (take_whole bytes (mark bytes) (omega (arith, le, mark_within bytes)))) ∙ mark_clean bytes
    ] refl (sym (position_mark bytes) ∙ is)
