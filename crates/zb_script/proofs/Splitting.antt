-- A text is split at its first space in one way.
use Rattle.std.proofs.Common.{◌≡◌, ℕ, true, List, [], ◌∷◌, ◌++◌, refl, sym, ◌∙◌, arith, ◌≢◌, Option, Some, None, MatchOption, Bor}
use Rattle.std.proofs.lemmas.Bool.{and_parts}
use Rattle.std.proofs.lemmas.Bool.Decides.{nat_tests}
use Rattle.std.specs.Option.{option_map}
use Rattle.zb_claims.specs.Reading.{Reads}
use Rattle.zb_script.specs.Spaces.{is_word, Splits, IsRest, behind_text}

-- the same word, and the same rest
pub record SameSplit (a b x y : List ℕ) : Type 0 where
  pub word : a ≡ b
  pub rest : x ≡ y

no_space : (b : ℕ) (bytes : List ℕ) → is_word (b ∷ bytes) ≡ true → b ≡ 32 → ⊥
no_space b bytes w e = grind (arith, nat_tests)

same_more : {a b x y : List ℕ} {c d : ℕ} → c ≡ d → SameSplit a b x y → SameSplit (c ∷ a) (d ∷ b) x y
same_more heads s = record { word = cc (heads, s.word); rest = s.rest }

split_once : (a b x y : List ℕ) → is_word a ≡ true → is_word b ≡ true → a ++ 32 ∷ x ≡ b ++ 32 ∷ y → SameSplit a b x y
split_once [] [] x y u w e = record { word = refl; rest = cc }
split_once [] (d ∷ b) x y u w e = absurd (no_space d b w cc)
split_once (c ∷ a) [] x y u w e = absurd (no_space c a u cc)
split_once (c ∷ a) (d ∷ b) x y u w e =
    let tails : a ++ 32 ∷ x ≡ b ++ 32 ∷ y = cc in
    let heads : c ≡ d = cc in
    same_more heads (split_once a b x y (and_parts _ _ u).1 (and_parts _ _ w).1 tails)

-- a word has no space in it
pub unsplit : (a x : List ℕ) → is_word (a ++ 32 ∷ x) ≡ true → ⊥
unsplit [] x w = no_space 32 x w refl
unsplit (b ∷ a) x w = unsplit a x (and_parts _ _ w).1

-- what a text is split into is what it was put together from
pub split_same : {bytes word rest : List ℕ} → Splits bytes word rest → (a x : List ℕ) → is_word a ≡ true → a ++ 32 ∷ x ≡ bytes → SameSplit word a rest x
split_same {bytes} {word} {rest} s a x w e = split_once word a rest x s.first w (s.whole ∙ sym e)

-- what a prefix leaves
pub rest_behind : (front bytes : List ℕ) (r : Option (Bor (List ℕ))) → MatchOption r ((rest : List ℕ) → bytes ≢ front ++ rest) (λ rest. bytes ≡ front ++ rest.now) → Reads IsRest (behind_text front) bytes (option_map (λ (rest : Bor (List ℕ)). rest.now) r)
rest_behind front bytes None m = λ rest h e. m rest (sym e)
rest_behind front bytes (Some rest) m = (tt, sym m)
