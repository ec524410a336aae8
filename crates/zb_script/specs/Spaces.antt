-- Words, and the spaces between them.
use Rattle.std.specs.Prelude.{◌≡◌, ℕ, Bool, not, ◌==◌, List, ◌∷◌, ◌++◌, IsTrue}
use Rattle.std.specs.List.{list_all}

-- no space stands in these bytes
abbrev pub is_word : List ℕ → Bool
is_word bytes = list_all (λ b. not (b == 32)) bytes

-- the bytes before the first space, and those behind it
pub record Splits (bytes word rest : List ℕ) : Type 0 where
  pub whole : word ++ 32 ∷ rest ≡ bytes
  pub first : IsTrue (is_word word)

-- anything, behind these bytes
abbrev pub IsRest : List ℕ → Type 0
IsRest rest = Unit {0}

-- some bytes, behind these
abbrev pub behind_text : List ℕ → List ℕ → List ℕ
behind_text front rest = front ++ rest
