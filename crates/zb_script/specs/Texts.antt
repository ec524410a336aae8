-- Bytes between quotes.
use Rattle.std.specs.Prelude.{◌≡◌, ℕ, ◌<◌, ◌/◌, ◌%◌, Bool, false, not, ◌==◌, ◌&&◌, ◌||◌, nat_le, List, [], ◌∷◌, ◌++◌, length, IsTrue}
use Rattle.std.specs.List.{flat_map}
use Rattle.zb_types.specs.Limits.{within}
use Rattle.zb_claims.specs.Text.{hex_digit, byte_text, max_part, AreBytes}

-- this letter is the digit of d
pub record IsDigitOf (letter d : ℕ) : Type 0 where
  pub small : d < 16
  pub same : hex_digit d ≡ letter

-- a byte that stands for itself
abbrev pub is_plain : ℕ → Bool
is_plain b = nat_le 32 b && nat_le b 126 && not (b == 34 || b == 92)

-- what is a byte, and what follows it
abbrev pub IsFront : ℕ × List ℕ → Type 0
IsFront front = front.0 < 256

-- a byte in its spelling, and what follows it
abbrev pub front_text : ℕ × List ℕ → List ℕ
front_text front = byte_text front.0 ++ front.1

-- a byte that is escaped, and what follows it
abbrev pub IsEscaped : ℕ × List ℕ → Type 0
IsEscaped front = (front.0 < 256) × (is_plain front.0 ≡ false)

-- the two digits of a byte behind their letter, and what follows them
abbrev pub escape_text : ℕ × List ℕ → List ℕ
escape_text front = 120 ∷ hex_digit (front.0 / 16) ∷ hex_digit (front.0 % 16) ∷ front.1

-- bytes in their spelling, up to the quote that ends them
abbrev pub ended_text : List ℕ → List ℕ
ended_text bytes = flat_map byte_text bytes ++ 34 ∷ []

-- 1 to 4,096 bytes
abbrev pub IsText : List ℕ → Type 0
IsText bytes = IsTrue (within 1 max_part (length bytes)) × AreBytes bytes
