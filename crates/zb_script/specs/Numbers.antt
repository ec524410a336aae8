-- Numbers in decimal.
use Rattle.std.specs.Prelude.{ℕ, ◌≤◌, Bool, false, List, [], ◌∷◌, ◌++◌, IsTrue}
use Rattle.std.specs.Fmt.{decimal}
use Rattle.zb_types.specs.Limits.{within}
use Rattle.zb_claims.specs.Text.{max_word}

-- a number of 32 bits
abbrev pub IsNumber : ℕ → Type 0
IsNumber n = n ≤ max_word

-- a number from 1 to a highest one
abbrev pub IsUpTo : ℕ → ℕ → Type 0
IsUpTo high n = IsTrue (within 1 high n)

-- a digit begins it, and not a zero with more behind it
abbrev pub begins_plainly : List ℕ → Bool
begins_plainly [] = false
begins_plainly (b ∷ []) = within 48 57 b
begins_plainly (b ∷ (c ∷ bytes)) = within 49 57 b

-- a number, and anything behind its space
abbrev pub IsField : ℕ × List ℕ → Type 0
IsField field = IsNumber field.0

-- a number, a space, and what stands behind it
abbrev pub field_text : ℕ × List ℕ → List ℕ
field_text field = decimal field.0 ++ 32 ∷ field.1
