-- The exclusive or of lists of bytes.
use Rattle.std.specs.Prelude.{◌≡◌, ℕ, zero, suc, max, List, [], ◌∷◌, slice_index, slice_index_or, bit_xor}

-- each byte of the first list, with the byte of the second at its place if there is one
abbrev pub xored : List ℕ → List ℕ → List ℕ
xored [] ys = []
xored (x ∷ xs) [] = x ∷ xs
xored (x ∷ xs) (y ∷ ys) = bit_xor x y ∷ xored xs ys

-- the exclusive or of byte y of the first n lists, of those that reach it
abbrev pub xor_at : (ℕ → List ℕ) → ℕ → ℕ → ℕ
xor_at lists zero y = 0
xor_at lists (suc n) y = bit_xor (xor_at lists n y) (slice_index (lists n) y)

-- each byte is the exclusive or of that byte of the first n lists
abbrev pub IsXorOf : (ℕ → List ℕ) → ℕ → List ℕ → Type 0
IsXorOf lists n bytes = (y : ℕ) → slice_index bytes y ≡ xor_at lists n y

-- list k, and the empty one past the last
abbrev pub list_at : List (List ℕ) → ℕ → List ℕ
list_at lists k = slice_index_or lists k []

-- the greatest of some numbers, 0 for none
abbrev pub greatest : List ℕ → ℕ
greatest [] = 0
greatest (n ∷ ns) = max n (greatest ns)
