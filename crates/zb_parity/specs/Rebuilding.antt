-- A share that is rebuilt.
use Rattle.std.specs.Prelude.{◌≡◌, ℕ, ◌<◌, List, ◌∷◌, ◌++◌, length, slice_index, bit_xor}
use Rattle.zb_holding.specs.Exclusive.{xor_at, list_at, IsXorOf}

-- each of its bytes is the exclusive or of that byte of the parity and of the other shares
abbrev pub Rebuilds : List ℕ → List (List ℕ) → List ℕ → Type 0
Rebuilds parity others share = (y : ℕ) → y < length share → slice_index share y ≡ bit_xor (slice_index parity y) (xor_at (list_at others) (length others) y)

-- its bytes are those of the share that the parity was made with beside the others, wherever that stood among them
abbrev pub Restores : List ℕ → List (List ℕ) → List ℕ → Type 0
Restores parity others share = (before after : List (List ℕ)) (lost : List ℕ) → others ≡ before ++ after
    → IsXorOf (list_at (before ++ lost ∷ after)) (length (before ++ lost ∷ after)) parity
    → (y : ℕ) → y < length share → slice_index share y ≡ slice_index lost y
