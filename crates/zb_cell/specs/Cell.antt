-- What the bytes of a cell stand for: two copies of 64 bytes, each with a gate, a turn and a payload of 40.
use Rattle.std.specs.Prelude.{◌≡◌, ℕ, zero, suc, ◌+◌, ◌<◌, ◌≤◌, ◌%◌, nat_lt, Bool, true, false, not, ◌&&◌, ◌==◌, if◌then◌else◌, List, [], ◌∷◌, slice_index}
use Rattle.std.specs.Prelude.{Option, None, Some}

-- n bytes from a place
unfoldable pub window : (ℕ → ℕ) → ℕ → ℕ → List ℕ
window f at zero = []
window f at (suc n) = f at ∷ window f (at + 1) n

-- a copy counts where its gate is open and its turn is 0, 1 or 2
abbrev pub counts : (ℕ → ℕ) → ℕ → Bool
counts f at = (f at == 1) && nat_lt (f (at + 1)) 3

-- the turn that follows
abbrev pub following : ℕ → ℕ
following turn = (turn + 1) % 3

-- of two copies that count, the second where its turn follows, and else the first
abbrev pub pick : Bool → ℕ → List ℕ → Bool → ℕ → List ℕ → Option (List ℕ)
pick false s x false t y = None
pick false s x true t y = Some y
pick true s x false t y = Some x
pick true s x true t y = if t == following s then Some y else Some x

-- the value of the cell that f gives the bytes of
abbrev pub value_of : (ℕ → ℕ) → Option (List ℕ)
value_of f = pick (counts f 0) (f 1) (window f 8 40) (counts f 64) (f 65) (window f 72 40)

-- the bytes from a place on
abbrev pub bytes_at : List ℕ → ℕ → ℕ → ℕ
bytes_at image place i = slice_index image (place + i)

-- the value of the cell at this place
abbrev pub value : List ℕ → ℕ → Option (List ℕ)
value image place = value_of (bytes_at image place)

-- the first copy holds the value
abbrev pub first_holds : (ℕ → ℕ) → Bool
first_holds f = counts f 0 && not (counts f 64 && (f 65 == following (f 1)))

-- where the copy stands that a change goes to: the one that doesn't hold the value
abbrev pub copy_for : (ℕ → ℕ) → ℕ
copy_for f = if first_holds f then 64 else 0

-- the turn that a change has: the one that follows that of the value, and 0 where there is none
abbrev pub turn_for : (ℕ → ℕ) → ℕ
turn_for f = if first_holds f then following (f 1) else (if counts f 64 then following (f 65) else 0)

-- how many writes a change takes: one more where the gate of its copy stands open and is to be closed
abbrev pub writes_for : (ℕ → ℕ) → ℕ
writes_for f = if f (copy_for f) == 1 then 3 else 2

-- what stands behind the gate of a copy: its turn, six zeros, a payload of 40 and 16 zeros
pub record IsBody (turn : ℕ) (payload : List ℕ) (f : ℕ → ℕ) : Type 0 where
  pub turn_is : f 0 ≡ turn
  pub front : (i : ℕ) → 1 ≤ i → i < 7 → f i ≡ 0
  pub payload_is : (i : ℕ) → i < 40 → f (7 + i) ≡ slice_index payload i
  pub back : (i : ℕ) → 47 ≤ i → i < 63 → f i ≡ 0

-- where the 128 bytes of a cell are the same, so is its value
abbrev pub DependsOnItsBytes : Type 0
DependsOnItsBytes = (image other : List ℕ) (place : ℕ) → ((i : ℕ) → i < 128 → slice_index other (place + i) ≡ slice_index image (place + i)) → value other place ≡ value image place
