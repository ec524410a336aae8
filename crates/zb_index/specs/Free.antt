-- The free slots, which stand in no order that a contract speaks of.
use Rattle.std.specs.Prelude.{◌≡◌, ℕ, ◌+◌, ◌<◌, ◌≤◌, ◌==◌, if◌then◌else◌, List, [], ◌∷◌, length}

-- 1 where the two slots are one, else 0
abbrev pub once : ℕ → ℕ → ℕ
once slot j = if slot == j then 1 else 0

-- how often a slot stands in a list
abbrev pub times : ℕ → List ℕ → ℕ
times j [] = 0
times j (slot ∷ slots) = once slot j + times j slots

-- the free slots, and for how many there is room
pub record SeenFree : Type 0 where
  pub slots : List ℕ
  pub room : ℕ

-- a slot stands among the free ones, and none of them is less
pub record IsLeast (free : List ℕ) (slot : ℕ) : Type 0 where
  pub there : 0 < times slot free
  pub least : (j : ℕ) → 0 < times j free → slot ≤ j

-- the least of the free slots is taken
pub record IsTaken (before : List ℕ) (slot : ℕ) (now : List ℕ) : Type 0 where
  pub least : IsLeast before slot
  pub left : (j : ℕ) → times j now + once slot j ≡ times j before
  pub count : length now + 1 ≡ length before

-- a slot comes to the free ones
pub record IsGiven (before : List ℕ) (slot : ℕ) (now : List ℕ) : Type 0 where
  pub more : (j : ℕ) → times j now ≡ times j before + once slot j
  pub count : length now ≡ length before + 1

-- the least of the free slots is taken, and another comes to them
pub record IsExchanged (before : List ℕ) (taken given : ℕ) (now : List ℕ) : Type 0 where
  pub least : IsLeast before taken
  pub left : (j : ℕ) → times j now + once taken j ≡ times j before + once given j
  pub count : length now ≡ length before
