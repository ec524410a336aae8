-- Blocks by their numbers, in one piece of memory.
use Rattle.std.specs.Prelude.{◌≡◌, ℕ, ◌-◌, ◌<◌, ◌≤◌, List, length, slice_index, vec_capacity}
use Rattle.std.specs.List.Sorted.{IsStrictlySortedBy}
use Rattle.std.specs.Map.{keys_of}
use Rattle.std.specs.Ordering.{nat_cmp}
use Rattle.std.specs.declared.vec.Vec.{Vec}
use Rattle.zb_types.specs.declared.ids.Ptr.{Ptr}

-- the blocks, and for how many more there is room
pub record SeenBlocks : Type 0 where
  pub pairs : List (ℕ × Ptr)
  pub room : ℕ

-- how many more items have room
abbrev pub room_of : {X Z : Type 0} → Vec X Z → ℕ
room_of v = vec_capacity v - length v.items

-- the numbers rise
abbrev pub IsRising : List (ℕ × Ptr) → Type 0
IsRising pairs = IsStrictlySortedBy nat_cmp (keys_of pairs)

-- the number at place i
abbrev pub number_at : List (ℕ × Ptr) → ℕ → ℕ
number_at pairs i = slice_index (keys_of pairs) i

-- the block with this number is at place i
pub record IsAt (pairs : List (ℕ × Ptr)) (number i : ℕ) : Type 0 where
  pub in_range : i < length pairs
  pub is : number_at pairs i ≡ number

-- a block with this number would go to place i: less before it, greater from it on
pub record IsGap (pairs : List (ℕ × Ptr)) (number i : ℕ) : Type 0 where
  pub in_range : i ≤ length pairs
  pub before : (j : ℕ) → j < i → number_at pairs j < number
  pub behind : (j : ℕ) → i ≤ j → j < length pairs → number < number_at pairs j

-- place i is where the blocks begin whose numbers aren't below this
pub record IsFirstFrom (pairs : List (ℕ × Ptr)) (number i : ℕ) : Type 0 where
  pub in_range : i ≤ length pairs
  pub before : (j : ℕ) → j < i → number_at pairs j < number
  pub behind : (j : ℕ) → i ≤ j → j < length pairs → number ≤ number_at pairs j
