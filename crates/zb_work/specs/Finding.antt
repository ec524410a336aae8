-- Blocks by rising numbers.
use Rattle.std.specs.Prelude.{ℕ, ◌+◌, ◌≤◌, List, [], ◌∷◌}
use Rattle.zb_types.specs.declared.ids.Ptr.{Ptr}

-- the numbers of the blocks rise, from this one on
abbrev pub RisesFrom : ℕ → List (ℕ × Ptr) → Type 0
RisesFrom least [] = Unit {0}
RisesFrom least (block ∷ blocks) = (least ≤ block.0) × RisesFrom (block.0 + 1) blocks
