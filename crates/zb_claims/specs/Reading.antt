-- What a reader of a format has to find.
use Rattle.std.specs.Prelude.{◌≡◌, ℕ, List, Option, Some, None}

-- the value that these bytes spell, or that they spell none
abbrev pub Reads : {V : Type 0} → (V → Type 0) → (V → List ℕ) → List ℕ → Option V → Type 0
Reads Is spell bytes (Some v) = Is v × (spell v ≡ bytes)
Reads {V} Is spell bytes None = (v : V) → Is v → spell v ≡ bytes → ⊥
