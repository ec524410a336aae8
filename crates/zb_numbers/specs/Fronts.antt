-- What a reader of a format finds at the front of some bytes.
use Rattle.std.specs.Prelude.{◌≡◌, ℕ, List, ◌++◌, Option, Some, None}

-- the value that stands at the front, with what is left behind it, or that none stands there
abbrev pub ReadsFront : {V : Type 0} → (V → Type 0) → (V → List ℕ) → List ℕ → Option (V × List ℕ) → Type 0
ReadsFront Is spell bytes (Some found) = Is found.0 × (spell found.0 ++ found.1 ≡ bytes)
ReadsFront {V} Is spell bytes None = (v : V) (rest : List ℕ) → Is v → spell v ++ rest ≡ bytes → ⊥

-- each value has one spelling, and no spelling of a value is a front of another's
abbrev pub IsPrefixFree : {V : Type 0} → (V → Type 0) → (V → List ℕ) → Type 0
IsPrefixFree {V} Is spell = (v w : V) (r s : List ℕ) → Is v → Is w → spell v ++ r ≡ spell w ++ s → (v ≡ w) × (r ≡ s)
