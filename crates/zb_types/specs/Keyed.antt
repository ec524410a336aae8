-- Lists under numbers: pairs of a number and what stands under it, each number once, in the order of the numbers.
use Rattle.std.specs.Prelude.{ℕ, ◌==◌, nat_lt, if◌then◌else◌, List, [], ◌∷◌, Option, Some, None}

-- what stands under a number
abbrev pub look : {A : Type 0} → ℕ → List (ℕ × A) → Option A
look k [] = None
look k (e ∷ es) = if e.0 == k then Some e.1 else look k es

-- with this under a number
abbrev pub put : {A : Type 0} → ℕ → A → List (ℕ × A) → List (ℕ × A)
put k a [] = (k, a) ∷ []
put k a (e ∷ es) = if e.0 == k then (k, a) ∷ es else (if nat_lt k e.0 then (k, a) ∷ e ∷ es else e ∷ put k a es)

-- with another value under a number that has one
abbrev pub replaced : {A : Type 0} → ℕ → A → List (ℕ × A) → List (ℕ × A)
replaced k a [] = []
replaced k a (e ∷ es) = if e.0 == k then (k, a) ∷ es else e ∷ replaced k a es

-- with nothing under a number
abbrev pub without : {A : Type 0} → ℕ → List (ℕ × A) → List (ℕ × A)
without k [] = []
without k (e ∷ es) = if e.0 == k then without k es else e ∷ without k es

-- with each value changed
abbrev pub changed : {A B : Type 0} → (A → B) → List (ℕ × A) → List (ℕ × B)
changed f [] = []
changed f (e ∷ es) = (e.0, f e.1) ∷ changed f es
