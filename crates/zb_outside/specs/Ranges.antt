-- What a write does to the bytes of a platter, and what a crash may make of it.
use Rattle.std.specs.Prelude.{◌≡◌, ◌⊎◌, ◌+◌, ◌<◌, ◌≤◌, max, ℕ, zero, suc, List, length, replicate, slice_index, refl}
use Rattle.std.proofs.Common.{arith}

-- new may hold any bytes in a range of n and past the old end
pub record Torn (at n : ℕ) (old new : List ℕ) : Type 0 where
  pub no_shorter : length old ≤ length new
  pub no_longer : length new ≤ max (length old) (at + n)
  pub below : (i : ℕ) → i < length old → i < at → slice_index new i ≡ slice_index old i
  pub above : (i : ℕ) → i < length old → at + n ≤ i → slice_index new i ≡ slice_index old i

-- new is old with these bytes written, and zeros between the old end and them
pub record Written (at : ℕ) (bytes old new : List ℕ) : Type 0 where
  pub size : length new ≡ max (length old) (at + length bytes)
  pub within : (i : ℕ) → i < length bytes → slice_index new (at + i) ≡ slice_index bytes i
  pub below : (i : ℕ) → i < at → slice_index new i ≡ slice_index old i
  pub above : (i : ℕ) → at + length bytes ≤ i → slice_index new i ≡ slice_index old i

-- these bytes stand there, where past the end stand zeros
abbrev pub Reads : List ℕ → ℕ → List ℕ → Type 0
Reads image at bytes = (i : ℕ) → i < length bytes → slice_index bytes i ≡ slice_index image (at + i)

-- new is as long as old, and the same but for a range of n
pub record SameBeside (at n : ℕ) (old new : List ℕ) : Type 0 where
  pub same_length : length new ≡ length old
  pub same : (i : ℕ) → (i < at) ⊎ (at + n ≤ i) → slice_index new i ≡ slice_index old i

-- a write that changed nothing
pub torn_same : (at n : ℕ) (c : List ℕ) → Torn at n c c
torn_same at n c = record { no_shorter = omega arith; no_longer = omega arith; below = λ i lt h. refl; above = λ i lt h. refl }

-- a list of zeros has zeros, also past its end
pub zeros : (n i : ℕ) → let z : ℕ = 0 in slice_index (replicate n z) i ≡ z
zeros zero i = refl
zeros (suc n) zero = refl
zeros (suc n) (suc i) = zeros n i
