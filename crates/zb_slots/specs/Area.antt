-- What is written of a parity at once: its lengths area of 64 bytes, and its body behind that.
use Rattle.std.specs.Prelude.{◌≡◌, ℕ, ◌+◌, ◌*◌, ◌<◌, ◌≤◌, List, length, drop, slice_index}
use Rattle.zb_slots.specs.Slots.{numbers_at}

-- the m lengths in an area
abbrev pub lengths_in : (m : ℕ) → List ℕ → List ℕ
lengths_in m area = numbers_at (slice_index area) 0 m

-- an area has these lengths with zeros behind them, and then these bytes
pub record IsArea (lengths bytes area : List ℕ) : Type 0 where
  pub head : lengths_in (length lengths) area ≡ lengths
  pub zeros : (i : ℕ) → 4 * length lengths ≤ i → i < 64 → slice_index area i ≡ 0
  pub body : drop 64 area ≡ bytes
  pub size : length area ≡ 64 + length bytes
