-- Which copy a change is written to.
use Rattle.std.specs.Prelude.{◌≡◌, ◌⊎◌, ℕ, ◌+◌, ◌<◌, ◌==◌, true, if◌then◌else◌, List, Option, None, Some}
use Rattle.zb_cell.specs.Cell.{value_of, counts, following, window}
use Rattle.zb_cell.specs.declared.cell.Work.{Work}

-- the value where one copy alone can count
abbrev pub alone : (ℕ → ℕ) → ℕ → Option (List ℕ)
alone f at = if counts f at then Some (window f (at + 8) 40) else None

-- the copy at `at` is free: the value is that of the other
pub record IsFree (f : ℕ → ℕ) (at other turn : ℕ) : Type 0 where
  pub value : value_of f ≡ alone f other
  pub follows : counts f other ≡ true → turn ≡ following (f (other + 1))
  pub small : turn < 3

-- this copy is free, with its turn and whether its gate stands open
abbrev pub Works : (ℕ → ℕ) → Work → Type 0
Works f w = (w.is_open ≡ (f w.at == 1)) × (((w.at ≡ 0) × IsFree f 0 64 w.turn) ⊎ ((w.at ≡ 64) × IsFree f 64 0 w.turn))
