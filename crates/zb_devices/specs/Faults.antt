-- How the count of a platter's faults moves.
use Rattle.std.specs.Prelude.{◌≡◌, ◌≢◌, ◌<◌, ◌≤◌, ◌+◌, ℕ, Bool}
use Rattle.std.specs.Bool.{OnTrue}
use Rattle.zb_outside.specs.Counts.{at_last}

-- the count of platter p rose where a fault is told, or stands at its last value, and no other has moved
pub record CountsFault (p : ℕ) (tells_fault : Bool) (old new : ℕ → ℕ) : Type 0 where
  pub failed : OnTrue tells_fault (old p < new p + at_last (new p))
  pub later : old p ≤ new p
  pub others : (q : ℕ) → q ≢ p → new q ≡ old q
