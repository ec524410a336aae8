-- Runs of calls of a log, and the addresses that they give.
use Rattle.std.specs.Prelude.{◌≡◌, ℕ, ◌+◌, ◌<◌, ◌≤◌, List, [], ◌∷◌, ◌++◌, AllPairs}
use Rattle.zb_types.specs.declared.ids.Piece.{Piece}
use Rattle.zb_log.specs.declared.places.Place.{Place}
use Rattle.zb_log.specs.Places.{place, IsUpTo}
use Rattle.zb_log.specs.Logs.{SeenLog, Gives, renewed}

-- what a call does to a log: going on behind a batch gives the addresses of some ranges, and going on behind a
-- stripe gives none
pub data Step : Type 0 where
  gives : List Piece → Step
  goes_on_after : ℕ → Step

-- calls lead from one log to another
abbrev pub IsRun : SeenLog → List Step → SeenLog → Type 0
IsRun old [] new = old ≡ new
IsRun old (gives ranges ∷ steps) new =
    (mid : SeenLog) × Gives old ranges mid × (mid.room ≡ old.room) × IsRun mid steps new
IsRun old (goes_on_after last ∷ steps) new =
    IsUpTo old.next (place (last + 1) 0) × IsRun (renewed old last) steps new

-- the ranges that calls give, in order
abbrev pub given_by : List Step → List Piece
given_by [] = []
given_by (gives ranges ∷ steps) = ranges ++ given_by steps
given_by (goes_on_after last ∷ steps) = given_by steps

-- a byte of a range
pub record IsIn (range : Piece) (at : Place) : Type 0 where
  pub stripe : at.stripe ≡ range.stripe
  pub begins : range.offset ≤ at.offset
  pub ends : at.offset < range.offset + range.len

-- no address is in both
abbrev pub AreApart : Piece → Piece → Type 0
AreApart one other = (at : Place) → IsIn one at → IsIn other at → ⊥

-- whatever was called, no address is given twice
abbrev pub GivesNoAddressTwice : Type 0
GivesNoAddressTwice =
    (old new : SeenLog) (steps : List Step) → IsRun old steps new → AllPairs AreApart (given_by steps)
