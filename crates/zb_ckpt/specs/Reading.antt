-- What reads leave of platter 0.
use Rattle.std.specs.Prelude.{◌≡◌, ℕ, List}
use Rattle.zb_outside.specs.Meaning.{Meaning}
use Rattle.zb_outside.specs.Runs.{Run}

-- a read gives what it gave, and a crash on the way or now leaves what it could have left before
pub record LeftAlone (old new : Meaning) : Type 0 where
  pub run : Run 0 (old.now.may_leave 0) old new
  pub seen : new.now.seen 0 ≡ old.now.seen 0
  pub left : (image : List ℕ) → new.now.may_leave 0 image → old.now.may_leave 0 image
