-- The bytes of a script that were taken and not yet used.
use Rattle.std.specs.Prelude.{ℕ, Bool, false, not, is_none, ◌&&◌, ◌==◌, nat_le, List, [], length, position}
use Rattle.zb_script.specs.Places.{max_line}

-- the bytes that were taken and not yet used, and whether the script has no more
pub record Pending : Type 0 where
  pub rest : List ℕ
  -- the script has no more bytes
  pub ended : Bool

-- none, at the start
abbrev pub none_pending : Pending
none_pending = record { rest = []; ended = false }

-- whether a line without an end may go on
abbrev pub wants_more : Pending → Bool
wants_more p = not p.ended && nat_le (length p.rest) max_line && is_none (position (λ b. b == 10) p.rest)
