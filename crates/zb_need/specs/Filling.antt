-- How full the stripes of a log are up to a place.
use Rattle.std.specs.Prelude.{ℕ, ◌+◌, ◌*◌, ◌≤◌, min}
use Rattle.zb_log.specs.declared.places.Place.{Place}

-- so many bytes fill at least half of what a log has up to a place, where each stripe has this room
abbrev pub HalfFull : ℕ → Place → ℕ → Type 0
HalfFull room at bytes = at.stripe * room + at.offset ≤ 2 * bytes

-- how many stripes a log has begun up to a place: its own one counts where bytes of it lie before the place
abbrev pub stripes_begun : Place → ℕ
stripes_begun at = at.stripe + min 1 at.offset
