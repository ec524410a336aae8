-- Places in a log, and ranges of bytes.
use Rattle.std.specs.Prelude.{◌≡◌, ℕ, ◌+◌, ◌<◌, ◌≤◌, List, [], ◌∷◌}
use Rattle.zb_types.specs.declared.ids.LogId.{LogId}
use Rattle.zb_types.specs.declared.ids.Piece.{Piece}
use Rattle.zb_types.specs.declared.ids.Ptr.{Ptr}
use Rattle.zb_log.specs.declared.places.Place.{Place}

-- byte `offset` of a stripe
abbrev pub place : ℕ → ℕ → Place
place stripe offset = record { stripe = stripe; offset = offset }

-- n bytes further in the stripe
abbrev pub behind : Place → ℕ → Place
behind at n = place at.stripe (at.offset + n)

-- the first place isn't behind the second
pub record IsUpTo (from to : Place) : Type 0 where
  pub stripe : from.stripe ≤ to.stripe
  pub offset : from.stripe ≡ to.stripe → from.offset ≤ to.offset

-- n bytes at a place, as a piece
abbrev pub piece_at : Place → ℕ → Piece
piece_at at n = record { stripe = at.stripe; offset = at.offset; len = n }

-- n bytes of a log at a place, as a pointer
abbrev pub ptr_at : LogId → Place → ℕ → Ptr
ptr_at log at n = record { log = log; stripe = at.stripe; offset = at.offset; len = n }

-- the bytes that a pointer names
abbrev pub range_of : Ptr → Piece
range_of ptr = record { stripe = ptr.stripe; offset = ptr.offset; len = ptr.len }

-- where a range begins
abbrev pub start_of : Piece → Place
start_of range = place range.stripe range.offset

-- the place behind a range
abbrev pub end_of : Piece → Place
end_of range = place range.stripe (range.offset + range.len)

-- a range begins at a place or behind it, and ends within its stripe, which has so much room
pub record LiesBehind (room : ℕ) (from : Place) (range : Piece) : Type 0 where
  pub begins : IsUpTo from (start_of range)
  pub within : range.offset + range.len ≤ room

-- ranges between two places, each behind the one before, and each within a stripe
abbrev pub InOrder : ℕ → Place → List Piece → Place → Type 0
InOrder room from [] to = IsUpTo from to
InOrder room from (range ∷ ranges) to = LiesBehind room from range × InOrder room (end_of range) ranges to

-- a range begins where the one before it ended, or at the start of a later stripe
pub record BeginsNext (from : Place) (range : Piece) : Type 0 where
  pub stripe : from.stripe ≤ range.stripe
  pub here : range.stripe ≡ from.stripe → range.offset ≡ from.offset
  pub later : from.stripe < range.stripe → range.offset ≡ 0

-- a range lies within another
pub record IsWithin (whole range : Piece) : Type 0 where
  pub stripe : range.stripe ≡ whole.stripe
  pub begins : whole.offset ≤ range.offset
  pub ends : range.offset + range.len ≤ whole.offset + whole.len
