-- Where the bytes of a batch go in a log.
use Rattle.std.specs.Prelude.{ℕ, zero, suc, ◌+◌, ◌-◌, ◌<◌, ◌≤◌, nat_le, nat_lt, List, [], ◌∷◌, ◌++◌, fold, if◌then◌else◌, All, AllPairs}
use Rattle.zb_types.specs.declared.ids.LogId.{LogId}
use Rattle.zb_types.specs.declared.ids.Piece.{Piece}
use Rattle.zb_types.specs.declared.ids.Ptr.{Ptr}
use Rattle.zb_log.specs.declared.places.Place.{Place}
use Rattle.zb_log.specs.Places.{place, behind, piece_at, ptr_at}

-- what was placed so far: the pieces in the stripes that were left, where the piece in the stripe at hand begins,
-- the place behind it, and the pointers of the blocks
pub record Laid : Type 0 where
  pub log : LogId
  pub room : ℕ
  pub left : List Piece
  pub start : ℕ
  pub next : Place
  pub ptrs : List Ptr

-- nothing was placed yet
abbrev pub begun : LogId → ℕ → Place → Laid
begun log room from = record { log = log; room = room; left = []; start = from.offset; next = from; ptrs = [] }

-- the bytes of a stripe from one offset to another, where there are any
abbrev pub between : ℕ → ℕ → ℕ → List Piece
between stripe from to = if nat_lt from to then piece_at (place stripe from) (to - from) ∷ [] else []

-- the pieces so far, one a stripe
abbrev pub pieces_of : Laid → List Piece
pieces_of laid = laid.left ++ between laid.next.stripe laid.start laid.next.offset

-- the stripe at hand is left
abbrev pub turned : Laid → Laid
turned laid = record laid { left = pieces_of laid; start = 0; next = place (laid.next.stripe + 1) 0 }

-- n bytes that stay together go next, or to the next stripe where they don't fit into the rest
abbrev pub ready : Laid → ℕ → Laid
ready laid n = if nat_le (laid.next.offset + n) laid.room then laid else turned laid

-- n bytes go at the place at hand
abbrev pub moved : Laid → ℕ → Laid
moved laid n = record laid { next = behind laid.next n }

-- n bytes that stay together go next
abbrev pub added : Laid → ℕ → Laid
added laid n = moved (ready laid n) n

-- a meta part goes byte after byte, over the ends of stripes
abbrev pub with_meta : Laid → ℕ → Laid
with_meta laid zero = laid
with_meta laid (suc n) = with_meta (added laid 1) n

-- a block stays together, and has a pointer
abbrev pub with_block : Laid → ℕ → Laid
with_block laid n = record (added laid n) { ptrs = laid.ptrs ++ ptr_at laid.log (ready laid n).next n ∷ [] }

-- a batch: its meta part, then each block
abbrev pub with_batch : Laid → ℕ → List ℕ → Laid
with_batch laid meta blocks = fold with_block (with_meta laid meta) blocks

-- where n bytes that stay together go, from a place on
abbrev pub room_at : ℕ → Place → ℕ → Place
room_at room at n = if nat_le (at.offset + n) room then at else place (at.stripe + 1) 0

-- the place behind n bytes that stay together
abbrev pub behind_room : ℕ → Place → ℕ → Place
behind_room room at n = behind (room_at room at n) n

-- the place behind a meta part
abbrev pub meta_end : ℕ → Place → ℕ → Place
meta_end room at zero = at
meta_end room at (suc n) = meta_end room (behind_room room at 1) n

-- the place behind blocks
abbrev pub blocks_end : ℕ → Place → List ℕ → Place
blocks_end room at lens = fold (behind_room room) at lens

-- the last stripe that a log may have, 2 ^ 48
abbrev pub last_stripe : ℕ
last_stripe = 281474976710656

-- blocks have from 1 to so many bytes
abbrev pub AreBlocks : ℕ → List ℕ → Type 0
AreBlocks block lens = All (λ n. (1 ≤ n) × (n ≤ block)) lens

-- each piece is in a later stripe than the one before
abbrev pub OneAStripe : List Piece → Type 0
OneAStripe pieces = AllPairs (λ one other. one.stripe < other.stripe) pieces
