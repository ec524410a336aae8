-- The bytes of a placed batch, stripe by stripe.
use Rattle.std.specs.Prelude.{◌≡◌, ℕ, ◌+◌, ◌-◌, ◌*◌, ◌≤◌, ◌==◌, List, [], ◌∷◌, ◌++◌, length, take, drop, if◌then◌else◌, Any}
use Rattle.std.specs.List.{AllZip, AllByRecursion}
use Rattle.zb_types.specs.declared.ids.Piece.{Piece}
use Rattle.zb_types.specs.declared.ids.Ptr.{Ptr}
use Rattle.zb_stripe.specs.declared.flush.Part.{Part}
use Rattle.zb_stripe.specs.declared.flush.Fresh.{Fresh}
use Rattle.zb_stripe.specs.Writing.{IsWritable, parity_upto}
use Rattle.zb_log.specs.Placing.{last_stripe}

-- all bytes of a piece's stripe: those before the piece, and the new ones
abbrev pub part_of : List ℕ → Piece → List ℕ → Part
part_of before piece new = record { stripe = piece.stripe; begin = length before; bytes = before ++ new }

-- the bytes that a log has of a stripe: none but of the stripe at work
abbrev pub given_of : ℕ → List ℕ → ℕ → List ℕ
given_of at_work given stripe = if stripe == at_work then given else []

-- a part for each piece, where the bytes of the pieces stand one behind the other
abbrev pub parts_of : ℕ → List ℕ → List Piece → List ℕ → List Part
parts_of at_work given [] new = []
parts_of at_work given (piece ∷ pieces) new =
    part_of (given_of at_work given piece.stripe) piece (take piece.len new)
    ∷ parts_of at_work given pieces (drop piece.len new)

-- the pieces have their bytes, and each begins at the end of those that the log has of its stripe
abbrev pub HaveBytes : ℕ → List ℕ → List Piece → List ℕ → Type 0
HaveBytes at_work given [] new = Unit {0}
HaveBytes at_work given (piece ∷ pieces) new =
    (piece.len ≤ length new) × (length (given_of at_work given piece.stripe) ≡ piece.offset)
    × HaveBytes at_work given pieces (drop piece.len new)

-- pieces with these bytes go behind bytes of the stripe at work that have this parity, each within its stripe
pub record GoBehind (n f at_work : ℕ) (parity : List ℕ) (pieces : List Piece) (new : List ℕ) : Type 0 where
  pub given : List ℕ
  pub sums : parity ≡ parity_upto n f given
  pub have : HaveBytes at_work given pieces new
  pub room : AllByRecursion (λ piece. piece.offset + piece.len ≤ (n - 1) * f) pieces

-- a part has the stripe of its piece, its new bytes begin where the piece does, and it ends where the piece does
pub record IsPartOf (piece : Piece) (part : Part) : Type 0 where
  pub stripe : part.stripe ≡ piece.stripe
  pub begin : part.begin ≡ piece.offset
  pub end : length part.bytes ≡ piece.offset + piece.len

-- a block stands in a part, at its address
pub record StandsIn (ptr : Ptr) (block : List ℕ) (part : Part) : Type 0 where
  pub stripe : part.stripe ≡ ptr.stripe
  pub bytes : take ptr.len (drop ptr.offset part.bytes) ≡ block

-- each block stands at its address
abbrev pub StandEach : List Part → List Ptr → List (List ℕ) → Type 0
StandEach parts ptrs blocks = AllZip (λ ptr block. Any (StandsIn ptr block) parts) ptrs blocks

-- the bytes at the pieces, one behind the other, where each part has the stripe of its piece
abbrev pub read_at : List Piece → List Part → List ℕ
read_at [] parts = []
read_at (piece ∷ pieces) [] = []
read_at (piece ∷ pieces) (part ∷ parts) = take piece.len (drop piece.offset part.bytes) ++ read_at pieces parts

-- a part of a log's stripe at work or of a later one: new bytes behind those that the log has of it, within the room
pub record GoesNext (room at_work : ℕ) (given : List ℕ) (part : Part) : Type 0 where
  pub writable : IsWritable room part
  pub begin : part.begin ≡ length (given_of at_work given part.stripe)
  pub front : take part.begin part.bytes ≡ given_of at_work given part.stripe
  pub above : at_work ≤ part.stripe
  pub lasting : part.stripe ≤ last_stripe

-- a part of the stripe at work or of a later one that a log may have
pub record LiesAhead (at_work : ℕ) (fresh : Fresh) : Type 0 where
  pub above : at_work ≤ fresh.stripe
  pub lasting : fresh.stripe ≤ last_stripe
