-- What contracts see of a log.
use Rattle.std.specs.Prelude.{◌≡◌, ℕ, ◌+◌, ◌-◌, ◌*◌, ◌≤◌, ◌<◌, List, [], ◌++◌, length, map, slice_get, Option, None, Some, Any}
use Rattle.std.specs.List.{concat}
use Rattle.zb_types.specs.declared.ids.LogId.{LogId}
use Rattle.zb_types.specs.declared.ids.Piece.{Piece}
use Rattle.zb_types.specs.declared.ids.Ptr.{Ptr}
use Rattle.zb_stripe.specs.declared.flush.Part.{Part}
use Rattle.zb_stripe.specs.declared.flush.Flush.{Flush}
use Rattle.zb_stripe.specs.declared.flush.Fresh.{Fresh}
use Rattle.zb_stripe.specs.declared.flush.FreshFlush.{FreshFlush}
use Rattle.zb_stripe.specs.Writing.{parity_upto}
use Rattle.zb_stripe.specs.Fresh.{IsFreshFlush}
use Rattle.zb_log.specs.declared.places.Place.{Place}
use Rattle.zb_log.specs.declared.placed.Placed.{Placed}
use Rattle.zb_log.specs.Places.{place, range_of, IsWithin, InOrder}
use Rattle.zb_log.specs.Sealing.{parts_of}
use Rattle.zb_log.specs.Placing.{Laid, begun, pieces_of, with_meta, with_batch, last_stripe, AreBlocks}

-- the servers, the bytes of a fragment, the room of a stripe, the most bytes of a block, the place that the log goes on
-- at, and the parity of its stripe up to there
pub record SeenLog : Type 0 where
  pub log : LogId
  pub servers : ℕ
  pub fragment : ℕ
  pub room : ℕ
  pub block : ℕ
  pub next : Place
  pub parity : List ℕ

-- these may be the bytes that the log gave of its stripe: they end where it goes on, and have its parity
pub record AreGiven (seen : SeenLog) (given : List ℕ) : Type 0 where
  pub long : length given ≡ seen.next.offset
  pub parity : seen.parity ≡ parity_upto seen.servers seen.fragment given

-- whichever bytes the log gave of its stripe
abbrev pub ForGiven : SeenLog → (List ℕ → Type 0) → Type 0
ForGiven seen P = (given : List ℕ) → AreGiven seen given → P given

-- the log goes on behind the bytes of its stripe, within a stripe into which each block fits
pub record IsSound (seen : SeenLog) : Type 0 where
  pub given : List ℕ
  pub are : AreGiven seen given
  pub sizes : seen.room ≡ (seen.servers - 1) * seen.fragment
  pub within : seen.next.offset ≤ seen.room
  pub fits : seen.block ≤ seen.room
  pub some : 0 < seen.room
  pub small : seen.room ≤ 983040
  pub lasting : seen.next.stripe ≤ last_stripe + 1

-- a batch that goes next in the log
abbrev pub laid_next : SeenLog → ℕ → List ℕ → Laid
laid_next seen meta blocks = with_batch (begun seen.log seen.room seen.next) meta blocks

-- the place behind a meta part that goes next
abbrev pub behind_meta : SeenLog → ℕ → Place
behind_meta seen meta = (with_meta (begun seen.log seen.room seen.next) meta).next

-- a batch that may be placed has its place next in the log
pub record IsPlaced (seen : SeenLog) (meta : ℕ) (blocks : List ℕ) (placed : Placed) : Type 0 where
  pub lens : AreBlocks seen.block blocks
  pub pieces : placed.pieces ≡ pieces_of (laid_next seen meta blocks)
  pub ptrs : placed.ptrs ≡ (laid_next seen meta blocks).ptrs
  pub next : placed.next ≡ (laid_next seen meta blocks).next
  pub lasting : placed.next.stripe ≤ last_stripe

-- where n bytes that were placed next lie: each stripe that they begin and leave takes at least `room - block` of
-- them, and there is at most one piece a stripe
pub record LiesInFew (seen : SeenLog) (n : ℕ) (placed : Placed) : Type 0 where
  pub stripes : (placed.next.stripe - seen.next.stripe - 1) * (seen.room - seen.block) ≤ n
  pub pieces : length placed.pieces ≤ placed.next.stripe - seen.next.stripe + 1

-- the flush of a batch that was placed next in the log, with these bytes, behind those given of its stripe
abbrev pub flush_of : SeenLog → List ℕ → Placed → List ℕ → Flush
flush_of seen given placed new =
    record { log = seen.log; parts = parts_of seen.next.stripe given placed.pieces new }

-- what is new of the flush of a batch that was placed next in the log, whichever bytes were given
pub record IsSealed (seen : SeenLog) (placed : Placed) (fresh : FreshFlush) : Type 0 where
  pub meta : List ℕ
  pub blocks : List (List ℕ)
  pub is_placed : IsPlaced seen (length meta) (map length blocks) placed
  pub parts : ForGiven seen (λ given. IsFreshFlush seen.servers seen.fragment (flush_of seen given placed (meta ++ concat blocks)) fresh)

-- these ranges lie behind the place that the log went on at, and before the one that it goes on at, each behind the
-- one before and within a stripe
abbrev pub Gives : SeenLog → List Piece → SeenLog → Type 0
Gives old ranges new = InOrder old.room old.next ranges new.next

-- the pointer of a block of n bytes: it names the log, and lies in a piece
pub record IsPtrIn (log : LogId) (pieces : List Piece) (ptr : Ptr) (n : ℕ) : Type 0 where
  pub log_is : ptr.log ≡ log
  pub len_is : ptr.len ≡ n
  pub in_piece : Any (λ piece. IsWithin piece (range_of ptr)) pieces

-- the last of some parts
abbrev pub last_of : {A : Type 0} → List A → Option A
last_of parts = slice_get parts (length parts - 1)

-- the bytes of a part, or those from before where there is none
abbrev pub bytes_with : List ℕ → Option Part → List ℕ
bytes_with given None = given
bytes_with given (Some part) = part.bytes

-- the parity with what is new of a stripe, or that from before where there is none
abbrev pub parity_with : List ℕ → Option Fresh → List ℕ
parity_with parity None = parity
parity_with parity (Some fresh) = fresh.parity

-- where a part ends, or a place where there is none
abbrev pub end_with : Place → Option Part → Place
end_with next None = next
end_with next (Some part) = place part.stripe (length part.bytes)

-- the log went on behind a batch: the stripe of its last part is at work
abbrev pub gone_on : SeenLog → Place → List Fresh → SeenLog
gone_on seen next parts = record seen { next = next; parity = parity_with seen.parity (last_of parts) }

-- the log goes on at the start of the stripe behind this one
abbrev pub renewed : SeenLog → ℕ → SeenLog
renewed seen last = record seen { next = place (last + 1) 0; parity = [] }
