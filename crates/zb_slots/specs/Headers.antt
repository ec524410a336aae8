-- What the 40 bytes of a header say.
use Rattle.std.specs.Prelude.{◌≡◌, ℕ, ◌+◌, ◌<◌, ◌≤◌, ◌^◌, nat_lt, nat_le, ◌&&◌, ◌==◌, if◌then◌else◌, List, [], ◌∷◌, ◌++◌, replicate, slice_index, Option, None, Some}
use Rattle.byteorder.specs.Endian.{big_bytes, big_from}
use Rattle.zb_types.specs.declared.ids.FragId.{FragId}
use Rattle.zb_slots.specs.declared.header.Header.{Header}
use Rattle.zb_slots.specs.declared.header.Header.TheVariants.{Free, Share, Parity}

-- the name in a payload: its log, stripe and index
abbrev pub name_in : List ℕ → FragId
name_in payload = record { log = record { 0 = big_from 0 4 payload }; stripe = big_from 4 8 payload; index = slice_index payload 12 }

-- the header with this kind, name, turn and length, where n servers have room for f bytes in a fragment; none where they
-- don't go together
abbrev pub judged : (n f kind : ℕ) → FragId → (turn length : ℕ) → Option Header
judged n f kind id turn length =
    if kind == 0 && (id.index == 0 && (turn == 0 && length == 0)) then Some Free
    else (if kind == 1 && (nat_lt (id.index + 1) n && (turn == 0 && nat_le length f)) then Some (Share id length)
    else (if kind == 2 && (id.index + 1 == n && (nat_lt turn 3 && nat_le length f)) then Some (Parity id turn length) else None))

-- what a payload says
abbrev pub said : (n f : ℕ) → List ℕ → Option Header
said n f payload = judged n f (slice_index payload 13) (name_in payload) (slice_index payload 14) (big_from 16 4 payload)

-- forty bytes: the name, the kind, the turn, a zero, the length and zeros
abbrev pub payload_text : FragId → (kind turn length : ℕ) → List ℕ
payload_text id kind turn length = big_bytes 4 id.log.0 ++ big_bytes 8 id.stripe ++ (id.index ∷ kind ∷ turn ∷ 0 ∷ []) ++ big_bytes 4 length ++ replicate 20 0

-- the payload of a header
abbrev pub header_text : Header → List ℕ
header_text Free = replicate 40 0
header_text (Share id length) = payload_text id 1 0 length
header_text (Parity id turn length) = payload_text id 2 turn length

-- these numbers have room in a payload
pub record Fit (id : FragId) (length : ℕ) : Type 0 where
  pub log : id.log.0 < 2 ^ 32
  pub stripe : id.stripe < 2 ^ 64
  pub size : length < 2 ^ 32

-- the numbers of a header have room in a payload
abbrev pub HasRoom : Header → Type 0
HasRoom Free = Unit {0}
HasRoom (Share id length) = Fit id length
HasRoom (Parity id turn length) = Fit id length

-- a header may stand where n servers have room for f bytes in a fragment
abbrev pub MayStand : (n f : ℕ) → Header → Type 0
MayStand n f Free = Unit {0}
MayStand n f (Share id length) = (id.index + 1 < n) × (length ≤ f)
MayStand n f (Parity id turn length) = (id.index + 1 ≡ n) × ((turn < 3) × (length ≤ f))
